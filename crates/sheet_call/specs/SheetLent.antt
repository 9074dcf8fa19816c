-- The call nuqsillay_work_sheet of include/nuqsillay.h, which carries document 02's L10, "these seven numbers in its result": its status, all
-- bytes of its output, and all numbers behind its pointer to totals.
use Rattle.std.specs.Prelude.{ℕ, cond, List, ◌++◌, ltb, length, drop}
use Rattle.score_state.specs.Answer.{Answer, worked, refused, status_of}
use Rattle.sheets_laws.specs.Sheets.{SheetNumbers, sheet_of}

pub record SheetLent : Type 0 where
  pub status : ℕ
  pub out : List ℕ
  pub totals : List ℕ

abbrev pub sheet_lent : ℕ → List ℕ → List ℕ → SheetLent
sheet_lent status out totals = record { status = status; out = out; totals = totals }

-- an answer's seven numbers in front of what stood there; a refused sheet has none
abbrev pub totals_lent : Answer SheetNumbers → List ℕ → List ℕ
totals_lent (worked x) old = x.totals ++ drop 7 old
totals_lent (refused n) old = old

-- too few places for the totals are told before anything that `sheet_of` tells
abbrev pub sheet_handed : List ℕ → List ℕ → List ℕ → SheetLent
sheet_handed s out totals =
    cond (ltb (length totals) 7) (sheet_lent 5 out totals)
    (sheet_lent (status_of (sheet_of s out).answer) (sheet_of s out).bytes (totals_lent (sheet_of s out).answer totals))
