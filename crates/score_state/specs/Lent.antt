-- Document 01, Where a row or sheet stops: "A direct call .. refuses .. with no counts." A call that is lent an output answers a status, and
-- writes its values only where that is 0. An output without room for them is refused by 5, before anything else, and left unchanged.
use Rattle.std.specs.Prelude.{ℕ, Bool, true, false, List, ◌++◌, ltb, length, drop}
use Rattle.score_state.specs.declared.HitResults.{HitResults}
use Rattle.score_state.specs.Answer.{Answer, status_of, values_of}

-- six counts that are handed over as numbers
abbrev pub six_counts : ℕ → ℕ → ℕ → ℕ → ℕ → ℕ → HitResults
six_counts n320 n300 n200 n100 n50 misses = record { n320 = n320; n300 = n300; n200 = n200; n100 = n100; n50 = n50; misses = misses }

-- a call's result and what its output holds at the end
pub record Lent : Type 0 where
  pub status : ℕ
  pub out : List ℕ

abbrev pub lent : ℕ → List ℕ → Lent
lent status out = record { status = status; out = out }

abbrev pub either : Bool → Lent → Lent → Lent
either true a b = a
either false a b = b

-- an answer's values, in front of what the output held; one that is refused has none
abbrev pub answered : Answer (List ℕ) → List ℕ → Lent
answered a out = lent (status_of a) (values_of a ++ drop (length (values_of a)) out)

-- the same of an answer of n values, where 5 comes before anything else
unfoldable pub handed : ℕ → Answer (List ℕ) → List ℕ → Lent
handed n a out = either (ltb (length out) n) (lent 5 out) (answered a out)
