-- What a call wrote that answered a text's length is the text.
-- Assumes nothing.
use mathlib.Core.Path.{◌≡◌, refl, sym, subst}
use mathlib.Core.Bool.{Bool, true, false, cond}
use mathlib.Core.List.{List, ◌++◌}
use Prim.Native.Nat.{ℕ}
use lib.ListN.{length, take, drop}
use lib.Seq.{take_at}
use Rattle.std.specs.Prelude.{Ok}
use Rattle.typed_text.specs.SheetText.{TextAnswer, text, refused, row, short, stop_of, first_stopped, fault_at, text_of, sheet_text, Outcome, Says}

-- where a length is answered, so many bytes are the text
abbrev Whole : List ℕ → TextAnswer → List ℕ → Type 0
Whole t (text n) bytes = take n bytes ≡ t
Whole t (refused n) bytes = Unit {0}
Whole t (row i n) bytes = Unit {0}
Whole t short bytes = Unit {0}

whole : (s out : List ℕ) → Whole (text_of s) (sheet_text s out).answer (sheet_text s out).bytes
unfolding sheet_text
whole s out = go _ _ _
  where
    answer : Bool → Bool → Bool → Outcome
    answer a b c =
        cond a (record { answer = refused (stop_of s); bytes = out })
        (cond b (record { answer = row (first_stopped s) (fault_at s (first_stopped s)); bytes = out })
        (cond c (record { answer = short; bytes = out })
        (record { answer = text (length (text_of s)); bytes = text_of s ++ drop (length (text_of s)) out })))

    go : (a b c : Bool) → Whole (text_of s) (answer a b c).answer (answer a b c).bytes
    go true b c = tt
    go false true c = tt
    go false false true = tt
    go false false false = take_at (text_of s) (drop (length (text_of s)) out) (length (text_of s)) refl

pub text_written : (s out out' : List ℕ) (n : ℕ) → Says (sheet_text s out) (Ok n) out' → take n out' ≡ text_of s
text_written s out out' n says =
    let o = sheet_text s out in
    subst (λ (b : List ℕ). Whole (text_of s) (text n) b) (sym says.holds) (subst (λ (x : TextAnswer). Whole (text_of s) x o.bytes) (sym says.answers) (whole s out))
