-- `stride_row` reads the definition's table: the constant's rows are its rows.
use Prim.Native.Nat.{ℕ, zero, suc, ◌+◌, ◌%◌, ◌<◌}
use mathlib.Core.Path.{◌≡◌, refl, sym, ap, ◌∙◌}
use mathlib.Core.List.{List, [], ◌∷◌}
use lib.ListN.{length, get_or}
use native.Mathlib.Nat.{zero-add}
use native.Mathlib.Omega.{arith}
use Rattle.stride_rows.specs.Strides.{stride_table}
use Rattle.stride_rows.proofs.stride_row.Goals as goal

-- what stands at a place of a list does not depend on what would stand past it
inside : (xs : List (List ℕ)) (k : ℕ) (d e : List ℕ) → k < length xs → get_or xs k d ≡ get_or xs k e
inside [] k d e h = absurd (omega arith)
inside (x ∷ xs) zero d e h = refl
inside (x ∷ xs) (suc k) d e h = inside xs k d e (omega arith)

pub returns-then-classic : goal.returns-then-classic
unfolding stride_table
returns-then-classic c =
    let bits = c.args.presence % 32 in
    rw c.if-classic.true (c.widened.ensures ∙ inside stride_table (32 + bits) _ [] (omega arith))

pub returns-else-classic : goal.returns-else-classic
unfolding stride_table
returns-else-classic c =
    let bits = c.args.presence % 32 in
    rw c.if-classic.false
    (c.widened-else-classic.ensures ∙ inside stride_table bits _ [] (omega arith) ∙ ap (λ (k : ℕ). get_or stride_table k []) (sym (zero-add bits)))
