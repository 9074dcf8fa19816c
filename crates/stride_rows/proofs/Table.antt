-- The table's rule: tested once, over the 64 rows, and carried to each of them.
use Prim.Native.Nat.{ℕ, zero, suc, ◌+◌, ◌%◌, ◌<◌}
use mathlib.Core.Path.{◌≡◌, refl, sym, ap, ap₂, ◌∙◌}
use mathlib.Core.Bool.{Bool, true, false, cond}
use mathlib.Core.List.{List, [], ◌∷◌}
use lib.Dec.{ltb}
use lib.ListN.{get_or}
use native.Mathlib.Nat.{zero-add, add-zero, add-suc, suc-add}
use native.Mathlib.Omega.{arith}
use borrow.Author.Tests.{lt-ltb, le-ltb}
use Rattle.score_state.specs.Points.{standard}
use Rattle.score_state.specs.Given.{missing}
use Rattle.inspect.proofs.Lacking.{bit}
use Rattle.nearest_laws.specs.Walk.{last_of, stride, gcd, gcd_in}
use Rattle.nearest_laws.specs.Places.{slot_of, slots}
use Rattle.nearest_laws.specs.Nearest.{fold}
use Rattle.stride_rows.specs.Strides.{first_of, strides_of, pattern_of, row_rule, row_of, stride_table}

-- n rows of a rule, from row i on
abbrev ruled : (ℕ → List ℕ) → ℕ → ℕ → List (List ℕ)
ruled f i zero = []
ruled f i (suc n) = f i ∷ ruled f (suc i) n

at : (f : ℕ → List ℕ) (i n k : ℕ) → k < n → get_or (ruled f i n) k [] ≡ f (i + k)
at f i zero k h = absurd (omega arith)
at f i (suc n) zero h = ap f (sym (add-zero i))
at f i (suc n) (suc k) h = at f (suc i) n k (omega arith) ∙ ap f (suc-add i k ∙ sym (add-suc i k))

-- the test: the formula computes all 320 entries
tested : stride_table ≡ ruled (row_rule (standard false) (standard true)) 0 64
unfolding stride_table strides_of first_of slots slot_of missing fold last_of stride gcd gcd_in
tested = refl

pub table_right : (r : ℕ) → r < 64 → get_or stride_table r [] ≡ row_rule (standard false) (standard true) r
table_right r h =
    let f = row_rule (standard false) (standard true) in
    ap (λ (t : List (List ℕ)). get_or t r []) tested ∙ at f 0 64 r h ∙ ap f (zero-add r)

-- the bits above the five play no part
pattern_low : (p : ℕ) → pattern_of (p % 32) ≡ pattern_of p
pattern_low p = sym (rw (bit p 1 (omega arith), bit p 2 (omega arith), bit p 4 (omega arith), bit p 8 (omega arith), bit p 16 (omega arith)))

-- the row that is read is the formula's, of the standard weighting and the counts that are given
module _ (p : ℕ) where
  read
      : (classic : Bool) (r : ℕ) → r < 64 → r % 32 ≡ p % 32 → cond (ltb r 32) (standard false) (standard true) ≡ standard classic
      → get_or stride_table r [] ≡ strides_of (standard classic) (pattern_of p)
  read classic r h low e = table_right r h ∙ ap₂ strides_of e (ap pattern_of low ∙ pattern_low p)

  pub row-right : (classic : Bool) → get_or stride_table (row_of classic p) [] ≡ strides_of (standard classic) (pattern_of p)
  row-right true = read true (row_of true p) (omega arith) (omega arith) (rw (le-ltb (row_of true p) 32 (omega arith)))
  row-right false = read false (row_of false p) (omega arith) (omega arith) (rw (lt-ltb (row_of false p) 32 (omega arith)))
