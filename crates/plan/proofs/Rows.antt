-- Weights that are standard ones have their strides in a row of the table.
use Prim.Native.Nat.{ℕ}
use mathlib.Core.Bool.{Bool, true, ◌&&◌, and-true as and-unit}
use mathlib.Core.List.{List, [], ◌∷◌}
use mathlib.Core.Path.{◌≡◌, refl, sym, ap, ap₂, ◌∙◌, subst}
use lib.Dec.{eqb, T}
use lib.ListN.{get_or}
use borrow.Author.Tests.{eqb-true}
use Rattle.score_state.specs.Points.{weights_of, standard}
use Rattle.score_state.specs.declared.Weights.{Weights}
use Rattle.nearest_laws.proofs.Nearest.{and-true}
use Rattle.nearest_laws.proofs.Near.{both_true}
use Rattle.stride_rows.specs.Strides.{strides_of, pattern_of, row_of, stride_table}
use Rattle.stride_rows.proofs.Table.{row-right}
use Rattle.plan.specs.Planned.{same}

-- two lists that pass the test are the same
same-is : (xs ys : List ℕ) → same xs ys ≡ true → xs ≡ ys
same-is [] [] e = refl
same-is [] (y ∷ ys) e = absurd (subst (λ (b : Bool). T b) (sym e) tt)
same-is (x ∷ xs) [] e = absurd (subst (λ (b : Bool). T b) (sym e) tt)
same-is (x ∷ xs) (y ∷ ys) e =
    ap₂ (λ (z : ℕ) (zs : List ℕ). z ∷ zs) (eqb-true x y (and-true (eqb x y) (same xs ys) e)) (same-is xs ys (both_true (eqb x y) (same xs ys) e))

-- the code's `==` of two weightings is the test
same-weights
    : (w v : Weights)
    → same (weights_of w) (weights_of v) ≡ eqb w.n320 v.n320 && (eqb w.n300 v.n300 && (eqb w.n200 v.n200 && (eqb w.n100 v.n100 && eqb w.n50 v.n50)))
same-weights w v = rw (and-unit (eqb w.n50 v.n50)) refl

pub row_of-weights
    : (classic : Bool) (p : ℕ) (w v : Weights)
    → (eqb w.n320 v.n320 && (eqb w.n300 v.n300 && (eqb w.n200 v.n200 && (eqb w.n100 v.n100 && eqb w.n50 v.n50)))) ≡ true
    → weights_of v ≡ standard classic → get_or stride_table (row_of classic p) [] ≡ strides_of (weights_of w) (pattern_of p)
row_of-weights classic p w v e f =
    row-right p classic
    ∙ ap (λ (us : List ℕ). strides_of us (pattern_of p)) (sym (same-is (weights_of w) (weights_of v) (same-weights w v ∙ e) ∙ f))
