-- What `<` and `min` of `Hits` and `Points` say of their numbers, in the words of the definitions. Assumes nothing.
use mathlib.Core.Path.{◌≡◌, refl, sym, ap, ◌∙◌}
use mathlib.Core.Bool.{Bool, true, false}
use Prim.Native.Nat.{ℕ, ◌<◌, ◌≤◌}
use native.Mathlib.Omega.{arith}
use borrow.Author.Tests.{ltb-true, ltb-false}
use Rattle.std.specs.Prelude.{cond, ltb, min, nat_lt, ◌==◌}
use Rattle.std.specs.Ordering.{nat_cmp, is_lt, ord_min}
use Rattle.std.specs.declared.cmp.Ordering.TheVariants.{Less, Equal, Greater}
use Rattle.units.specs.declared.Hits.{Hits}
use Rattle.units.specs.contracts.HitsOrd.TheImpl as HitsOrder

is_lt-cond : (t u : Bool) → is_lt (cond t Less (cond u Equal Greater)) ≡ t
is_lt-cond true u = refl
is_lt-cond false true = refl
is_lt-cond false false = refl

pub lt_of : (a b : ℕ) (r : Bool) → r ≡ is_lt (nat_cmp a b) → r ≡ ltb a b
lt_of a b r e = e ∙ is_lt-cond (nat_lt a b) (a == b)

pick : (a b : Hits) (t : Bool) → ltb b.0 a.0 ≡ t → (cond t b a).0 ≡ min a.0 b.0
pick a b true e = let h = ltb-true b.0 a.0 e in omega arith
pick a b false e = let h = ltb-false b.0 a.0 e in omega arith

pub min_of : (a b r : Hits) → r ≡ ord_min HitsOrder.cmp-value.it a b → r.0 ≡ min a.0 b.0
min_of a b r e = ap (λ (h : Hits). h.0) e ∙ pick a b (is_lt (nat_cmp b.0 a.0)) (sym (lt_of b.0 a.0 (is_lt (nat_cmp b.0 a.0)) refl))
