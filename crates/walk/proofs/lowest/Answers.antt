-- `lowest` is the definition's lo, and its distance.
use Prim.Native.Nat.{ℕ, ◌+◌, ◌-◌, ◌*◌, ◌/◌, ◌%◌, ◌<◌, ◌≤◌}
use mathlib.Core.List.{List, [], ◌∷◌}
use mathlib.Core.Path.{◌≡◌, sym, ◌∙◌}
use native.Mathlib.Omega.{arith}
use borrow.Author.Tests.{ltb-true, ltb-false}
use Rattle.units.proofs.Order.{lt_of}
use Rattle.nearest_laws.proofs.Low.{Divided, low_over, low_rest, low_cut}
use Rattle.walk.specs.declared.Setting.{Setting}
use Rattle.walk.proofs.lowest.Goals as goal

abbrev middles : Setting → List ℕ
middles s = s.n300.0 ∷ s.n200.0 ∷ s.n100.0 ∷ []

-- the division of what the points with all hits left at c, b, leave to the target
divided
    : {a c T r p b d n k : ℕ} → c < a → b ≡ p + c * r → b ≤ T → d ≡ T - b → (n ≡ d / (a - c)) × (k ≡ d % (a - c))
    → Divided a c T r p n k
divided o e l f q = let g = rw (f, e) at q in record { order = o; base = omega (arith, e, l); quotient = g.0; rest = g.1 }

pub returns-then-lt : goal.returns-then-lt
returns-then-lt c =
    let x = c.args in
    let b : c.add-base.result.0 ≡ x.at.points.0 + x.plan.c * x.at.left.0 = omega arith in
    let l : x.plan.target.0 < c.add-base.result.0 = ltb-true _ _ (sym (lt_of _ _ _ c.lt.ensures) ∙ c.if-lt.true) in
    let e = low_over x.plan.a x.plan.c x.plan.target.0 x.at.left.0 x.at.points.0 (middles x.at) c.requires.0 (omega (arith, l, b)) in
    record { top = e.0; below = e.1; above = rw (c.sub.ensures, b) e.2; under = λ l. omega (arith, c.requires.0) }

pub returns-then-lt-2 : goal.returns-then-lt-2
returns-then-lt-2 c =
    let u = ltb-false _ _ (sym (lt_of _ _ _ c.lt.ensures) ∙ c.if-lt.false) in
    let d = divided c.requires.0 (omega arith) u c.sub-2.ensures c.steps-steps.ensures in
    let e = low_rest d (middles c.args.at) (ltb-true _ _ (sym (lt_of _ _ _ c.lt-2.ensures) ∙ c.if-lt-2.true)) in
    record { top = e.0; below = e.1; above = e.2; under = λ l. e.3 }

pub returns : goal.returns
returns c =
    let u = ltb-false _ _ (sym (lt_of _ _ _ c.lt.ensures) ∙ c.if-lt.false) in
    let d = divided c.requires.0 (omega arith) u c.sub-2.ensures c.steps-steps.ensures in
    let e = low_cut d (middles c.args.at) (ltb-false _ _ (sym (lt_of _ _ _ c.lt-2.ensures) ∙ c.if-lt-2.false)) in
    record {
      top = e.0;
      below = rw (c.add.ensures, c.mul-2.ensures, c.sub-3.ensures) e.1;
      above = e.2;
      under = λ l. absurd (omega arith);
    }
