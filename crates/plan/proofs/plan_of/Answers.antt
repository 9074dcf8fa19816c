-- `plan_of` is the plan of the walk after step 1.
use Prim.Native.Nat.{ℕ}
use mathlib.Core.List.{List}
use mathlib.Core.Path.{◌≡◌, refl, ap, ◌∙◌}
use lib.ListN.{get_or}
use Rattle.inspect.specs.Presence.{has}
use Rattle.plan.specs.Planned.{folded_of, Ends}
use Rattle.plan.proofs.Strides.{strides_at, strides_ends, slot-made}
use Rattle.plan.proofs.plan_of.Goals as goal

pub returns : goal.returns
returns c =
    let x = c.args in
    let w = x.weights in
    let p = folded_of w x.presence in
    let a = c.heaviest-a.result in
    let z = c.lightest-c.result in
    let f = c.folded-p.ensures in
    let e : Ends w p a z = record { heaviest = λ g. rw f at (c.heaviest-a.ensures g); lightest = λ g. rw f at (c.lightest-c.ensures g) } in
    let s : c.walked_strides-strides.result ≡ strides_at a z w p = c.walked_strides-strides.ensures ∙ strides_ends w x.presence a z e in
    record {
      ends = e;
      n300 = λ n. c.middle.ensures ∙ slot-made a z w.n300 (has p 2) _ (ap (λ (l : List ℕ). get_or l 1 0) s) _ refl n;
      n200 = λ n. c.middle-2.ensures ∙ slot-made a z w.n200 (has p 4) _ (ap (λ (l : List ℕ). get_or l 2 0) s) _ refl n;
      n100 = λ n. c.middle-3.ensures ∙ slot-made a z w.n100 (has p 8) _ (ap (λ (l : List ℕ). get_or l 3 0) s) _ refl n;
      target = refl;
    }
