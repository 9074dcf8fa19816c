-- `closest_points::Near::last_at` offers the last three with so many n200. Assumes nothing.
use Prim.Native.Nat.{ℕ}
use mathlib.Core.Path.{◌∙◌, ap}
use mathlib.Core.Option.{Option}
use Rattle.closest_laws.specs.Loops.{Kept, offer, nearer}
use Rattle.closest_laws.specs.Closest.{Last, last_at}
use Rattle.closest_laws.proofs.Steps.{offer_by}
use Rattle.closest_points.specs.Code.{last_view, near_by}
use Rattle.closest_points.proofs.Near+Three.last_at.Goals as goal

pub returns : goal.returns
unfolding last_at
returns c =
    let two = c.two_of_last.ensures in
    offer_by nearer last_view _ _ _ c.offer.ensures
    ∙ ap (λ (t : Kept (Option ℕ) Last). offer nearer t (near_by last_view c.args.self))
    (rw (c.gap.ensures, c.add-score.ensures, c.add-2.ensures, c.mul-3.ensures, c.add.ensures, c.mul-2.ensures, c.mul.ensures, two.lighter, two.heavier))
