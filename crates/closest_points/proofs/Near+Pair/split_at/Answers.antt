-- `closest_points::Near::split_at` offers the split with x of the hits at the first weight. Assumes nothing.
use Prim.Native.Nat.{ℕ}
use mathlib.Core.Path.{◌∙◌, ap}
use mathlib.Core.List.{List}
use mathlib.Core.Option.{Option}
use Rattle.closest_laws.specs.Loops.{Kept, offer, nearer}
use Rattle.closest_laws.specs.Closest.{split_at}
use Rattle.closest_laws.proofs.Steps.{offer_by}
use Rattle.closest_points.specs.Code.{pair_view, near_by}
use Rattle.closest_points.proofs.Near+Pair.split_at.Goals as goal

pub returns : goal.returns
unfolding split_at
returns c =
    offer_by nearer pair_view _ _ _ c.offer.ensures
    ∙ ap (λ (t : Kept (Option ℕ) (List ℕ)). offer nearer t (near_by pair_view c.args.self))
    (rw (c.gap.ensures, c.add-score.ensures, c.add.ensures, c.mul-2.ensures, c.mul.ensures, c.sub-y.ensures))
