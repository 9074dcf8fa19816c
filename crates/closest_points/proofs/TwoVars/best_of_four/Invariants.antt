use Prim.Native.Nat.{ℕ}
use mathlib.Core.Path.{◌≡◌}
use mathlib.Core.List.{List, [], ◌∷◌}
use mathlib.Core.Option.{Option}
use lib.ListN.{drop}
use Rattle.units.specs.declared.Hits.{Hits}
use Rattle.closest_laws.specs.Loops.{Kept, each, scan, nearer}
use Rattle.closest_laws.specs.Closest.{split_at}
use Rattle.closest_points.specs.declared.TwoVars.{TwoVars}
use Rattle.closest_points.specs.Code.{pair_view, near_by}
use Rattle.closest_points.proofs.TwoVars.best_of_four.Given as goal

-- the candidate with so many hits at w1
abbrev pub tries : TwoVars → Hits → List (Kept (Option ℕ) (List ℕ))
tries s x = split_at s.w1 s.w2 s.target.0 s.remain_hits.0 s.provided_sum.0 x.0 ∷ []

abbrev pub invariant-loop-x : goal.invariant-loop-x
invariant-loop-x l =
    scan nearer (each (drop l.x-index l.x-items) (tries l.self)) (near_by pair_view l.near)
    ≡ scan nearer (each l.x-items (tries l.self)) (near_by pair_view l.initial.near)
