use Prim.Native.Nat.{ℕ, ◌≤◌}
use mathlib.Core.Path.{◌≡◌}
use mathlib.Core.List.{List, [], ◌∷◌}
use mathlib.Core.Option.{Option}
use Rattle.std.specs.Range.{range_inclusive_end}
use Rattle.closest_laws.specs.Loops.{Kept, each, scan, nearer}
use Rattle.closest_laws.specs.Closest.{Last, last_at}
use Rattle.closest_points.specs.declared.LastThree.{LastThree}
use Rattle.closest_points.specs.Code.{values_of, last_view, near_by}
use Rattle.closest_points.proofs.LastThree.all_three.Given as goal

-- the candidate with so many n200
abbrev pub tries : LastThree → ℕ → List (Kept (Option ℕ) Last)
tries s n = last_at s.remain.0 s.earned.0 s.target.0 n ∷ []

abbrev pub invariant-loop-new200 : goal.invariant-loop-new200
invariant-loop-new200 l =
    (scan nearer (each (values_of l.new200-iterator) (tries l.self)) (near_by last_view l.near)
    ≡ scan nearer (each (values_of l.initial.new200-iterator) (tries l.self)) (near_by last_view l.initial.near))
    × (range_inclusive_end l.new200-iterator ≤ l.self.remain.0)
