-- closest.rs, `optimize_last_three` (lines 470 to 553): where one of the last three counts is given, the heavier of the others is a
-- rounded quotient, at most the hits that are left, and the lighter is the rest. And the code's structs as the values of
-- closest_laws' definitions.
use Rattle.std.specs.Prelude.{cond, ℕ, ◌+◌, ◌-◌, ◌*◌, min, ◌≡◌, List, [], ◌∷◌, Some, None}
use Rattle.std.specs.declared.option.Option as Code
use Rattle.std.proofs.Math.Option.{Option, none, some}
use Rattle.std.specs.Float.Ieee.Nearest.{closest}
use Rattle.units.specs.declared.Points.{Points}
use Rattle.std.specs.Range.{range_inclusive_start, range_inclusive_end, range_inclusive_exhausted}
use Rattle.std.specs.declared.ops.RangeInclusive.{RangeInclusive}
use Rattle.closest_laws.specs.Loops.{Kept, range}
use Rattle.closest_laws.specs.Closest.{Last}
use Rattle.closest_points.specs.declared.Three.{Three}
use Rattle.closest_points.specs.declared.Near.{Near}
use Rattle.closest_points.specs.declared.Pair.{Pair}

-- one of the last three is given, n of it: x of the others are the heavier
pub record TwoOfLast (hits n base target light step x y : ℕ) : Type 0 where
  pub heavier : x ≡ min (hits - n) (closest (target - (base + light * (hits - n))) step)
  pub lighter : y ≡ hits - n - x

abbrev pub pair_view : Pair → List ℕ
pair_view p = p.0.0 ∷ p.1.0 ∷ []

-- three counts as n200, n100 and n50
abbrev pub last_view : Three → Last
last_view t = record { n200 = t.0.0; n100 = t.1.0; n50 = t.2.0 }

-- the points of a distance, once there is one
abbrev pub dist_view : Code.Option Points → Option ℕ
dist_view None = none
dist_view (Some d) = some d.0

-- the best so far, as it is or by what is read of its counts
abbrev pub near_by : {A B : Type 0} → (A → B) → Near A → Kept (Option ℕ) B
near_by f b = record { dist = dist_view b.dist; result = f b.best }

abbrev pub near_view : {A : Type 0} → Near A → Kept (Option ℕ) A
near_view b = record { dist = dist_view b.dist; result = b.best }

abbrev pub near_try : {A : Type 0} → Points → A → Kept (Option ℕ) A
near_try d t = record { dist = some d.0; result = t }

-- document 01, Option, Vec and the trait recast: "`Vec` ranges become loops". What the range `lo..=hi` of such a loop has left to run through.
abbrev pub values_of : RangeInclusive ℕ → List ℕ
values_of r = cond (range_inclusive_exhausted r) [] (range (range_inclusive_start r) (range_inclusive_end r))
