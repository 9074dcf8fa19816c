-- What check 10 leaves, and products of a weight and a count. Assumes nothing.
use mathlib.Core.Path.{◌≡◌, refl, ◌∙◌}
use mathlib.Core.Bool.{Bool, true, false, ◌||◌, true≢false}
use Prim.Native.Nat.{ℕ, ◌*◌, ◌≤◌}
use native.Mathlib.Nat.{mul-le-mul, le_trans, le_of_eq}
use native.Mathlib.Omega.{arith}
use borrow.Author.Tests.{ltb-false}
use lib.Dec.{eqb, ltb}
use Rattle.score_state.specs.declared.HitResults.{HitResults}
use mathlib.Core.List.{List}
use lib.Ieee.{Float}
use Rattle.rounding.specs.Round.{zero64}
use Rattle.rounding.specs.Distance.{ratio}
use Rattle.score_state.specs.Points.{hits, points, standard, counts_of, total_hits, perfect_weight}
use Rattle.score_state.specs.Accuracy.{over_cap, cap, Capped, accuracy_of}

pub or_left : (a b : Bool) → a || b ≡ false → a ≡ false
or_left true b e = e
or_left false b e = refl

pub or_right : (a b : Bool) → a || b ≡ false → b ≡ false
or_right true b e = absurd (true≢false e)
or_right false b e = e

-- where no count is over the cap, each is within it
pub capped : (r : HitResults) → over_cap r ≡ false → Capped r
unfolding over_cap
capped r e =
    let e1 = or_left (ltb cap r.n320 || ltb cap r.n300 || ltb cap r.n200 || ltb cap r.n100 || ltb cap r.n50) (ltb cap r.misses) e in
    let e2 = or_left (ltb cap r.n320 || ltb cap r.n300 || ltb cap r.n200 || ltb cap r.n100) (ltb cap r.n50) e1 in
    let e3 = or_left (ltb cap r.n320 || ltb cap r.n300 || ltb cap r.n200) (ltb cap r.n100) e2 in
    let e4 = or_left (ltb cap r.n320 || ltb cap r.n300) (ltb cap r.n200) e3 in
    record {
      n320 = ltb-false cap r.n320 (or_left (ltb cap r.n320) (ltb cap r.n300) e4);
      n300 = ltb-false cap r.n300 (or_right (ltb cap r.n320) (ltb cap r.n300) e4);
      n200 = ltb-false cap r.n200 (or_right (ltb cap r.n320 || ltb cap r.n300) (ltb cap r.n200) e3);
      n100 = ltb-false cap r.n100 (or_right (ltb cap r.n320 || ltb cap r.n300 || ltb cap r.n200) (ltb cap r.n100) e2);
      n50 = ltb-false cap r.n50 (or_right (ltb cap r.n320 || ltb cap r.n300 || ltb cap r.n200 || ltb cap r.n100) (ltb cap r.n50) e1);
      misses = ltb-false cap r.misses (or_right (ltb cap r.n320 || ltb cap r.n300 || ltb cap r.n200 || ltb cap r.n100 || ltb cap r.n50) (ltb cap r.misses) e);
    }

-- six counts within the cap
pub total_within : (r : HitResults) → Capped r → total_hits r ≤ 6_000_000
unfolding hits
total_within r h = omega arith

pub perfect_within : (classic : Bool) → perfect_weight classic ≤ 61
perfect_within true = omega arith
perfect_within false = omega arith

-- the denominator
pub whole_within : (r : HitResults) → Capped r → (w t : ℕ) → w ≤ 61 → t ≡ total_hits r → w * t ≤ 366_000_000
whole_within r h w t l e = mul-le-mul l (le_trans (le_of_eq e) (total_within r h))

-- ---- `accuracy_of` from its parts
module _ (r : HitResults) (classic : Bool) (t : ℕ) (e : t ≡ total_hits r) where
  pub accuracy-none : eqb t 0 ≡ true → zero64 ≡ accuracy_of r classic
  unfolding accuracy_of
  accuracy-none z = rw (← e, z)

  pub accuracy-some
      : (p w d : ℕ) (ws : List ℕ) (a : Float) → eqb t 0 ≡ false → ws ≡ standard classic → p ≡ points ws (counts_of r) → w ≡ perfect_weight classic → d ≡ w * t
      → a ≡ ratio p d → a ≡ accuracy_of r classic
  unfolding accuracy_of
  accuracy-some p w d ws a z ew ep eu ed ea = ea ∙ rw (← e, z, ed, ep, ew, eu)
