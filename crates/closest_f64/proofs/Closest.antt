-- On document 01's domain Closest in the Rust's own f64 and i64 steps is `closest_at`. Assumes nothing.
use Prim.Native.Nat.{ℕ, ◌+◌, ◌*◌, ◌^◌, ◌≤◌, ◌<◌}
use mathlib.Core.Path.{◌≡◌, ap, ◌∙◌}
use mathlib.Core.List.{List, [], ◌∷◌}
use native.Mathlib.Nat.{le_trans, lt_of_le_of_lt, mul-le-mul}
use native.Mathlib.Omega.{arith}
use lib.Dec.{T, eqb, lit<}
use lib.IntN.{ℤ, pos}
use mathlib.Core.Bool.{cond}
use lib.Ieee.{Float, le}
use Rattle.rounding.specs.Round.{zero64, one64}
use Rattle.score_state.specs.Points.{perfect_weight}
use Rattle.score_state.specs.Given.{or, given_points}
use Rattle.score_state.proofs.Caps.{perfect_within}
use Rattle.inspect.specs.declared.Query.{Query}
use Rattle.inspect.specs.Inspect.{Inspect, inspect_of, total_hits, misses, remain}
use Rattle.inspect.specs.Target.{target}
use Rattle.score_state.specs.Answer.{Answer, worked}
use Rattle.inspect.specs.Checks.{Domain}
use Rattle.inspect.proofs.Checked.{remain_and_misses, total_within}
use Rattle.closest_laws.specs.Closest.{provided, weights, play_of, closest_at}
use Rattle.closest_laws.proofs.Fills.{perfect-heavy}
use Rattle.closest_f64.specs.Rust.{Args, match_given, target_numerator, args_of, closest_at_f64}
use Rattle.closest_f64.proofs.Target.{target-same, target-le}
use Rattle.closest_f64.proofs.Same.{Small, to_args, match_same}

sum_of : (a b c d e : ℕ) → a ≤ 61_000_000 → b ≤ 1_000_000 → c ≤ 1_000_000 → d ≤ 1_000_000 → e ≤ 1_000_000
    → a + (60 * b + (40 * c + (20 * d + (10 * e + 0)))) ≤ 2 ^ 40
sum_of a b c d e ha hb hc hd he = omega arith

module _ (q : Query) (acc : Float) (d : Domain q) (h : T (le zero64 acc)) (k : T (le acc one64)) where
  abbrev i : Inspect
  i = inspect_of q

  abbrev w : ℕ
  w = perfect_weight i.classic

  points-le : w * total_hits i ≤ 12_200_000
  points-le = mul-le-mul (perfect_within i.classic) (total_within q d)

  points-lt : w * total_hits i < 2 ^ 31
  points-lt = lt_of_le_of_lt points-le (lit< tt)

  pub aim-le : target acc w (total_hits i) ≤ 12_200_000
  aim-le = le_trans (target-le acc w (total_hits i) points-lt h k) points-le

  pub aim_same : target_numerator acc w (total_hits i) ≡ pos (target acc w (total_hits i))
  aim_same = target-same acc w (total_hits i) points-lt h k

  given-le : given_points (weights (play_of i acc)) (provided (play_of i acc)) ≤ 2 ^ 40
  unfolding play_of given_points
  given-le =
      sum_of (w * or i.n320 0) (or i.n300 0) (or i.n200 0) (or i.n100 0) (or i.n50 0)
      (mul-le-mul (perfect_within i.classic) d.n320) d.n300 d.n200 d.n100 d.n50

  small : Small (play_of i acc)
  unfolding play_of
  small = record {
    heavy = perfect-heavy i.classic;
    top = perfect_within i.classic;
    aim = lt_of_le_of_lt aim-le (lit< tt);
    hits = omega (arith, remain_and_misses i, total_within q d);
    given = given-le;
  }

  args_same : args_of i acc ≡ to_args (play_of i acc)
  unfolding args_of play_of
  args_same =
      ap (λ (t : ℤ). record { n320 = i.n320; n300 = i.n300; n200 = i.n200; n100 = i.n100; n50 = i.n50; remain = remain i; target_numerator = t; w320 = w; misses = misses i })
      aim_same

  pub closest-is_the_rust : closest_at_f64 i acc ≡ closest_at i acc
  unfolding closest_at_f64 closest_at play_of
  closest-is_the_rust =
      let none_left : Answer (List ℕ) = worked (0 ∷ 0 ∷ 0 ∷ 0 ∷ 0 ∷ misses i ∷ []) in
      ap (λ (p : Args). cond (eqb (remain i) 0) none_left (match_given p i.n320 i.n300 i.n200 i.n100 i.n50)) args_same
      ∙ ap (λ (a : Answer (List ℕ)). cond (eqb (remain i) 0) none_left a)
      (match_same w (target acc w (total_hits i)) (remain i) (misses i) i.n320 i.n300 i.n200 i.n100 i.n50 small)
