-- n bytes of a sheet from a place on: a record that is read of them is the one that stands in the sheet at that place.
-- Assumes nothing.
use mathlib.Core.Path.{◌≡◌, refl, ap, sym, ◌∙◌}
use mathlib.Core.Bool.{cond}
use mathlib.Core.List.{List, [], ◌∷◌, ◌++◌}
use Prim.Native.Nat.{ℕ, zero, suc, ◌+◌, ◌-◌, ◌*◌, ◌≤◌, ◌<◌}
use native.Mathlib.Omega.{arith}
use lib.Dec.{eqb}
use lib.ListN.{length, take, drop, length-drop}
use lib.Seq.{length-take-le, get_or-take, get_or-drop}
use Rattle.little_endian.specs.Bytes.{byte, u16_at, u32_at, u64_at}
use Rattle.records.specs.Records.{chart_at, row_at, weights_at}
use Rattle.charts.specs.Charts.{charts_at}
use Rattle.weighting.specs.declared.Scoring.TheVariants.{Standard, Own}

module _ (s : List ℕ) (at n : ℕ) where
  abbrev part : List ℕ
  part = take n (drop at s)

  pub length_part : at + n ≤ length s → length part ≡ n
  length_part h = let d : length (drop at s) ≡ length s - at = length-drop at s in length-take-le n (drop at s) (omega arith)

  -- ---- numbers: place i of the part is place j of the sheet
  byte_in : (i j : ℕ) → j ≡ at + i → i < n → byte part i ≡ byte s j
  byte_in i j e l = get_or-take n (drop at s) i 0 l ∙ get_or-drop at s i 0 ∙ ap (byte s) (sym e)

  u16_in : (i j : ℕ) → j ≡ at + i → i + 2 ≤ n → u16_at part i ≡ u16_at s j
  u16_in i j e l = λ k. byte_in i j e (omega arith) k + 256 * byte_in (i + 1) (j + 1) (omega arith) (omega arith) k

  u32_in : (i j : ℕ) → j ≡ at + i → i + 4 ≤ n → u32_at part i ≡ u32_at s j
  u32_in i j e l =
      λ k. byte_in i j e (omega arith) k
      + 256 * byte_in (i + 1) (j + 1) (omega arith) (omega arith) k
      + 65536 * byte_in (i + 2) (j + 2) (omega arith) (omega arith) k
      + 16777216 * byte_in (i + 3) (j + 3) (omega arith) (omega arith) k

  u64_in : (i j : ℕ) → j ≡ at + i → i + 8 ≤ n → u64_at part i ≡ u64_at s j
  u64_in i j e l = λ k. u32_in i j e (omega arith) k + 4294967296 * u32_in (i + 4) (j + 4) (omega arith) (omega arith) k

  -- ---- records
  pub count_in : 4 ≤ n → u32_at part 0 ≡ u32_at s at
  count_in l = u32_in 0 at (omega arith) l

  chart_in : (i j : ℕ) → j ≡ at + i → i + 8 ≤ n → chart_at part i ≡ chart_at s j
  unfolding chart_at
  chart_in i j e l = λ k. record { n_objects = u32_in i j e (omega arith) k; n_hold_notes = u32_in (i + 4) (j + 4) (omega arith) (omega arith) k }

  pub charts_in : (m : ℕ) → 8 * m ≤ n → charts_at part 0 m ≡ charts_at s at m
  unfolding charts_at
  charts_in zero l = refl
  charts_in (suc m) l = λ k. charts_in m (omega arith) k ++ (chart_in (0 + 8 * m) (at + 8 * m) (omega arith) (omega arith) k ∷ [])

  weights_in : 20 ≤ n → weights_at part 0 ≡ weights_at s at
  unfolding weights_at
  weights_in l =
      λ k. record {
        n320 = u32_in 0 at (omega arith) (omega arith) k;
        n300 = u32_in 4 (at + 4) (omega arith) (omega arith) k;
        n200 = u32_in 8 (at + 8) (omega arith) (omega arith) k;
        n100 = u32_in 12 (at + 12) (omega arith) (omega arith) k;
        n50 = u32_in 16 (at + 16) (omega arith) (omega arith) k;
      }

  pub scoring_in : (own : ℕ) → 20 * own ≤ n → cond (eqb own 0) Standard (Own (weights_at part 0)) ≡ cond (eqb own 0) Standard (Own (weights_at s at))
  scoring_in zero l = refl
  scoring_in (suc m) l = ap (λ w. cond (eqb (suc m) 0) Standard (Own w)) (weights_in (omega arith))

  pub row_in : 48 ≤ n → row_at part 0 ≡ row_at s at
  unfolding row_at
  row_in l =
      λ k. record {
        chart = u16_in 0 at (omega arith) (omega arith) k;
        method = byte_in 2 (at + 2) (omega arith) (omega arith) k;
        priority = byte_in 3 (at + 3) (omega arith) (omega arith) k;
        classic = byte_in 4 (at + 4) (omega arith) (omega arith) k;
        presence = byte_in 5 (at + 5) (omega arith) (omega arith) k;
        holds_given = byte_in 6 (at + 6) (omega arith) (omega arith) k;
        zero = byte_in 7 (at + 7) (omega arith) (omega arith) k;
        n320 = u32_in 8 (at + 8) (omega arith) (omega arith) k;
        n300 = u32_in 12 (at + 12) (omega arith) (omega arith) k;
        n200 = u32_in 16 (at + 16) (omega arith) (omega arith) k;
        n100 = u32_in 20 (at + 20) (omega arith) (omega arith) k;
        n50 = u32_in 24 (at + 24) (omega arith) (omega arith) k;
        misses = u32_in 28 (at + 28) (omega arith) (omega arith) k;
        passed = u32_in 32 (at + 32) (omega arith) (omega arith) k;
        acc = u64_in 36 (at + 36) (omega arith) (omega arith) k;
        holds_passed = u32_in 44 (at + 44) (omega arith) (omega arith) k;
      }
