-- The numbers of a relay, read back from an output: each chart's counts and misses, and the promises of document 02, L9, of them.
-- Assumes nothing.
use Prim.Native.Nat.{ℕ, zero, suc, ◌+◌, ◌*◌, ◌<◌}
use mathlib.Core.Bool.{Bool}
use mathlib.Core.List.{List, [], ◌∷◌, ◌++◌, append_assoc, map}
use mathlib.Core.Option.{some}
use mathlib.Core.Path.{◌≡◌, refl, sym, ap, ap₂, ◌∙◌}
use native.Mathlib.Nat.{zero-add, add-zero}
use native.Mathlib.Omega.{arith}
use lib.Ieee.{Float}
use lib.ListN.{length, drop, length-map}
use lib.Seq.{take_at, drop-drop, get_or-drop, get_or_at}
use Rattle.score_state.specs.Points.{hits, standard}
use Rattle.inspect.specs.Inspect.{inspect_of}
use Rattle.inspect.proofs.Checked.{remain_and_misses}
use Rattle.nearest_laws.specs.Nearest.{standard-weighting}
use Rattle.nearest_laws.proofs.Tried.{tried-standard}
use Rattle.relay_laws.specs.Consecutive.{consecutive}
use Rattle.relay_laws.specs.Plays.{Play, play_at, chart_count, plays_of, play_query, misses_of, remain_of}
use Rattle.relay_laws.specs.Pool.{all_missing, deals, Splits, no-chart, chart, Relayed}
use Rattle.relay_laws.specs.Relay.{remains, pooled_target, pooled_split, sixes, relay_numbers, counts_at, misses_at, counts_of, IsRelay}
use Rattle.relay_laws.proofs.Consecutive.{consecutive-long, consecutive-map, consecutive-at}
use Rattle.relay_laws.proofs.Relayed.{relayed, pool_found}

-- ---- six numbers a chart
-- one chart's six, then what follows
behind_six : (xs ys : List ℕ) (m : ℕ) → length xs ≡ 5 → drop 6 (xs ++ (m ∷ ys)) ≡ ys
behind_six [] ys m l = absurd (omega arith)
behind_six (a ∷ []) ys m l = absurd (omega arith)
behind_six (a ∷ (b ∷ [])) ys m l = absurd (omega arith)
behind_six (a ∷ (b ∷ (c ∷ []))) ys m l = absurd (omega arith)
behind_six (a ∷ (b ∷ (c ∷ (d ∷ [])))) ys m l = absurd (omega arith)
behind_six (a ∷ (b ∷ (c ∷ (d ∷ (e ∷ []))))) ys m l = refl
behind_six (a ∷ (b ∷ (c ∷ (d ∷ (e ∷ (f ∷ xs)))))) ys m l = absurd (omega arith)

module _ (out rest : List ℕ) where
  -- what stands at chart k's place, and at the next
  next_place : (k : ℕ) (xs : List ℕ) (m : ℕ) (ys : List ℕ) → length xs ≡ 5 → drop (1 + 6 * k) out ≡ xs ++ (m ∷ ys) → drop (1 + 6 * suc k) out ≡ ys
  next_place k xs m ys l e =
      let n : 1 + 6 * suc k ≡ (1 + 6 * k) + 6 = omega arith in
      rw (n, ← drop-drop 6 (1 + 6 * k) out, e) (behind_six xs ys m l)

  misses_place : (k : ℕ) (xs : List ℕ) (m : ℕ) (ys : List ℕ) → length xs ≡ 5 → drop (1 + 6 * k) out ≡ xs ++ (m ∷ ys) → misses_at out k ≡ m
  misses_place k xs m ys l e =
      let n : 6 + 6 * k ≡ (1 + 6 * k) + 5 = omega arith in
      rw (n, ← get_or-drop (1 + 6 * k) out 5 0, e) (get_or_at xs m ys 0 5 l)

  -- all charts from the one at place k on
  read
      : (k : ℕ) {rs : List ℕ} {yss : List (List ℕ)} (ms : List ℕ) → Splits rs yss → length ms ≡ length yss → drop (1 + 6 * k) out ≡ sixes yss ms ++ rest
      → (consecutive (counts_at out) k (length yss) ≡ yss) × (consecutive (misses_at out) k (length yss) ≡ ms)
  unfolding consecutive sixes
  read k [] no-chart l e = (refl, refl)
  read k (m ∷ ms) no-chart l e = absurd (omega arith)
  read k [] (chart i s) l e = absurd (omega arith)
  read k (m ∷ ms) (chart {xs = xs} {xss = xss} i s) l e =
      let a : drop (1 + 6 * k) out ≡ xs ++ (m ∷ (sixes xss ms ++ rest)) = e ∙ append_assoc xs (m ∷ sixes xss ms) rest in
      let t = read (suc k) ms s (omega arith) (next_place k xs m (sixes xss ms ++ rest) i.long a) in (
        ap₂ (λ (z : List ℕ) (zs : List (List ℕ)). z ∷ zs) (rw a (take_at xs (m ∷ (sixes xss ms ++ rest)) 5 i.long)) t.0,
        ap₂ (λ (z : ℕ) (zs : List ℕ). z ∷ zs) (misses_place k xs m (sixes xss ms ++ rest) i.long a) t.1,
      )

-- ---- the charts of a set of splits, by their places
splits-long : {rs : List ℕ} {yss : List (List ℕ)} → Splits rs yss → length yss ≡ length rs
splits-long no-chart = refl
splits-long (chart i s) = ap suc (splits-long s)

split_at : (f : ℕ → List ℕ) (g : ℕ → ℕ) (k n j : ℕ) → j < n → Splits (consecutive g k n) (consecutive f k n) → hits (f (k + j)) ≡ g (k + j)
unfolding consecutive
split_at f g k zero j h s = absurd (omega arith)
split_at f g k (suc n) zero h (chart i s) = rw add-zero i.sums
split_at f g k (suc n) (suc j) h (chart i s) =
    let m : k + suc j ≡ suc k + j = omega arith in
    rw m (split_at f g (suc k) n j (omega arith) s)

-- ---- the promises
module _ (classic : Bool) (acc : Float) (s rest : List ℕ) where
  abbrev n : ℕ
  n = chart_count s

  abbrev ps : List Play
  ps = plays_of s

  abbrev T : ℕ
  T = pooled_target classic acc ps

  abbrev out : List ℕ
  out = relay_numbers classic acc ps ++ rest

  abbrev yss : List (List ℕ)
  yss = deals (pooled_split classic acc ps).counts (remains classic ps)

  promised : Relayed (standard classic) T (remains classic ps) yss
  promised = relayed (standard classic) T (remains classic ps) (standard-weighting classic)

  remains-long : length (remains classic ps) ≡ n
  remains-long = length-map ps (remain_of classic) ∙ consecutive-long (play_at s) 0 n

  charts_long : length yss ≡ n
  charts_long = splits-long promised.splits ∙ remains-long

  charts_read : (counts_of out n ≡ yss) × (consecutive (misses_at out) 0 n ≡ map (misses_of classic) ps)
  unfolding relay_numbers
  charts_read =
      let l : length (map (misses_of classic) ps) ≡ length yss = length-map ps (misses_of classic) ∙ consecutive-long (play_at s) 0 n ∙ sym charts_long in
      rw charts_long at (read out rest 0 (map (misses_of classic) ps) promised.splits l refl)

  chart-misses : (k : ℕ) → k < n → misses_at out k ≡ misses_of classic (play_at s k)
  chart-misses k h =
      let e : consecutive (misses_at out) 0 n ≡ consecutive (λ j. misses_of classic (play_at s j)) 0 n = charts_read.1 ∙ consecutive-map (play_at s) (misses_of classic) 0 n in
      rw zero-add at (consecutive-at (misses_at out) (λ j. misses_of classic (play_at s j)) 0 n k h e)

  chart-remain : (k : ℕ) → k < n → hits (counts_at out k) ≡ remain_of classic (play_at s k)
  chart-remain k h =
      let p : Splits (remains classic ps) (counts_of out n) = rw charts_read.0 promised.splits in
      rw zero-add at (split_at (counts_at out) (λ j. remain_of classic (play_at s j)) 0 n k h (rw (consecutive-map (play_at s) (remain_of classic) 0 n) at p))

  pub is_relay : IsRelay classic (some acc) s out
  unfolding relay_numbers
  is_relay =
      let few = tried-standard classic all_missing T (hits (remains classic ps)) (pooled_split classic acc ps) refl (pool_found (standard classic) T (remains classic ps)) in
      record {
        acc = acc;
        has-acc = refl;
        totals = λ k h. rw (chart-remain k h, chart-misses k h) (remain_and_misses (inspect_of (play_query classic (play_at s k))));
        misses = chart-misses;
        relayed = rw charts_read.0 promised;
        tried = refl;
        few = few;
      }
