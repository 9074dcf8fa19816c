-- The numbers of the charts from the one at place k on: those of the chart at k, then those behind it; and the charts' numbers written one
-- after the other.
-- Assumes nothing.
use Prim.Native.Nat.{ℕ, ◌+◌, ◌-◌, ◌*◌, ◌<◌, ◌≤◌}
use mathlib.Core.Bool.{Bool}
use mathlib.Core.List.{List, [], ◌∷◌, ◌++◌, append_assoc, map}
use mathlib.Core.Path.{◌≡◌, refl, sym, ap, ◌∙◌}
use native.Mathlib.Omega.{arith}
use lib.ListN.{length, take, drop, length-append, length-drop}
use lib.Seq.{take_at, drop_at, take-add, drop-drop, take_all, length-take-le}
use Rattle.lists.specs.Lists.{put}
use Rattle.lists.proofs.Put.{put-none, next}
use Rattle.relay_laws.specs.Consecutive.{consecutive}
use Rattle.relay_laws.specs.Plays.{play_at, misses_of, remain_of}
use Rattle.relay_laws.specs.Pool.{dealt, undealt, deals}
use Rattle.relay_laws.specs.Relay.{remains, sixes}
use Rattle.relay_laws.proofs.Consecutive.{consecutive_next, consecutive_end}
use Rattle.relay_laws.proofs.Deals.{dealt-long}

module _ (classic : Bool) (s : List ℕ) (n : ℕ) where
  -- of the charts from k on, where `left` is left to deal
  abbrev pub sixes_from : ℕ → List ℕ → List ℕ
  sixes_from k left =
      sixes (deals left (remains classic (consecutive (play_at s) k (n - k)))) (map (misses_of classic) (consecutive (play_at s) k (n - k)))

  abbrev pub six_at : ℕ → List ℕ → List ℕ
  six_at k left = dealt left (remain_of classic (play_at s k)) ++ (misses_of classic (play_at s k) ∷ [])

  sixes_next : (k : ℕ) (left : List ℕ) → k < n → sixes_from k left ≡ six_at k left ++ sixes_from (k + 1) (undealt left (remain_of classic (play_at s k)))
  unfolding deals sixes
  sixes_next k left h =
      rw (consecutive_next (play_at s) k n h)
      (sym (append_assoc (dealt left (remain_of classic (play_at s k))) (misses_of classic (play_at s k) ∷ []) (sixes_from (k + 1) (undealt left (remain_of classic (play_at s k))))))

  sixes_end : (left : List ℕ) → sixes_from n left ≡ []
  unfolding deals sixes
  sixes_end left = rw (consecutive_end (play_at s) n)

  six-long : (k : ℕ) (left : List ℕ) → length left ≡ 5 → length (six_at k left) ≡ 6
  six-long k left l =
      let r = remain_of classic (play_at s k) in
      let e = dealt-long left r in
      length-append (dealt left r) (misses_of classic (play_at s k) ∷ []) ∙ omega arith

  -- ---- k charts of all that is to be written stand in the output, and the others are still to come
  pub record Written (whole out₀ out left : List ℕ) (k : ℕ) : Type 0 where
    pub few : k ≤ n
    pub long : 6 * k ≤ length whole
    pub same : length out ≡ length out₀
    pub front : out ≡ put out₀ 1 (take (6 * k) whole)
    pub rest : drop (6 * k) whole ≡ sixes_from k left

  pub written-first : (whole out₀ left : List ℕ) → whole ≡ sixes_from 0 left → Written whole out₀ out₀ left 0
  written-first whole out₀ left e = record { few = omega arith; long = omega arith; same = refl; front = sym (put-none out₀ 1); rest = e }

  pub Written-next
      : (whole out₀ out out₁ left left₁ : List ℕ) (k : ℕ) → Written whole out₀ out left k → k < n → length left ≡ 5 → 1 + 6 * (k + 1) ≤ length out₀
      → length out₁ ≡ length out → out₁ ≡ put out (1 + 6 * k) (six_at k left) → left₁ ≡ undealt left (remain_of classic (play_at s k))
      → Written whole out₀ out₁ left₁ (k + 1)
  Written-next whole out₀ out out₁ left left₁ k w h five room l o e =
      let six = six_at k left in
      let behind = sixes_from (k + 1) (undealt left (remain_of classic (play_at s k))) in
      let m : 6 * (k + 1) ≡ 6 * k + 6 = omega arith in
      let d : drop (6 * k) whole ≡ six ++ behind = w.rest ∙ sixes_next k left h in
      let ls : length six ≡ 6 = six-long k left five in
      let lb : 6 + length behind ≡ length whole - 6 * k = ap (λ (z : ℕ). z + length behind) (sym ls) ∙ sym (length-append six behind) ∙ ap length (sym d) ∙ length-drop (6 * k) whole in
      let t : take (6 * (k + 1)) whole ≡ take (6 * k) whole ++ six = rw (m, take-add (6 * k) 6 whole, d) (ap (λ (z : List ℕ). take (6 * k) whole ++ z) (take_at six behind 6 ls)) in
      let lt : length (take (6 * k) whole) ≡ 6 * k = length-take-le (6 * k) whole w.long in
      record {
        few = omega arith;
        long = omega arith;
        same = l ∙ w.same;
        front = rw t (next out₀ out out₁ 1 (1 + 6 * k) (take (6 * k) whole) six (omega arith) (omega arith) w.front o);
        rest = rw (m, ← drop-drop 6 (6 * k) whole, d, drop_at six behind 6 ls, e);
      }

  pub written_all : (whole out₀ out left : List ℕ) → Written whole out₀ out left n → out ≡ put out₀ 1 whole
  written_all whole out₀ out left w =
      let z : length whole - 6 * n ≡ 0 = sym (length-drop (6 * n) whole) ∙ ap length (w.rest ∙ sixes_end left) in
      rw (take_all (6 * n) whole (omega arith)) at w.front
