-- A check over all charts, from the chart at place k on: the chart at k and those behind it.
-- Assumes nothing.
use Prim.Native.Nat.{ℕ, ◌+◌, ◌-◌, ◌<◌}
use mathlib.Core.Bool.{Bool, ◌||◌, or_assoc, or-false}
use mathlib.Core.List.{List}
use mathlib.Core.Path.{◌≡◌, sym}
use Rattle.relay_laws.specs.Consecutive.{consecutive}
use Rattle.relay_laws.specs.Plays.{Play, play_at}
use Rattle.relay_laws.specs.Checks.{any_of}
use Rattle.relay_laws.proofs.Consecutive.{consecutive_next, consecutive_end}

module _ (f : Play → Bool) (s : List ℕ) (a : Bool) where
  pub any_next
      : (k n : ℕ) → k < n → (a || any_of f (consecutive (play_at s) k (n - k))) ≡ ((a || f (play_at s k)) || any_of f (consecutive (play_at s) (k + 1) (n - (k + 1))))
  unfolding any_of
  any_next k n h = rw (consecutive_next (play_at s) k n h) (sym (or_assoc a (f (play_at s k)) (any_of f (consecutive (play_at s) (k + 1) (n - (k + 1))))))

  pub any_end : (k : ℕ) → a ≡ (a || any_of f (consecutive (play_at s) k (k - k)))
  unfolding any_of
  any_end k = rw (consecutive_end (play_at s) k) (sym (or-false a))
