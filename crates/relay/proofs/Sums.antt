-- A sum over all charts, from the chart at place k on: the chart at k and those behind it.
-- Assumes nothing.
use Prim.Native.Nat.{ℕ, ◌+◌, ◌-◌, ◌<◌}
use mathlib.Core.List.{List, map}
use mathlib.Core.Path.{◌≡◌}
use Rattle.score_state.specs.Points.{hits}
use Rattle.relay_laws.specs.Consecutive.{consecutive}
use Rattle.relay_laws.specs.Plays.{Play, play_at}
use Rattle.relay_laws.proofs.Consecutive.{consecutive_next, consecutive_end}

module _ (f : Play → ℕ) (s : List ℕ) where
  abbrev pub sum_from : ℕ → ℕ → ℕ
  sum_from k n = hits (map f (consecutive (play_at s) k (n - k)))

  pub sum_next : (k n : ℕ) → k < n → sum_from k n ≡ f (play_at s k) + sum_from (k + 1) n
  unfolding hits
  sum_next k n h = rw (consecutive_next (play_at s) k n h)

  pub sum_end : (k : ℕ) → sum_from k k ≡ 0
  unfolding hits
  sum_end k = rw (consecutive_end (play_at s) k)
