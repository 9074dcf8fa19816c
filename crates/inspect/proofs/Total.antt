-- Document 02, L2, of the total hits: "Non-classic total is objects plus the smaller of that and n_hold_notes; classic ignores it", and
-- where no holds passed are given "the old total .. stand[s]". Assumes nothing.
use mathlib.Core.Path.{◌≡◌}
use mathlib.Core.Bool.{true, false}
use Prim.Native.Nat.{ℕ, ◌+◌, min}
use Rattle.score_state.specs.Given.{option_of}
use Rattle.inspect.specs.Inspect.{inspect_of, shortened, total_hits}
use Rattle.std.specs.Prelude.{Some, None}
use Rattle.inspect.specs.declared.Query.{Query}

module _ (q : Query) where
  -- the objects of the play: min(passed, n_objects), all of them where passed is missing
  abbrev pub objects : ℕ
  objects = shortened (inspect_of q).passed q.chart.n_objects

  pub total-classic : q.classic ≡ true → total_hits (inspect_of q) ≡ objects
  unfolding total_hits
  total-classic c = rw c

  pub total-holds : q.classic ≡ false → total_hits (inspect_of q) ≡ objects + shortened (option_of q.holds) q.chart.n_hold_notes
  unfolding total_hits
  total-holds c = rw c

  pub total_reached : (n : ℕ) → q.classic ≡ false → q.holds ≡ Some n → total_hits (inspect_of q) ≡ objects + min n q.chart.n_hold_notes
  unfolding total_hits shortened
  total_reached n c h = rw (c, h)

  pub total_in_full : q.classic ≡ false → q.holds ≡ None → total_hits (inspect_of q) ≡ objects + q.chart.n_hold_notes
  unfolding total_hits shortened
  total_in_full c h = rw (c, h)
