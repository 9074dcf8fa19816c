-- The code's structs as the values of closest_laws' definitions.
use Rattle.std.specs.Prelude.{Float}
use Rattle.score_state.specs.declared.HitResults.{HitResults}
use Rattle.inspect.specs.Presence.{has, given}
use Rattle.closest_laws.specs.Loops.{Kept}
use Rattle.closest_laws.specs.Closest.{Play}
use Rattle.closest.specs.declared.Play.{Play as PlayS}
use Rattle.closest.specs.declared.Best.{Best}

abbrev pub play_view : PlayS → Play
play_view p = record {
  w320 = p.w320;
  target = p.target_numerator.0;
  remain = p.remain.0;
  misses = p.counts.misses;
  n320 = given (has p.presence 1) p.counts.n320;
  n300 = given (has p.presence 2) p.counts.n300;
  n200 = given (has p.presence 4) p.counts.n200;
  n100 = given (has p.presence 8) p.counts.n100;
  n50 = given (has p.presence 16) p.counts.n50;
}

-- ---- the running best

abbrev pub best_view : Best → Kept Float HitResults
best_view b = record { dist = b.dist; result = b.result }

abbrev pub best_try : Float → HitResults → Kept Float HitResults
best_try d c = record { dist = d; result = c }
