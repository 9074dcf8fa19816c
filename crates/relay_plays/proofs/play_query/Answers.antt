-- `play_query`: the chart's numbers are those of its place.
use mathlib.Core.Path.{refl}
use Rattle.relay_laws.specs.Plays.{play_at, play_query}
use Rattle.relay_plays.proofs.play_query.Goals as goal

pub returns : goal.returns
unfolding play_query play_at
returns c = refl
