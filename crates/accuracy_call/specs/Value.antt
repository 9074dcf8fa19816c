-- The call nuqsillay_accuracy of include/nuqsillay.h: it answers document 01's status, and writes the accuracy only where that is 0.
use Rattle.std.specs.Prelude.{Float}
use Rattle.score_state.specs.Answer.{Answer, worked, refused}

-- what stands behind a lent f64 at the end, and stood there before
abbrev pub value_or : Answer Float → Float → Float
value_or (worked x) old = x
value_or (refused n) old = old
