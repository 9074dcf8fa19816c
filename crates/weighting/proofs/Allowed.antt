-- Weights that check 18 lets pass are a weighting in every row, so that the laws of the walk hold of them; and how many candidates
-- such a row tries at most. Assumes nothing.
use Prim.Native.Nat.{ℕ, ◌≤◌}
use mathlib.Core.Path.{◌≡◌}
use mathlib.Core.Bool.{Bool, true}
use mathlib.Core.List.{List}
use mathlib.Core.Option.{Option, some}
use lib.ListN.{length}
use Rattle.score_state.specs.Points.{weights_of}
use Rattle.nearest_laws.specs.Nearest.{Weighting, standard-weighting, Found, nearest}
use Rattle.nearest_laws.proofs.Weighs.{weighting}
use Rattle.nearest_laws.proofs.Tried.{tried-standard, tried_any}
use Rattle.weighting.specs.Scoring.{weights_by, allowed, most_tried}
use Rattle.weighting.specs.declared.Scoring.{Scoring}
use Rattle.weighting.specs.declared.Scoring.TheVariants.{Standard, Own}

pub allowed-weighting : (sc : Scoring) (classic : Bool) → allowed sc ≡ true → Weighting (weights_by sc classic)
allowed-weighting Standard classic h = standard-weighting classic
allowed-weighting (Own w) classic h = weighting (weights_of w) h

pub allowed-tried
    : (sc : Scoring) (classic : Bool) (gs : List (Option ℕ)) (T remain : ℕ) (f : Found) → allowed sc ≡ true → length gs ≡ 5
    → nearest (weights_by sc classic) gs T remain ≡ some f → f.tried ≤ most_tried sc
allowed-tried Standard classic gs T remain f h five e = tried-standard classic gs T remain f five e
allowed-tried (Own w) classic gs T remain f h five e = tried_any (weights_of w) gs T remain f (weighting (weights_of w) h) e
