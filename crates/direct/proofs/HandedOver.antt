-- What a row hands over tells its classic flag and its sheet's weights again. Assumes nothing.
use mathlib.Core.Path.{◌≡◌, refl}
use mathlib.Core.Bool.{Bool, true, false}
use mathlib.Core.List.{List}
use Prim.Native.Nat.{ℕ}
use lib.ListN.{length}
use Rattle.score_state.specs.Points.{standard}
use Rattle.weighting.specs.Scoring.{weights_by}
use Rattle.weighting.specs.declared.Scoring.{Scoring}
use Rattle.weighting.specs.declared.Scoring.TheVariants.{Standard, Own}
use Rattle.direct.specs.Direct.{kind_by, numbers_by, classic_in, weights_in}

pub kind_classic : (sc : Scoring) (classic : Bool) → classic_in (kind_by sc classic) ≡ classic
kind_classic Standard true = refl
kind_classic Standard false = refl
kind_classic (Own w) true = refl
kind_classic (Own w) false = refl

pub kind_weights : (sc : Scoring) (classic : Bool) → weights_in (kind_by sc classic) (numbers_by sc) ≡ weights_by sc classic
kind_weights Standard true = refl
kind_weights Standard false = refl
kind_weights (Own w) true = refl
kind_weights (Own w) false = refl

-- the standard ones, whatever the output holds
pub kind_standard : (classic : Bool) (out : List ℕ) → weights_in (kind_by Standard classic) out ≡ standard classic
kind_standard true out = refl
kind_standard false out = refl

pub numbers-long : (sc : Scoring) → length (numbers_by sc) ≡ 8
numbers-long Standard = refl
numbers-long (Own w) = refl
