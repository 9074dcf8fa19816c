-- Document 01, Nearest, steps 2 to 4, whose definition is nearest_laws/specs/Walk.antt: the code's structs as its values, what the
-- functions of the walk ask, and (document 02, L1) what the division tells of the lower candidate.
use Rattle.std.specs.Prelude.{ℕ, ◌+◌, ◌-◌, ◌*◌, ◌<◌, ◌≤◌, ◌≡◌, List, [], ◌∷◌, ◌++◌}
use Rattle.units.specs.Limits.{most32}
use Rattle.nearest_laws.specs.Walk.{Try, Best, Middle, settle, lowest, trial, settings}
use Rattle.nearest_laws.specs.Places.{Slot}
use Rattle.walk.specs.declared.Middle.{Middle as MiddleCode}
use Rattle.walk.specs.declared.Spread.{Spread}
use Rattle.walk.specs.declared.Best.{Best as BestCode}
use Rattle.walk.specs.declared.Plan.{Plan}
use Rattle.walk.specs.declared.Setting.{Setting}
use Rattle.walk.specs.declared.Low.{Low}

abbrev pub spread_of : Spread → List ℕ
spread_of x = x.top.0 ∷ x.n300.0 ∷ x.n200.0 ∷ x.n100.0 ∷ x.rest.0 ∷ []

-- the running best
abbrev pub view : BestCode → Best
view b = record { tried = b.tried; dist = b.dist.0; counts = spread_of b.spread }

-- the running best that has tried nothing
abbrev pub fresh : Best
fresh = record { tried = 0; dist = 0; counts = 0 ∷ 0 ∷ 0 ∷ 0 ∷ 0 ∷ [] }

-- a candidate with p points
abbrev pub try_of : Spread → ℕ → Try
try_of x p = record { counts = spread_of x; points = p }

abbrev pub middle_of : MiddleCode → Middle
middle_of m = record { weight = m.weight; q = m.q }

-- a setting with k hits at one more middle, but for the place of its count
abbrev pub set_of : Setting → MiddleCode → ℕ → Setting
set_of s m k =
    record {
      left = record { 0 = s.left.0 - k };
      points = record { 0 = s.points.0 + m.weight * k };
      n300 = s.n300;
      n200 = s.n200;
      n100 = s.n100;
    }

-- the candidates of a setting, with the middles ms to set and ks set
abbrev pub settings_of : Plan → Setting → List Middle → List ℕ → List Try
settings_of p s ms ks = settings p.a p.c p.target.0 ms s.left.0 s.points.0 ks

-- the same where one more middle m has count k
abbrev pub row_of : Plan → Setting → MiddleCode → List Middle → List ℕ → ℕ → List Try
row_of p s m ms ks k = settings p.a p.c p.target.0 ms (s.left.0 - k) (s.points.0 + m.weight * k) (ks ++ (k ∷ []))

-- the candidates that are tried: both of a setting, and those of each loop of `each_n300`, by the middles that are still to set
abbrev pub both_of : Plan → Setting → List Try
both_of p s = settings_of p s [] (s.n300.0 ∷ s.n200.0 ∷ s.n100.0 ∷ [])

abbrev pub each_n100 : Plan → Setting → List Try
each_n100 p s = settings_of p s (middle_of p.n100 ∷ []) (s.n300.0 ∷ s.n200.0 ∷ [])

abbrev pub each_n200 : Plan → Setting → List Try
each_n200 p s = settings_of p s (middle_of p.n200 ∷ middle_of p.n100 ∷ []) (s.n300.0 ∷ [])

abbrev pub each_n300 : Plan → Setting → List Try
each_n300 p s = settings_of p s (middle_of p.n300 ∷ middle_of p.n200 ∷ middle_of p.n100 ∷ []) []

-- the candidate of a setting with j hits at a
abbrev pub trial_of : Plan → Setting → ℕ → Try
trial_of p s j = trial p.a p.c s.left.0 s.points.0 (s.n300.0 ∷ s.n200.0 ∷ s.n100.0 ∷ []) j

-- The lower candidate of a setting: lo hits at a, and how far its points lie below the target and above it. Where a hit is left for
-- one more at a, they lie below it by less than that adds.
pub record IsLow (p : Plan) (s : Setting) (l : Low) : Type 0 where
  pub top : l.top.0 ≡ lowest p.a p.c p.target.0 s.left.0 s.points.0
  pub below : l.below.0 ≡ p.target.0 - (trial_of p s l.top.0).points
  pub above : l.above.0 ≡ (trial_of p s l.top.0).points - p.target.0
  pub under : l.top.0 < s.left.0 → l.below.0 < p.a - p.c

-- a setting before any middle is set: R hits to give, g points of the given counts
abbrev pub unset : ℕ → ℕ → Setting
unset R g =
    record { left = record { 0 = R }; points = record { 0 = g }; n300 = record { 0 = 0 }; n200 = record { 0 = 0 }; n100 = record { 0 = 0 } }

-- all points of a setting fit u32
abbrev pub PointsFit : Plan → Setting → Type 0
PointsFit p s = s.points.0 + p.a * s.left.0 ≤ most32

-- each place has a count to walk
pub record Slots (p : Plan) : Type 0 where
  pub n300 : Slot p.a (middle_of p.n300)
  pub n200 : Slot p.a (middle_of p.n200)
  pub n100 : Slot p.a (middle_of p.n100)

-- What a walk over the candidates ts asks: the weights are in order, each place has a count to walk, and tried fits u32 to the end.
pub record Ready (p : Plan) (ts : List Try) (b : BestCode) : Type 0 where
  pub order : p.c < p.a
  pub slots : Slots p
  pub tried : (settle p.target.0 ts (view b)).tried < most32
