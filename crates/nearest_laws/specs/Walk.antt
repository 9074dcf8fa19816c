-- Document 01, Nearest, steps 2 to 4, over any falling list of missing weights: the walk, its candidates and `tried`.
-- Numbers are naturals, where a difference below 0 is 0. S and D are not made: T is compared with points that count the given
-- ones too, so that D < 0 is T < p + c * r, where T - (p + c * r) is 0 and so is lo.
use Rattle.std.specs.Prelude.{ℕ, zero, suc, ◌+◌, ◌-◌, ◌*◌, ◌/◌, ◌%◌, ◌<◌, min, Bool, cond, ◌&&◌, ◌||◌, List, [], ◌∷◌, ◌++◌, ◌≡◌, ltb, eqb, length}
use Rattle.score_state.specs.Points.{hits}
use Rattle.units.specs.Gap.{gap}

-- ---- "q = (a − c) / gcd(a − c, b − c)"

-- Euclid's greatest common divisor; each turn makes the second number smaller, so it bounds the turns
unfoldable pub gcd_in : ℕ → ℕ → ℕ → ℕ
gcd_in zero x y = x
gcd_in (suc n) x y = let r = gcd_in n y (x % y) in cond (eqb y 0) x r

unfoldable pub gcd : ℕ → ℕ → ℕ
gcd x y = gcd_in (suc y) x y

unfoldable pub stride : ℕ → ℕ → ℕ → ℕ
stride a c b = (a - c) / gcd (a - c) (b - c)

-- ---- "The first smallest distance |points − T| stays. A distance of 0 ends the walk."

-- a candidate: counts from the heaviest missing judgement to the lightest, and all its points, the given counts' among them
pub record Try : Type 0 where
  pub counts : List ℕ
  pub points : ℕ

-- The best so far. "tried counts candidates": `tried` is the document's own term. Nothing is found while it is 0.
pub record Best : Type 0 where
  pub tried : ℕ
  pub dist : ℕ
  pub counts : List ℕ

unfoldable pub start : Best
start = record { tried = 0; dist = 0; counts = [] }

-- "A distance of 0 ends the walk"
unfoldable pub over : Best → Bool
over s = ltb 0 s.tried && eqb s.dist 0

-- a candidate takes the place of the best: at the first, and where it is nearer ("the first smallest distance stays")
unfoldable pub better : Best → ℕ → Bool
better s d = eqb s.tried 0 || ltb d s.dist

unfoldable pub offer : ℕ → Try → Best → Best
offer T t s =
    let d = gap t.points T in
    record {
      tried = suc s.tried;
      dist = cond (better s d) d s.dist;
      counts = cond (better s d) t.counts s.counts;
    }

-- the candidates one after the other "until the walk ends, one at distance 0 included"
unfoldable pub settle : ℕ → List Try → Best → Best
settle T [] s = s
settle T (t ∷ ts) s = let r = settle T ts (offer T t s) in cond (over s) s r

-- ---- "For each setting: r = hits left, D = S − points of the middles − c times r. lo = 0 if D < 0, else min(r, D div (a − c))."

-- p: the points of the given counts and of the middles that are set
unfoldable pub lowest : ℕ → ℕ → ℕ → ℕ → ℕ → ℕ
lowest a c T r p = min r ((T - (p + c * r)) / (a - c))

-- a-count j, the middles' counts ks; "the rest goes to c"
unfoldable pub trial : ℕ → ℕ → ℕ → ℕ → List ℕ → ℕ → Try
trial a c r p ks j = record { counts = j ∷ (ks ++ ((r - j) ∷ [])); points = p + a * j + c * (r - j) }

-- "Try a-count lo, then lo + 1 if lo < r"
unfoldable pub pair : ℕ → ℕ → ℕ → ℕ → ℕ → List ℕ → List Try
pair a c T r p ks =
    let lo = lowest a c T r p in
    trial a c r p ks lo ∷ cond (ltb lo r) (trial a c r p ks (suc lo) ∷ []) []

-- ---- "Middles: missing weights b between them, heaviest outermost, each count rising from 0 to min(q − 1, hits left)"

pub record Middle : Type 0 where
  pub weight : ℕ
  pub q : ℕ

-- f k, f (k + 1), ..: n lists in a row
unfoldable pub rows : ℕ → ℕ → (ℕ → List Try) → List Try
rows zero k f = []
rows (suc n) k f = f k ++ rows n (suc k) f

unfoldable pub settings : ℕ → ℕ → ℕ → List Middle → ℕ → ℕ → List ℕ → List Try
settings a c T [] r p ks = pair a c T r p ks
settings a c T (m ∷ ms) r p ks =
    rows (suc (min (m.q - 1) r)) 0 (λ k. settings a c T ms (r - k) (p + m.weight * k) (ks ++ (k ∷ [])))

-- "a, c: heaviest and lightest missing weights": the last of b, bs, and those before it
unfoldable pub last_of : ℕ → List ℕ → ℕ
last_of b [] = b
last_of b (d ∷ ds) = last_of d ds

unfoldable pub init_of : ℕ → List ℕ → List ℕ
init_of b [] = []
init_of b (d ∷ ds) = b ∷ init_of d ds

unfoldable pub middles : ℕ → ℕ → List ℕ → List Middle
middles a c [] = []
middles a c (b ∷ bs) = record { weight = b; q = stride a c b } ∷ middles a c bs

-- the middles of the missing weights
unfoldable pub middles_of : List ℕ → List Middle
middles_of [] = []
middles_of (w ∷ []) = []
middles_of (a ∷ (b ∷ bs)) = middles a (last_of b bs) (init_of b bs)

-- "the product of the q's"
unfoldable pub product : List Middle → ℕ
product [] = 1
product (m ∷ ms) = m.q * product ms

-- ---- The walk of the missing weights, from the heaviest: R hits to give, g points of the given counts, target T.

-- "With one missing judgement the single candidate is R"; with none missing there is no candidate
unfoldable pub candidates : List ℕ → ℕ → ℕ → ℕ → List Try
candidates [] T R g = []
candidates (w ∷ []) T R g = record { counts = R ∷ []; points = g + w * R } ∷ []
candidates (a ∷ (b ∷ bs)) T R g = settings a (last_of b bs) T (middles_of (a ∷ (b ∷ bs))) R g []

unfoldable pub walk : List ℕ → ℕ → ℕ → ℕ → Best
walk ws T R g = settle T (candidates ws T R g) start

-- ---- What the laws of the walk speak of.

-- a count for each missing judgement, R in all
pub record Shares (ws : List ℕ) (R : ℕ) (xs : List ℕ) : Type 0 where
  pub long : length xs ≡ length ws
  pub hits : hits xs ≡ R

-- each weight is less than the one before
abbrev pub Falling : ℕ → List ℕ → Type 0
Falling a [] = Unit {0}
Falling a (b ∷ bs) = (b < a) × Falling b bs

abbrev pub Falls : List ℕ → Type 0
Falls [] = Unit {0}
Falls (a ∷ bs) = Falling a bs
