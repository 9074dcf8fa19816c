-- Document 01, Nearest, step 2, with a place for each of the five judgements: where a missing one is no middle, or a count is
-- given, the place is walked with one count only, 0, so that three loops serve every set of missing judgements.
use Rattle.std.specs.Prelude.{ℕ, suc, ◌<◌, ◌≤◌, cond, ◌&&◌, List, [], ◌∷◌, ltb, eqb}
use Rattle.std.proofs.Math.Option.{Option, none, some}
use Rattle.nearest_laws.specs.Walk.{Middle, stride}

-- a place that is no middle
abbrev pub idle : Middle
idle = record { weight = 0; q = 1 }

-- "Middles: missing weights b between them"
unfoldable pub slot_of : ℕ → ℕ → ℕ → Option ℕ → Middle
slot_of a c w none = cond (ltb w a && ltb c w) (record { weight = w; q = stride a c w }) idle
slot_of a c w (some n) = idle

unfoldable pub slots : ℕ → ℕ → List ℕ → List (Option ℕ) → List Middle
slots a c [] gs = []
slots a c (w ∷ ws) [] = []
slots a c (w ∷ ws) (g ∷ gs) = slot_of a c w g ∷ slots a c ws gs

-- what stands at a place is no heavier than a, has a count to walk, and no q over a + 1
pub record Slot (a : ℕ) (m : Middle) : Type 0 where
  pub weight : m.weight ≤ a
  pub some : 0 < m.q
  pub few : m.q ≤ suc a

-- the count at a place: the given one, that of a, that of c, or the middle's
unfoldable pub place_of : ℕ → ℕ → ℕ → ℕ → ℕ → Option ℕ → ℕ → ℕ
place_of a c top rest w (some n) m = n
place_of a c top rest w none m = cond (eqb w a) top (cond (eqb w c) rest m)

unfoldable pub places : ℕ → ℕ → ℕ → ℕ → List ℕ → List (Option ℕ) → List ℕ → List ℕ
places a c top rest [] gs ms = []
places a c top rest (w ∷ ws) [] ms = []
places a c top rest (w ∷ ws) (g ∷ gs) [] = []
places a c top rest (w ∷ ws) (g ∷ gs) (m ∷ ms) = place_of a c top rest w g m ∷ places a c top rest ws gs ms
