-- Document 02, L9: "Pool the remains, find the nearest split of the pool, then deal it to the charts in order, best judgement first. For
-- every such relay each chart's counts sum to its total, the charts' counts add up to the pool, and every other set of splits with those
-- misses is at least as far from the pooled target." Of any weights ws, any target T, and the charts' remains rs, in order.
use Rattle.std.specs.Prelude.{ℕ, ◌+◌, ◌-◌, ◌≤◌, min, List, [], ◌∷◌, ◌≡◌}
use Rattle.std.proofs.Math.Option.{Option, none}
use Rattle.units.specs.Gap.{gap}
use Rattle.score_state.specs.Points.{hits, points}
use Rattle.nearest_laws.specs.Nearest.{Found, found}
use Rattle.nearest_laws.specs.Split.{IsSplit}

-- "no other count given": the five counts of every chart, and so of the pool
abbrev pub all_missing : List (Option ℕ)
all_missing = none ∷ none ∷ none ∷ none ∷ none ∷ []

-- "Pool the remains, find the nearest split of the pool": document 01's walk, its counts and how many candidates it tried
unfoldable pub pooled : List ℕ → ℕ → List ℕ → Found
pooled ws T rs = found ws all_missing T (hits rs)

-- "best judgement first": a chart that has r hits to fill takes as many as there are of each count, from the front
unfoldable pub dealt : List ℕ → ℕ → List ℕ
dealt [] r = []
dealt (x ∷ xs) r = min x r ∷ dealt xs (r - x)

-- and leaves the others
unfoldable pub undealt : List ℕ → ℕ → List ℕ
undealt [] r = []
undealt (x ∷ xs) r = (x - r) ∷ undealt xs (r - x)

-- "deal it to the charts in order": the counts of each chart
unfoldable pub deals : List ℕ → List ℕ → List (List ℕ)
deals xs [] = []
deals xs (r ∷ rs) = dealt xs r ∷ deals (undealt xs r) rs

-- "set of splits with those misses": a split of document 01 for each chart, of what remains of it
pub data Splits : List ℕ → List (List ℕ) → Type 0 where
  no-chart : Splits [] []
  chart : {r : ℕ} {xs rs : List ℕ} {xss : List (List ℕ)} → IsSplit all_missing r xs → Splits rs xss → Splits (r ∷ rs) (xs ∷ xss)

-- count by count
unfoldable pub plus : List ℕ → List ℕ → List ℕ
plus [] ys = []
plus (x ∷ xs) [] = []
plus (x ∷ xs) (y ∷ ys) = (x + y) ∷ plus xs ys

-- "the charts' counts add up to the pool": their five counts together
unfoldable pub added : List (List ℕ) → List ℕ
added [] = 0 ∷ 0 ∷ 0 ∷ 0 ∷ 0 ∷ []
added (xs ∷ xss) = plus xs (added xss)

-- and their points
unfoldable pub all_points : List ℕ → List (List ℕ) → ℕ
all_points ws [] = 0
all_points ws (xs ∷ xss) = points ws xs + all_points ws xss

-- what document 02 promises of the charts' counts yss
pub record Relayed (ws : List ℕ) (T : ℕ) (rs : List ℕ) (yss : List (List ℕ)) : Type 0 where
  pub splits : Splits rs yss
  pub adds_up : added yss ≡ (pooled ws T rs).counts
  pub near : (xss : List (List ℕ)) → Splits rs xss → gap (all_points ws yss) T ≤ gap (all_points ws xss) T
