-- Document 02, L9: "One accuracy applies to all; the pooled target is its product with w times the sum of the totals, rounded as for one
-- chart. Pool the remains, find the nearest split of the pool, then deal it to the charts in order, best judgement first. For every such
-- relay each chart's counts sum to its total, the charts' counts add up to the pool, and every other set of splits with those misses is at
-- least as far from the pooled target. Standard weights only. tried is that of the pooled walk, within the same 88,434."
use Rattle.std.specs.Prelude.{ℕ, ◌+◌, ◌*◌, ◌<◌, ◌≤◌, Bool, List, [], ◌∷◌, ◌++◌, map, ◌≡◌, eqb, Float, get_or, take, drop}
use Rattle.std.proofs.Math.Option.{Option, none, some}
use Rattle.score_state.specs.Answer.{Answer, worked, refused, unless}
use Rattle.score_state.specs.Points.{hits, perfect_weight, standard}
use Rattle.inspect.specs.Target.{target}
use Rattle.nearest_laws.specs.Nearest.{Found}
use Rattle.relay_laws.specs.Checks.{relay_stop}
use Rattle.relay_laws.specs.Consecutive.{consecutive}
use Rattle.relay_laws.specs.Plays.{Play, play_at, chart_count, plays_of, total_of, misses_of, remain_of}
use Rattle.relay_laws.specs.Pool.{pooled, deals, Relayed}

-- what remains of each chart
abbrev pub remains : Bool → List Play → List ℕ
remains classic ps = map (remain_of classic) ps

-- "the pooled target is its product with w times the sum of the totals, rounded as for one chart"
unfoldable pub pooled_target : Bool → Float → List Play → ℕ
pooled_target classic acc ps = target acc (perfect_weight classic) (hits (map (total_of classic) ps))

-- the pool's nearest split and its tried, by the standard weights
abbrev pub pooled_split : Bool → Float → List Play → Found
pooled_split classic acc ps = pooled (standard classic) (pooled_target classic acc ps) (remains classic ps)

-- five counts and the misses of each chart, one after the other
unfoldable pub sixes : List (List ℕ) → List ℕ → List ℕ
sixes [] ms = []
sixes (xs ∷ xss) [] = []
sixes (xs ∷ xss) (m ∷ ms) = xs ++ (m ∷ sixes xss ms)

-- the numbers of a relay: tried, then the six of each chart
unfoldable pub relay_numbers : Bool → Float → List Play → List ℕ
relay_numbers classic acc ps =
    let pool = pooled_split classic acc ps in
    pool.tried ∷ sixes (deals pool.counts (remains classic ps)) (map (misses_of classic) ps)

-- with an accuracy; without one it is 13
abbrev pub relay_at : Bool → Option Float → List Play → Answer (List ℕ)
relay_at classic none ps = refused 13
relay_at classic (some acc) ps = worked (relay_numbers classic acc ps)

-- what a relay is answered, for an output of `room` numbers
unfoldable pub relay_answer : Bool → Option Float → List ℕ → ℕ → Answer (List ℕ)
relay_answer classic acc s room = unless (eqb (relay_stop acc s room) 0) (relay_stop acc s room) (relay_at classic acc (plays_of s))

-- ---- The promises, read back from an output: tried in front, then six numbers a chart.

-- the five counts and the misses of the chart at place k
abbrev pub counts_at : List ℕ → ℕ → List ℕ
counts_at out k = take 5 (drop (1 + 6 * k) out)

abbrev pub misses_at : List ℕ → ℕ → ℕ
misses_at out k = get_or out (6 + 6 * k) 0

-- the counts of all n charts
abbrev pub counts_of : List ℕ → ℕ → List (List ℕ)
counts_of out n = consecutive (counts_at out) 0 n

-- Of the numbers s that the call is handed and what its output holds at the end, where it answers 0.
pub record IsRelay (classic : Bool) (given : Option Float) (s out : List ℕ) : Type 0 where
  -- "One accuracy applies to all"
  pub acc : Float
  pub has-acc : given ≡ some acc
  -- "each chart's counts sum to its total", with its misses, which are those given, at most the total
  pub totals : (k : ℕ) → k < chart_count s → hits (counts_at out k) + misses_at out k ≡ total_of classic (play_at s k)
  pub misses : (k : ℕ) → k < chart_count s → misses_at out k ≡ misses_of classic (play_at s k)
  -- "the charts' counts add up to the pool, and every other set of splits with those misses is at least as far from the pooled target"
  pub relayed : Relayed (standard classic) (pooled_target classic acc (plays_of s)) (remains classic (plays_of s)) (counts_of out (chart_count s))
  -- "tried is that of the pooled walk, within the same 88,434"
  pub tried : get_or out 0 0 ≡ (pooled_split classic acc (plays_of s)).tried
  pub few : get_or out 0 0 ≤ 88_434
