-- What the checks of a sheet leave, and `sheet_of` from the facts that the code has.
-- Assumes nothing.
use mathlib.Core.Path.{◌≡◌, refl}
use mathlib.Core.Bool.{Bool, true, false, not, cond}
use mathlib.Core.List.{List}
use Prim.Native.Nat.{ℕ, ◌+◌, ◌*◌, ◌≤◌, ◌<◌}
use native.Mathlib.Omega.{arith}
use lib.Dec.{ltb}
use lib.ListN.{length}
use borrow.Author.Tests.{eq-eqb, ne_eqb, ltb-false, not-false}
use Rattle.little_endian.specs.Bytes.{u32_at}
use Rattle.score_state.specs.Answer.{worked}
use Rattle.weighting.specs.Scoring.{allowed}
use Rattle.totals.specs.Totals.{totals_over}
use Rattle.sheets_laws.specs.Sheets.{chart_count, scoring_at, queries_at, query_count, rows_at, scoring_from, scoring_of, charts_stop, scoring_stop, queries_stop, first, sheet_stop, charts_of, rows_written, stopped, finished, sheet_of}
use Rattle.sheets_laws.proofs.Stops.{both_pass}

-- one check in front of others: where the whole is 0, the check does not hold, and the others are 0
passes : (b : Bool) (n rest : ℕ) → 0 < n → cond b n rest ≡ 0 → (b ≡ false) × (rest ≡ 0)
passes true n rest p e = absurd (omega arith)
passes false n rest p e = (refl, e)

-- ---- what the checks of a section leave
pub record ChartsIn (s : List ℕ) : Type 0 where
  pub counted : 4 ≤ length s
  pub few : chart_count s ≤ 256
  pub within : scoring_at s ≤ length s

pub charts_in : (s : List ℕ) → charts_stop s ≡ 0 → ChartsIn s
unfolding charts_stop
charts_in s e =
    let r3 : ℕ = cond (ltb (length s) (scoring_at s)) 1 0 in
    let r2 : ℕ = cond (ltb 256 (chart_count s)) 2 r3 in
    let p1 = passes (ltb (length s) 4) 1 r2 (omega arith) e in
    let p2 = passes (ltb 256 (chart_count s)) 2 r3 (omega arith) p1.1 in
    let p3 = passes (ltb (length s) (scoring_at s)) 1 0 (omega arith) p2.1 in
    record {
      counted = ltb-false (length s) 4 p1.0;
      few = ltb-false 256 (chart_count s) p2.0;
      within = ltb-false (length s) (scoring_at s) p3.0;
    }

-- of own weights whose section starts at a place
pub record ScoringIn (s : List ℕ) (at : ℕ) : Type 0 where
  pub counted : at + 4 ≤ length s
  pub few : u32_at s at ≤ 1
  pub within : at + 4 + 20 * u32_at s at ≤ length s
  pub allowed : allowed (scoring_from s at) ≡ true

pub scoring_in : (s : List ℕ) (at : ℕ) → scoring_stop s at ≡ 0 → ScoringIn s at
unfolding scoring_stop
scoring_in s at e =
    let r4 : ℕ = cond (not (allowed (scoring_from s at))) 18 0 in
    let r3 : ℕ = cond (ltb (length s) (at + 4 + 20 * u32_at s at)) 1 r4 in
    let r2 : ℕ = cond (ltb 1 (u32_at s at)) 18 r3 in
    let p1 = passes (ltb (length s) (at + 4)) 1 r2 (omega arith) e in
    let p2 = passes (ltb 1 (u32_at s at)) 18 r3 (omega arith) p1.1 in
    let p3 = passes (ltb (length s) (at + 4 + 20 * u32_at s at)) 1 r4 (omega arith) p2.1 in
    let p4 = passes (not (allowed (scoring_from s at))) 18 0 (omega arith) p3.1 in
    record {
      counted = ltb-false (length s) (at + 4) p1.0;
      few = ltb-false 1 (u32_at s at) p2.0;
      within = ltb-false (length s) (at + 4 + 20 * u32_at s at) p3.0;
      allowed = not-false (allowed (scoring_from s at)) p4.0;
    }

-- of queries whose section starts at a place
pub record QueriesIn (s : List ℕ) (at bytes : ℕ) : Type 0 where
  pub counted : at + 4 ≤ length s
  pub few : u32_at s at ≤ 1024
  pub ends : length s ≡ at + 4 + 48 * u32_at s at
  pub room : 36 * u32_at s at ≤ bytes

queries_in : (s : List ℕ) (at bytes : ℕ) → queries_stop s at bytes ≡ 0 → QueriesIn s at bytes
unfolding queries_stop
queries_in s at bytes e =
    let r5 : ℕ = cond (ltb bytes (36 * u32_at s at)) 5 0 in
    let r4 : ℕ = cond (ltb (at + 4 + 48 * u32_at s at) (length s)) 4 r5 in
    let r3 : ℕ = cond (ltb (length s) (at + 4 + 48 * u32_at s at)) 1 r4 in
    let r2 : ℕ = cond (ltb 1024 (u32_at s at)) 3 r3 in
    let p1 = passes (ltb (length s) (at + 4)) 1 r2 (omega arith) e in
    let p2 = passes (ltb 1024 (u32_at s at)) 3 r3 (omega arith) p1.1 in
    let p3 = passes (ltb (length s) (at + 4 + 48 * u32_at s at)) 1 r4 (omega arith) p2.1 in
    let p4 = passes (ltb (at + 4 + 48 * u32_at s at) (length s)) 4 r5 (omega arith) p3.1 in
    let p5 = passes (ltb bytes (36 * u32_at s at)) 5 0 (omega arith) p4.1 in
    let ge : at + 4 + 48 * u32_at s at ≤ length s = ltb-false (length s) (at + 4 + 48 * u32_at s at) p3.0 in
    let le : length s ≤ at + 4 + 48 * u32_at s at = ltb-false (at + 4 + 48 * u32_at s at) (length s) p4.0 in
    record {
      counted = ltb-false (length s) (at + 4) p1.0;
      few = ltb-false 1024 (u32_at s at) p2.0;
      ends = omega arith;
      room = ltb-false bytes (36 * u32_at s at) p5.0;
    }

-- a sheet that no check stops
pub record Accepted (s : List ℕ) (bytes : ℕ) : Type 0 where
  pub charts : ChartsIn s
  pub scoring : ScoringIn s (scoring_at s)
  pub queries : QueriesIn s (queries_at s) bytes

pub accepted : (s : List ℕ) (bytes : ℕ) → sheet_stop s bytes ≡ 0 → Accepted s bytes
unfolding sheet_stop
accepted s bytes e =
    let p = both_pass (charts_stop s) (first (scoring_stop s (scoring_at s)) (queries_stop s (queries_at s) bytes)) e in
    let q = both_pass (scoring_stop s (scoring_at s)) (queries_stop s (queries_at s) bytes) p.1 in
    record { charts = charts_in s p.0; scoring = scoring_in s (scoring_at s) q.0; queries = queries_in s (queries_at s) bytes q.1 }

module _ (s out : List ℕ) where
  pub sheet-stopped : (n : ℕ) → n ≡ sheet_stop s (length out) → 0 < n → stopped n out ≡ sheet_of s out
  unfolding sheet_of
  sheet-stopped n e h = rw (← e, ne_eqb n 0 (λ (z : n ≡ 0). omega arith))

  pub sheet-worked : sheet_stop s (length out) ≡ 0 → finished (query_count s) (rows_written s (scoring_of s) (charts_of s) (rows_at s) (query_count s) out) ≡ sheet_of s out
  unfolding sheet_of
  sheet-worked e = rw (eq-eqb (sheet_stop s (length out)) 0 e)

  -- b: the count of queries; o: what their rows leave; ts: the totals of that
  pub sheet-from
      : (b : ℕ) (o ts : List ℕ) → sheet_stop s (length out) ≡ 0 → b ≡ query_count s → o ≡ rows_written s (scoring_of s) (charts_of s) (rows_at s) (query_count s) out
      → ts ≡ totals_over o b → record { answer = worked (record { queries = b; totals = ts }); bytes = o } ≡ sheet_of s out
  sheet-from b o ts e eb eo et = rw (et, eo, eb) (sheet-worked e)
