-- The places of a sheet that no check stops lie within it.
-- Assumes nothing.
use mathlib.Core.Path.{◌≡◌, ap}
use mathlib.Core.List.{List}
use Prim.Native.Nat.{ℕ, ◌+◌, ◌*◌, ◌≤◌}
use native.Mathlib.Omega.{arith}
use lib.ListN.{length}
use Rattle.little_endian.specs.Bytes.{u32_at}
use Rattle.sheets_laws.specs.Sheets.{chart_count, scoring_at, own_count, query_count, rows_at}
use Rattle.sheets_laws.proofs.Accepted.{Accepted, accepted}
use Rattle.typed_text.specs.declared.Places.{Places}
use Rattle.typed_text.specs.SheetText.{stop_of, Placed}

-- the limits, by how many charts, own weights and queries there are
pub record Within (size charts own weights rows queries : ℕ) : Type 0 where
  pub few_charts : charts ≤ 256
  pub few_own : own ≤ 1
  pub few-queries : queries ≤ 1024
  pub section : weights ≡ 8 + 8 * charts
  pub behind : rows ≡ weights + 20 * own + 4
  pub ends : size ≡ rows + 48 * queries

pub within : (s : List ℕ) → stop_of s ≡ 0 → Within (length s) (chart_count s) (own_count s) (scoring_at s + 4) (rows_at s) (query_count s)
within s h =
    let a : Accepted s 36864 = accepted s 36864 h in
    record {
      few_charts = a.charts.few;
      few_own = a.scoring.few;
      few-queries = a.queries.few;
      section = omega arith;
      behind = omega arith;
      ends = a.queries.ends;
    }

abbrev pub WithinPlaces : List ℕ → Places → Type 0
WithinPlaces s p = Within (length s) p.charts p.own p.weights p.rows p.queries

pub placed : (s : List ℕ) (p : Places) → Placed s p → WithinPlaces s p
placed s p h = rw h.places (within s h.accepted)

module _ (s : List ℕ) (p : Places) (h : Placed s p) where
  pub charts_are : p.charts ≡ chart_count s
  charts_are = ap (λ (x : Places). x.charts) h.places

  pub own_are : p.own ≡ own_count s
  own_are = ap (λ (x : Places). x.own) h.places

  pub weights-at : p.weights ≡ scoring_at s + 4
  weights-at = ap (λ (x : Places). x.weights) h.places

  pub rows-at : p.rows ≡ rows_at s
  rows-at = ap (λ (x : Places). x.rows) h.places

  pub queries_are : p.queries ≡ query_count s
  queries_are = ap (λ (x : Places). x.queries) h.places

-- where the counts of own weights and of queries stand, as they are read one after the other
module _ (s : List ℕ) (h : stop_of s ≡ 0) (a : ℕ) (e : a ≡ chart_count s) where
  pub few_charts_read : a ≤ 256
  few_charts_read = rw e (accepted s 36864 h).charts.few

  pub second-count : 4 + 8 * a + 4 ≤ length s
  second-count = rw e (accepted s 36864 h).scoring.counted

  module _ (b : ℕ) (f : b ≡ u32_at s (4 + 8 * a)) where
    pub few_own_read : b ≤ 1
    few_own_read = rw (f, e) (accepted s 36864 h).scoring.few

    pub third-count : 4 + 8 * a + 4 + 20 * b + 4 ≤ length s
    third-count = rw (f, e) (accepted s 36864 h).queries.counted

    pub all_Placed
        : (q : ℕ) → q ≡ u32_at s (4 + 8 * a + 4 + 20 * b)
        → Placed s (record { charts = a; own = b; weights = 4 + 8 * a + 4; rows = 4 + 8 * a + 4 + 20 * b + 4; queries = q })
    all_Placed q g = record { accepted = h; places = rw (g, f, e) }
