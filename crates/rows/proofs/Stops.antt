-- `found_answer` and `row_answer` from the facts that the code's tests leave.
-- Assumes nothing.
use mathlib.Core.Path.{◌≡◌, refl, ap, sym, ◌∙◌}
use mathlib.Core.Bool.{Bool, true, false, cond}
use mathlib.Core.List.{List}
use Prim.Native.Nat.{ℕ, ◌≤◌, ◌<◌}
use native.Mathlib.Omega.{arith}
use lib.Dec.{eqb, ltb}
use lib.ListN.{length, take, get_or}
use lib.Seq.{length-take-le, get_or-take}
use borrow.Author.Tests.{eq-eqb, ne_eqb, lt-ltb, le-ltb, ltb-true, ltb-false}
use Rattle.score_state.specs.Answer.{refused, unless}
use Rattle.inspect.specs.declared.Chart.{Chart}
use Rattle.inspect.specs.declared.Query.{Query}
use Rattle.weighting.specs.Scoring.{weights_by}
use Rattle.weighting.specs.declared.Scoring.{Scoring}
use Rattle.generate_laws.specs.Generate.{scored_answer}
use Rattle.records.specs.declared.Row.{Row}
use Rattle.charts.specs.Charts.{no_chart}
use Rattle.row_checks.specs.RowChecks.{row_stop}
use Rattle.rows.specs.Rows.{query_of, found_answer, row_answer}

module _ (sc : Scoring) where
  -- ---- a row whose chart is found
  pub found-stopped : (row : Row) (chart : Chart) (n : ℕ) → n ≡ row_stop sc row chart → 0 < n → refused n ≡ found_answer sc row chart
  unfolding found_answer
  found-stopped row chart n e h = rw (← e, ne_eqb n 0 (λ (z : n ≡ 0). omega arith))

  pub found-worked
      : (row : Row) (chart : Chart) (ws : List ℕ) (q : Query) (n : ℕ) → n ≡ row_stop sc row chart → n ≤ 0 → ws ≡ weights_by sc (eqb row.classic 1) → q ≡ query_of row chart
      → scored_answer ws q ≡ found_answer sc row chart
  unfolding found_answer
  found-worked row chart ws q n e h ew eq = let z : n ≡ 0 = omega arith in rw (ew, eq, eq-eqb (row_stop sc row chart) 0 (sym e ∙ z))

  -- ---- a row of a sheet with these charts
  pub no-chart : (row : Row) (charts : List Chart) → length charts ≤ row.chart → row_answer sc row charts ≡ refused 6
  unfolding row_answer
  no-chart row charts k = rw (le-ltb row.chart (length charts) k)

  pub with_chart : (row : Row) (charts : List Chart) → row.chart < length charts → row_answer sc row charts ≡ found_answer sc row (get_or charts row.chart no_chart)
  unfolding row_answer
  with_chart row charts k = rw (lt-ltb row.chart (length charts) k)

  -- the same where the charts are the first n of an array
  pub row-stopped : (row : Row) (charts : List Chart) (n : ℕ) → n ≤ length charts → n ≤ row.chart → refused 6 ≡ row_answer sc row (take n charts)
  row-stopped row charts n h k = sym (no-chart row (take n charts) (rw (length-take-le n charts h) k))

  pub row-found : (row : Row) (charts : List Chart) (n : ℕ) → n ≤ length charts → row.chart < n → found_answer sc row (get_or charts row.chart no_chart) ≡ row_answer sc row (take n charts)
  row-found row charts n h k =
      ap (found_answer sc row) (sym (get_or-take n charts row.chart no_chart k)) ∙ sym (with_chart row (take n charts) (rw (length-take-le n charts h) k))

  -- the same of the chart that is looked up: where the row names none of them, whichever stands at 0
  pub looked_up
      : (row : Row) (charts : List Chart) (n : ℕ) → n ≤ length charts
      → unless (ltb row.chart n) 6 (found_answer sc row (get_or charts (cond (ltb row.chart n) row.chart 0) no_chart)) ≡ row_answer sc row (take n charts)
  looked_up row charts n h = go (ltb row.chart n) refl
    where
      go : (b : Bool) → ltb row.chart n ≡ b → unless b 6 (found_answer sc row (get_or charts (cond b row.chart 0) no_chart)) ≡ row_answer sc row (take n charts)
      go true k = row-found row charts n h (ltb-true row.chart n k)
      go false k = row-stopped row charts n h (ltb-false row.chart n k)
