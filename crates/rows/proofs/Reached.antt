-- Document 02, L2, of rows: with byte 6 at 1 the answer is that of the row without holds passed on the chart that has the smaller number
-- of hold notes; with byte 6 at 0 the hold notes count in full. Assumes nothing.
use mathlib.Core.Path.{◌≡◌, ap, ◌∙◌}
use mathlib.Core.Bool.{false}
use mathlib.Core.List.{List}
use Prim.Native.Nat.{ℕ, min}
use native.Mathlib.Omega.{arith}
use lib.Dec.{eqb}
use Rattle.score_state.specs.Answer.{Answer, unless}
use Rattle.inspect.specs.Inspect.{shortened}
use Rattle.inspect.specs.Checks.{chart_over}
use Rattle.inspect.proofs.Checked.{chart_within}
use Rattle.inspect.specs.declared.Chart.{Chart}
use Rattle.std.specs.Prelude.{None}
use Rattle.weighting.specs.Scoring.{weights_by}
use Rattle.weighting.specs.declared.Scoring.{Scoring}
use Rattle.generate_laws.specs.Generate.{scored_answer}
use Rattle.generate_laws.specs.Reached.{on_reached}
use Rattle.generate_laws.proofs.Reached.{reached_scored}
use Rattle.records.specs.declared.Row.{Row}
use Rattle.row_checks.specs.RowChecks.{holds_left, fields_left, unknown_row, row_stop}
use Rattle.rows.specs.Rows.{query_of, found_answer}
use Rattle.rows.specs.Reached.{reached_of, in_full}

pub row_in_full : (row : Row) (chart : Chart) → row.holds_given ≡ 0 → (query_of row chart).holds ≡ None
unfolding query_of
row_in_full row chart h = rw h

module _ (sc : Scoring) (row : Row) (chart : Chart) (h : row.holds_given ≡ 1) where
  query_reached : on_reached (query_of row chart) ≡ query_of (in_full row) (reached_of row chart)
  unfolding query_of shortened
  query_reached = rw h

  pub row_reached : chart_over chart ≡ false → found_answer sc row chart ≡ found_answer sc (in_full row) (reached_of row chart)
  unfolding found_answer row_stop unknown_row fields_left holds_left
  row_reached e =
      ap (λ (n : ℕ). unless (eqb n 0) n (scored_answer ws (query_of row chart))) stops
      ∙ ap (λ (a : Answer (List ℕ)). unless (eqb (row_stop sc (in_full row) (reached_of row chart)) 0) (row_stop sc (in_full row) (reached_of row chart)) a) answers
    where
      ws : List ℕ
      ws = weights_by sc (eqb row.classic 1)

      stops : row_stop sc row chart ≡ row_stop sc (in_full row) (reached_of row chart)
      stops = rw (e, chart_within chart (min row.holds_passed chart.n_hold_notes) (omega arith) e, h)

      answers : scored_answer ws (query_of row chart) ≡ scored_answer ws (query_of (in_full row) (reached_of row chart))
      answers = reached_scored ws (query_of row chart).method (query_of row chart) (unfold query_of in e) ∙ ap (scored_answer ws) query_reached
