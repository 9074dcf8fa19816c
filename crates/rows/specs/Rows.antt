-- Document 01, Where a row or sheet stops: row 6 "chart index not below chart count", then the checks of RowChecks.antt; and Records: "The
-- accuracy is either given with its f64 or absent". Document 02, L4: "With 1, method 3 uses those weights in points and target".
use Rattle.std.specs.Prelude.{List, ℕ, eqb, ltb, length, get_or}
use Rattle.std.specs.Float.{binary64}
use Rattle.std.specs.Float.Ieee.{of_bits}
use Rattle.inspect.specs.Presence.{has}
use Rattle.score_state.specs.Answer.{Answer, unless}
use Rattle.inspect.specs.declared.Chart.{Chart}
use Rattle.inspect.specs.declared.Query.{Query}
use Rattle.weighting.specs.Scoring.{weights_by}
use Rattle.weighting.specs.declared.Scoring.{Scoring}
use Rattle.generate_laws.specs.Generate.{scored_answer}
use Rattle.inspect.specs.Inspect.{acc_by, holds_by}
use Rattle.records.specs.declared.Row.{Row}
use Rattle.row_checks.specs.RowChecks.{row_stop}
use Rattle.charts.specs.Charts.{no_chart}

-- the query that a row states of its chart
unfoldable pub query_of : Row → Chart → Query
query_of row chart =
    record {
      chart = chart;
      method = row.method;
      priority = row.priority;
      classic = eqb row.classic 1;
      presence = row.presence;
      n320 = row.n320;
      n300 = row.n300;
      n200 = row.n200;
      n100 = row.n100;
      n50 = row.n50;
      misses = row.misses;
      passed = row.passed;
      holds = holds_by row.holds_given row.holds_passed;
      acc = acc_by (has row.presence 64) (of_bits binary64 row.acc);
    }

-- the answer of a row whose chart is found: its query's under the sheet's weights, unless a check stops it before
unfoldable pub found_answer : Scoring → Row → Chart → Answer (List ℕ)
found_answer sc row chart =
    unless (eqb (row_stop sc row chart) 0) (row_stop sc row chart) (scored_answer (weights_by sc (eqb row.classic 1)) (query_of row chart))

-- the answer of a row of a sheet with these charts
unfoldable pub row_answer : Scoring → Row → List Chart → Answer (List ℕ)
row_answer sc row charts = unless (ltb row.chart (length charts)) 6 (found_answer sc row (get_or charts row.chart no_chart))
