-- Document 02, L2, of a row whose byte 6 is 1: "methods 0 to 2 equal the Rust on a chart whose n_hold_notes is that smaller number".
use Rattle.std.specs.Prelude.{min}
use Rattle.inspect.specs.declared.Chart.{Chart}
use Rattle.records.specs.declared.Row.{Row}

-- the row's chart with "the smaller of that and n_hold_notes"
abbrev pub reached_of : Row → Chart → Chart
reached_of row chart =
    record { n_objects = chart.n_objects; n_hold_notes = min row.holds_passed chart.n_hold_notes }

-- the row with byte 6 and the last field at 0, and alike in all else
abbrev pub in_full : Row → Row
in_full row =
    record {
      chart = row.chart;
      method = row.method;
      priority = row.priority;
      classic = row.classic;
      presence = row.presence;
      holds_given = 0;
      zero = row.zero;
      n320 = row.n320;
      n300 = row.n300;
      n200 = row.n200;
      n100 = row.n100;
      n50 = row.n50;
      misses = row.misses;
      passed = row.passed;
      acc = row.acc;
      holds_passed = 0;
    }
