-- Document 02, L2: "methods 0 to 2 equal the Rust on a chart whose n_hold_notes is that smaller number": the smaller of the holds passed
-- and n_hold_notes.
use Rattle.score_state.specs.Given.{option_of}
use Rattle.inspect.specs.Inspect.{shortened}
use Rattle.inspect.specs.declared.Chart.{Chart}
use Rattle.std.specs.Prelude.{None}
use Rattle.inspect.specs.declared.Query.{Query}

-- the chart with that number; without holds passed it is the chart itself
abbrev pub reached_chart : Query → Chart
reached_chart q =
    record {
      n_objects = q.chart.n_objects;
      n_hold_notes = shortened (option_of q.holds) q.chart.n_hold_notes;
    }

-- the query of that chart, its hold notes in full, and alike in all else
abbrev pub on_reached : Query → Query
on_reached q =
    record {
      chart = reached_chart q;
      method = q.method;
      priority = q.priority;
      classic = q.classic;
      presence = q.presence;
      n320 = q.n320;
      n300 = q.n300;
      n200 = q.n200;
      n100 = q.n100;
      n50 = q.n50;
      misses = q.misses;
      passed = q.passed;
      holds = None;
      acc = q.acc;
    }
