-- Document 02, L9: "A relay plays two to eight charts to their end, all classic or all not, with misses given per chart and no other count
-- given." The call is handed three numbers a chart, in order: its objects, its holds and its misses.
use Rattle.std.specs.Prelude.{ℕ, ◌+◌, ◌*◌, ◌/◌, Bool, List, length, get_or}
use Rattle.inspect.specs.Inspect.{inspect_of, total_hits, misses, remain}
use Rattle.inspect.specs.declared.Accuracy.TheVariants.{Absent}
use Rattle.inspect.specs.declared.Chart.{Chart}
use Rattle.std.specs.Prelude.{None}
use Rattle.inspect.specs.declared.Query.{Query}
use Rattle.relay_laws.specs.Consecutive.{consecutive}

-- a chart of the relay, and the misses given for it
pub record Play : Type 0 where
  pub chart : Chart
  pub misses : ℕ

-- that of the chart at place k, from 0
unfoldable pub play_at : List ℕ → ℕ → Play
play_at s k =
    record {
      chart = record { n_objects = get_or s (3 * k) 0; n_hold_notes = get_or s (3 * k + 1) 0 };
      misses = get_or s (3 * k + 2) 0;
    }

-- how many charts there are, and all of them in order
abbrev pub chart_count : List ℕ → ℕ
chart_count s = length s / 3

abbrev pub plays_of : List ℕ → List Play
plays_of s = consecutive (play_at s) 0 (chart_count s)

-- A chart of the relay as a query of document 01, for its total hits, its misses and what remains: misses are given and no other count
-- (presence 32); it is played to its end, so passed is missing and the holds count in full.
unfoldable pub play_query : Bool → Play → Query
play_query classic p =
    record {
      chart = p.chart;
      method = 3;
      priority = 0;
      classic = classic;
      presence = 32;
      n320 = 0;
      n300 = 0;
      n200 = 0;
      n100 = 0;
      n50 = 0;
      misses = p.misses;
      passed = 0;
      holds = None;
      acc = Absent;
    }

abbrev pub total_of : Bool → Play → ℕ
total_of classic p = total_hits (inspect_of (play_query classic p))

-- the misses, at most the total
abbrev pub misses_of : Bool → Play → ℕ
misses_of classic p = misses (inspect_of (play_query classic p))

abbrev pub remain_of : Bool → Play → ℕ
remain_of classic p = remain (inspect_of (play_query classic p))
