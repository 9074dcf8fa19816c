-- Document 01, Records, Sheet: "Charts (at most 256, 8 bytes: objects, holds), then queries (..): 0: chart index u16. 2: method u8. 3:
-- priority u8. 4: classic u8. 5: presence u8. .. 8, 12, 16, 20, 24, 28: the five counts and misses. 32: passed. 36: acc, f64 bits."
-- Document 02, L2: "Queries become 48 bytes: byte 6 may be 1, and then a u32 at 44 says how many holds were passed", and byte 7 as
-- before; L4: "five u32 weights from n320 to n50"; L6: "ten weights as 40 bytes of u32".
use Rattle.std.specs.Prelude.{List, ℕ, ◌+◌}
use Rattle.little_endian.specs.Bytes.{byte, u16_at, u32_at, u64_at}
use Rattle.inspect.specs.declared.Chart.{Chart}
use Rattle.score_state.specs.declared.HitResults.{HitResults}
use Rattle.score_state.specs.declared.Weights.{Weights}
use Rattle.records.specs.declared.Row.{Row}

-- the chart that starts at a place
unfoldable pub chart_at : List ℕ → ℕ → Chart
chart_at s at = record { n_objects = u32_at s at; n_hold_notes = u32_at s (at + 4) }

-- the query that starts at a place
unfoldable pub row_at : List ℕ → ℕ → Row
row_at s at =
    record {
      chart = u16_at s at;
      method = byte s (at + 2);
      priority = byte s (at + 3);
      classic = byte s (at + 4);
      presence = byte s (at + 5);
      holds_given = byte s (at + 6);
      zero = byte s (at + 7);
      n320 = u32_at s (at + 8);
      n300 = u32_at s (at + 12);
      n200 = u32_at s (at + 16);
      n100 = u32_at s (at + 20);
      n50 = u32_at s (at + 24);
      misses = u32_at s (at + 28);
      passed = u32_at s (at + 32);
      acc = u64_at s (at + 36);
      holds_passed = u32_at s (at + 44);
    }

-- its counts and misses alone
unfoldable pub counts_at : List ℕ → ℕ → HitResults
counts_at s at =
    record {
      n320 = u32_at s (at + 8);
      n300 = u32_at s (at + 12);
      n200 = u32_at s (at + 16);
      n100 = u32_at s (at + 20);
      n50 = u32_at s (at + 24);
      misses = u32_at s (at + 28);
    }

-- the five weights that start at a place
unfoldable pub weights_at : List ℕ → ℕ → Weights
weights_at s at = record { n320 = u32_at s at; n300 = u32_at s (at + 4); n200 = u32_at s (at + 8); n100 = u32_at s (at + 12); n50 = u32_at s (at + 16) }
