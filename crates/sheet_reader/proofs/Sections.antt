-- What the checks of a sheet leave of its sections, at the places where the reader finds them: c charts, g sets of own weights and k queries, as they are counted.
-- Assumes nothing.
use mathlib.Core.Path.{◌≡◌, ◌∙◌}
use mathlib.Core.Bool.{true, cond}
use mathlib.Core.List.{List}
use Prim.Native.Nat.{ℕ, ◌+◌, ◌*◌, ◌≤◌}
use native.Mathlib.Omega.{arith}
use lib.Dec.{eqb}
use lib.ListN.{length}
use Rattle.little_endian.specs.Bytes.{u32_at}
use Rattle.inspect.specs.declared.Chart.{Chart}
use Rattle.records.specs.Records.{weights_at}
use Rattle.charts.specs.Charts.{charts_at}
use Rattle.weighting.specs.Scoring.{allowed}
use Rattle.weighting.specs.declared.Scoring.{Scoring}
use Rattle.weighting.specs.declared.Scoring.TheVariants.{Standard, Own}
use Rattle.sheets_laws.specs.Sheets.{scoring_from, scoring_of, charts_of, query_count, rows_at, sheet_stop, rows_written}
use Rattle.sheets_laws.proofs.Accepted.{Accepted, ScoringIn, QueriesIn, accepted}

module _ (s : List ℕ) (bytes : ℕ) (clear : sheet_stop s bytes ≡ 0) where
  whole : Accepted s bytes
  whole = accepted s bytes clear

  pub count_fits : 4 ≤ length s
  count_fits = whole.charts.counted

  module _ (c : ℕ) (ec : c ≡ u32_at s 0) where
    own : ScoringIn s (4 + 8 * c)
    own = rw ec whole.scoring

    pub few : c ≤ 256
    few = rw ec whole.charts.few

    pub charts_fit : 4 + 8 * c ≤ length s
    charts_fit = let h = own.counted in omega (arith, h)

    pub own_fits : 4 + 8 * c + 4 ≤ length s
    own_fits = own.counted

    module _ (g : ℕ) (eg : g ≡ u32_at s (4 + 8 * c)) where
      queries : QueriesIn s (4 + 8 * c + 4 + 20 * g) bytes
      queries = rw (eg, ec) whole.queries

      pub at_most_one : g ≤ 1
      at_most_one = rw eg own.few

      pub weights_fit : 4 + 8 * c + 4 + 20 * g ≤ length s
      weights_fit = rw eg own.within

      pub queries_fit : 4 + 8 * c + 4 + 20 * g + 4 ≤ length s
      queries_fit = queries.counted

      pub scores : (sc : Scoring) → sc ≡ cond (eqb g 0) Standard (Own (weights_at s (4 + 8 * c + 4))) → allowed sc ≡ true
      unfolding scoring_from
      scores sc e = rw (e, eg) own.allowed

      module _ (k : ℕ) (ek : k ≡ u32_at s (4 + 8 * c + 4 + 20 * g)) where
        pub rows_fit : 4 + 8 * c + 4 + 20 * g + 4 + 48 * k ≤ length s
        rows_fit = let h = queries.ends in omega (arith, h, ek)

        pub room : 36 * k ≤ bytes
        room = let h = queries.room in omega (arith, h, ek)

        -- the rows that were worked are those of the sheet
        pub all-rows
            : (sc : Scoring) (cs : List Chart) (out zs : List ℕ) → sc ≡ cond (eqb g 0) Standard (Own (weights_at s (4 + 8 * c + 4))) → cs ≡ charts_at s 4 c
            → zs ≡ rows_written s sc cs (4 + 8 * c + 4 + 20 * g + 4) k out
            → (k ≡ query_count s) × (zs ≡ rows_written s (scoring_of s) (charts_of s) (rows_at s) (query_count s) out)
        unfolding scoring_from charts_of
        all-rows sc cs out zs es ex ez = (rw (ek, eg, ec), ez ∙ rw (es, ex, ek, eg, ec))
