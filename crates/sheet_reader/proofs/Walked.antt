-- What the calls of `work_accepted` say, one after the other: where the reader stands in the sheet, and what each read hands back of it.
-- Assumes nothing.
use Rattle.std.proofs.Common.{◌≡◌, ap, ◌∙◌, ℕ, ◌+◌, ◌*◌, ◌≤◌, List, Bor, true, cond, length, take, drop, arith}
use lib.Dec.{eqb}
use Rattle.little_endian.specs.Bytes.{u32_at}
use Rattle.cursor.specs.declared.Reader.{Reader}
use Rattle.inspect.specs.declared.Chart.{Chart}
use Rattle.records.specs.Records.{weights_at}
use Rattle.charts.specs.Charts.{charts_at}
use Rattle.weighting.specs.Scoring.{allowed}
use Rattle.weighting.specs.declared.Scoring.{Scoring}
use Rattle.weighting.specs.declared.Scoring.TheVariants.{Standard, Own}
use Rattle.sheets_laws.specs.Sheets.{scoring_of, charts_of, query_count, rows_at, sheet_stop, rows_written}
use Rattle.sheet_reader.proofs.Pieces.{length_part, count_in, charts_in, scoring_in}
use Rattle.sheet_reader.proofs.Sections.{count_fits, few, charts_fit, own_fits, at_most_one, weights_fit, queries_fit, scores, rows_fit, room as rows_room, all-rows}

-- what `Reader::read` says of the bytes b that it hands back and of the reader q that it leaves: b are the next m, and q stands behind them
abbrev pub Told : Reader → ℕ → Bor (List ℕ) → Reader → Type 0
Told r m b q = (b.now ≡ take m (drop r.at r.sheet.now)) × (q.sheet ≡ r.sheet) × (q.at ≡ r.at + m)

-- the reader stands in the sheet x at the place m
abbrev pub Stands : Reader → Bor (List ℕ) → ℕ → Type 0
Stands r x m = (r.sheet ≡ x) × (r.at ≡ m)

module _ (x : Bor (List ℕ)) (r : Reader) (m : ℕ) (h : Stands r x m) (k : ℕ) where
  within : m + k ≤ length x.now → r.at + k ≤ length r.sheet.now
  within l = let e : length r.sheet.now ≡ length x.now = ap (λ (b : Bor (List ℕ)). length b.now) h.0 in let g = h.1 in omega (arith, l, e, g)

  module _ (b : Bor (List ℕ)) (q : Reader) (t : Told r k b q) where
    bytes_read : b.now ≡ take k (drop m x.now)
    bytes_read = t.0 ∙ (λ i. take k (drop (h.1 i) (h.0 i).now))

    behind : Stands q x (m + k)
    behind = (t.1 ∙ h.0, t.2 ∙ ap (λ (n : ℕ). n + k) h.1)

    length_read : m + k ≤ length x.now → length b.now ≡ k
    length_read l = ap length bytes_read ∙ length_part x.now m k l

    count_read : 4 ≤ k → (n : ℕ) → n ≡ u32_at b.now 0 → n ≡ u32_at x.now m
    count_read l n e = e ∙ ap (λ (s : List ℕ). u32_at s 0) bytes_read ∙ count_in x.now m k l

-- a sheet that no check stops, for an output of this many bytes, and its first reader
module _ (x : Bor (List ℕ)) (bytes : ℕ) (clear : sheet_stop x.now bytes ≡ 0) (r : Reader) (h₀ : Stands r x 0) where
  abbrev s : List ℕ
  s = x.now

  pub first_fits : r.at + 4 ≤ length r.sheet.now
  first_fits = within x r 0 h₀ 4 (count_fits s bytes clear)

  module _ (b₁ : Bor (List ℕ)) (r₁ : Reader) (t₁ : Told r 4 b₁ r₁) where
    pub first_read : length b₁.now ≡ 4
    first_read = length_read x r 0 h₀ 4 b₁ r₁ t₁ (count_fits s bytes clear)

    h₁ : Stands r₁ x 4
    h₁ = behind x r 0 h₀ 4 b₁ r₁ t₁

    -- c charts
    module _ (c : ℕ) (d₁ : c ≡ u32_at b₁.now 0) where
      e₁ : c ≡ u32_at s 0
      e₁ = count_read x r 0 h₀ 4 b₁ r₁ t₁ (omega arith) c d₁

      pub few_charts : c ≤ 256
      few_charts = few s bytes clear c e₁

      pub listed_fits : r₁.at + 8 * c ≤ length r₁.sheet.now
      listed_fits = within x r₁ 4 h₁ (8 * c) (charts_fit s bytes clear c e₁)

      module _ (b₂ : Bor (List ℕ)) (r₂ : Reader) (t₂ : Told r₁ (8 * c) b₂ r₂) where
        pub listed_read : length b₂.now ≡ 8 * c
        listed_read = length_read x r₁ 4 h₁ (8 * c) b₂ r₂ t₂ (charts_fit s bytes clear c e₁)

        h₂ : Stands r₂ x (4 + 8 * c)
        h₂ = behind x r₁ 4 h₁ (8 * c) b₂ r₂ t₂

        charts_read : (xs : List Chart) → take c xs ≡ charts_at b₂.now 0 c → take c xs ≡ charts_at s 4 c
        charts_read xs e = e ∙ ap (λ (l : List ℕ). charts_at l 0 c) (bytes_read x r₁ 4 h₁ (8 * c) b₂ r₂ t₂) ∙ charts_in s 4 (8 * c) c (omega arith)

        pub second_fits : r₂.at + 4 ≤ length r₂.sheet.now
        second_fits = within x r₂ (4 + 8 * c) h₂ 4 (own_fits s bytes clear c e₁)

        module _ (b₃ : Bor (List ℕ)) (r₃ : Reader) (t₃ : Told r₂ 4 b₃ r₃) where
          pub second_read : length b₃.now ≡ 4
          second_read = length_read x r₂ (4 + 8 * c) h₂ 4 b₃ r₃ t₃ (own_fits s bytes clear c e₁)

          h₃ : Stands r₃ x (4 + 8 * c + 4)
          h₃ = behind x r₂ (4 + 8 * c) h₂ 4 b₃ r₃ t₃

          -- g sets of own weights
          module _ (g : ℕ) (d₂ : g ≡ u32_at b₃.now 0) where
            e₂ : g ≡ u32_at s (4 + 8 * c)
            e₂ = count_read x r₂ (4 + 8 * c) h₂ 4 b₃ r₃ t₃ (omega arith) g d₂

            pub at_most_one_set : g ≤ 1
            at_most_one_set = at_most_one s bytes clear c e₁ g e₂

            pub weights_fits : r₃.at + 20 * g ≤ length r₃.sheet.now
            weights_fits = within x r₃ (4 + 8 * c + 4) h₃ (20 * g) (weights_fit s bytes clear c e₁ g e₂)

            module _ (b₄ : Bor (List ℕ)) (r₄ : Reader) (t₄ : Told r₃ (20 * g) b₄ r₄) where
              pub weights_read : length b₄.now ≡ 20 * g
              weights_read = length_read x r₃ (4 + 8 * c + 4) h₃ (20 * g) b₄ r₄ t₄ (weights_fit s bytes clear c e₁ g e₂)

              h₄ : Stands r₄ x (4 + 8 * c + 4 + 20 * g)
              h₄ = behind x r₃ (4 + 8 * c + 4) h₃ (20 * g) b₄ r₄ t₄

              pub third_fits : r₄.at + 4 ≤ length r₄.sheet.now
              third_fits = within x r₄ (4 + 8 * c + 4 + 20 * g) h₄ 4 (queries_fit s bytes clear c e₁ g e₂)

              module _ (sc : Scoring) (d₃ : sc ≡ cond (eqb g 0) Standard (Own (weights_at b₄.now 0))) where
                e₃ : sc ≡ cond (eqb g 0) Standard (Own (weights_at s (4 + 8 * c + 4)))
                e₃ =
                    d₃
                    ∙ ap (λ (l : List ℕ). cond (eqb g 0) Standard (Own (weights_at l 0))) (bytes_read x r₃ (4 + 8 * c + 4) h₃ (20 * g) b₄ r₄ t₄)
                    ∙ scoring_in s (4 + 8 * c + 4) (20 * g) g (omega arith)

                pub scoring_allowed : allowed sc ≡ true
                scoring_allowed = scores s bytes clear c e₁ g e₂ sc e₃

                module _ (b₅ : Bor (List ℕ)) (r₅ : Reader) (t₅ : Told r₄ 4 b₅ r₅) where
                  pub third_read : length b₅.now ≡ 4
                  third_read = length_read x r₄ (4 + 8 * c + 4 + 20 * g) h₄ 4 b₅ r₅ t₅ (queries_fit s bytes clear c e₁ g e₂)

                  h₅ : Stands r₅ x (4 + 8 * c + 4 + 20 * g + 4)
                  h₅ = behind x r₄ (4 + 8 * c + 4 + 20 * g) h₄ 4 b₅ r₅ t₅

                  -- k queries
                  module _ (k : ℕ) (d₄ : k ≡ u32_at b₅.now 0) where
                    e₄ : k ≡ u32_at s (4 + 8 * c + 4 + 20 * g)
                    e₄ = count_read x r₄ (4 + 8 * c + 4 + 20 * g) h₄ 4 b₅ r₅ t₅ (omega arith) k d₄

                    pub rows_fits : r₅.at + 48 * k ≤ length r₅.sheet.now
                    rows_fits = within x r₅ (4 + 8 * c + 4 + 20 * g + 4) h₅ (48 * k) (rows_fit s bytes clear c e₁ g e₂ k e₄)

                    pub answers_fit : 36 * k ≤ bytes
                    answers_fit = rows_room s bytes clear c e₁ g e₂ k e₄

                    pub all_worked
                        : (xs : List Chart) (out zs : List ℕ) → take c xs ≡ charts_at b₂.now 0 c → zs ≡ rows_written r₅.sheet.now sc (take c xs) r₅.at k out
                        → (k ≡ query_count s) × (zs ≡ rows_written s (scoring_of s) (charts_of s) (rows_at s) (query_count s) out)
                    all_worked xs out zs ex ez =
                        all-rows s bytes clear c e₁ g e₂ k e₄ sc (take c xs) out zs e₃ (charts_read xs ex) (ez ∙ (λ i. rows_written (h₅.0 i).now sc (take c xs) (h₅.1 i) k out))
