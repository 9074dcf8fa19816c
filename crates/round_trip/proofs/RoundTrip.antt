-- Every sheet that has a text is read back from it to the same bytes.
-- Assumes nothing.
use mathlib.Core.Path.{◌≡◌, refl, sym, ap, ◌∙◌}
use mathlib.Core.List.{List, [], ◌∷◌, ◌++◌, append-nil}
use mathlib.Core.Bool.{true}
use Prim.Native.Nat.{ℕ, zero, suc, ◌+◌, ◌-◌, ◌*◌, ◌≤◌, ◌<◌}
use native.Mathlib.Numerals.{add-one}
use native.Mathlib.Omega.{arith}
use lib.ListN.{length, drop, length-append}
use lib.Seq.{take-length}
use borrow.Author.Tests.{le-ltb}
use Rattle.lists.specs.Lists.{joined}
use Rattle.little_endian.specs.Bytes.{byte, u32_at, bytes4}
use Rattle.text.specs.Text.{decimal_text}
use Rattle.words.specs.Lines.{lines_from, lines}
use Rattle.records.specs.Records.{chart_at, weights_at, row_at}
use Rattle.records.specs.declared.Row.{Row}
use Rattle.row_checks.specs.RowChecks.{unknown_row, fields_left}
use Rattle.sheets_laws.specs.Sheets.{scoring_at, own_count, query_count, rows_at, row_of}
use Rattle.typed_line.specs.Keywords.{chart, weights, play}
use Rattle.typed_sheet.specs.declared.Tally.{Tally}
use Rattle.std.specs.Prelude.{Ok}
use Rattle.typed_sheet.specs.Typed.{counted, tally_all, none, tally_of, sheet_size, sheet_bytes, Outcome, outcome_of, typed_sheet}
use Rattle.accuracy_text.specs.AccuracyText.{spaced}
use Rattle.sheet_lines.specs.Lines.{line_text, chart_text, weights_text, play_text, method_word, option_words}
use Rattle.typed_text.specs.declared.Places.{Places}
use Rattle.typed_text.specs.SheetText.{places_of, Placed, line_at, text_of}
use Rattle.typed_text.proofs.Inside.{Within, placed, charts_are, own_are, weights-at, rows-at, queries_are}
use Rattle.typed_text.proofs.Texts.{line_chart, line_weights, line_play, all_lines}
use Rattle.round_trip.specs.RoundTrip.{HasText, ReadBack}
use Rattle.round_trip.proofs.Words.{word, all_words, in-line}
use Rattle.round_trip.proofs.Free.{line_heard}
use Rattle.round_trip.proofs.Lines.{chart_line, weights_line, play_line, Small, chart_heard, chart-words, weights_heard, weights-words, play_heard, play-words}
use Rattle.round_trip.proofs.Records.{piece, glue, four_back, u32-small, Known, known-row, Clean, clean-row, chart_back, weights_back, small_row, play_back}
use Rattle.round_trip.proofs.Steps.{tal, Upto, nothing, add_line, counts-chart, counts-weights, counts-play}

some-length : (w : List ℕ) (ws : List (List ℕ)) → 0 < length w → 0 < length (w ++ spaced ws)
some-length w ws h = simp length-append (omega arith)

-- a section that has not grown
same_piece : (s : List ℕ) (i n : ℕ) → piece s i n ++ [] ≡ piece s i n
same_piece s i n = append-nil (piece s i n)

-- a sheet of n bytes at the front of an output
abbrev sheet_outcome : ℕ → List ℕ → List ℕ → Outcome
sheet_outcome n x out = record { answer = Ok n; bytes = x ++ drop n out }

in_full : (text out : List ℕ) (t : Tally) → sheet_size t ≤ length out
    → outcome_of text out (Ok t) ≡ sheet_outcome (sheet_size t) (sheet_bytes text t.charts t.weights t.plays) out
unfolding outcome_of
in_full text out t k = rw (le-ltb (length out) (sheet_size t) k)

-- what holds of 0, and of each number up to n where it holds of the one before
climb : (P : ℕ → Type 0) (n : ℕ) → P 0 → ((a : ℕ) → a < n → P a → P (suc a)) → (a : ℕ) → a ≤ n → P a
climb P n z step zero k = z
climb P n z step (suc a) k = step a (omega arith) (climb P n z step a (omega arith))

module _ (s : List ℕ) (has : HasText s) (p : Places) (h : Placed s p) where
  abbrev b : (i : ℕ) → byte s i < 256
  b = has.bytes

  w : Within (length s) p.charts p.own p.weights p.rows p.queries
  w = placed s p h

  chart_word : word chart ≡ true
  unfolding chart
  chart_word = refl

  weights_word : word weights ≡ true
  unfolding weights
  weights_word = refl

  play_word : word play ≡ true
  unfolding play
  play_word = refl

  chart-long : 0 < length chart
  unfolding chart
  chart-long = omega arith

  weights-long : 0 < length weights
  unfolding weights
  weights-long = omega arith

  play-long : 0 < length play
  unfolding play
  play-long = omega arith

  -- ---- a chart more
  chart_next : (text : List ℕ) (a : ℕ) → Upto s p text a 0 0 → a < p.charts → Upto s p (text ++ chart_text (chart_at s (4 + 8 * a))) (a + 1) 0 0
  unfolding chart_text line_text chart_at
  chart_next text a u k =
      let i : ℕ = 4 + 8 * a in
      let x : ℕ = u32_at s (4 + 8 * a) in
      let y : ℕ = u32_at s (4 + 8 * a + 4) in
      let ws : List (List ℕ) = decimal_text (u32_at s (4 + 8 * a)) ∷ decimal_text (u32_at s (4 + 8 * a + 4)) ∷ [] in
      let ok : all_words ws ≡ true = chart-words x y in
      let inside : 4 + 8 * a + 8 ≤ length s = omega (arith, w.few_charts, w.section, w.behind, w.ends) in
      let m : 8 * (a + 1) ≡ 8 * a + 8 = omega arith in
      add_line s p text (chart ++ spaced ws) a 0 0 (a + 1) 0 0 (chart_line x y) u (in-line chart ws chart_word ok) (some-length chart ws chart-long)
      (λ j. line_heard chart ws j (chart_line x y) chart_word ok (chart_heard x y (u32-small s b i) (u32-small s b (i + 4))) refl refl) refl
      (λ n l e f. counts-chart a 0 0 n l (omega (arith, w.few_charts)) e f)
      (glue s 4 i (8 * a) 8 (8 * (a + 1)) _ _ refl (chart_back s b i inside) refl m)
      (same_piece s p.weights (20 * 0)) (same_piece s p.rows (48 * 0))

  -- ---- own weights
  weights_next : (text : List ℕ) (a : ℕ) → Upto s p text a 0 0 → p.own ≡ 1 → Upto s p (text ++ weights_text (weights_at s p.weights)) a 1 0
  unfolding weights_text line_text weights_at
  weights_next text a u k =
      let i : ℕ = p.weights in
      let x0 : ℕ = u32_at s p.weights in
      let x1 : ℕ = u32_at s (p.weights + 4) in
      let x2 : ℕ = u32_at s (p.weights + 8) in
      let x3 : ℕ = u32_at s (p.weights + 12) in
      let x4 : ℕ = u32_at s (p.weights + 16) in
      let ws : List (List ℕ) = decimal_text x0 ∷ decimal_text x1 ∷ decimal_text x2 ∷ decimal_text x3 ∷ decimal_text x4 ∷ [] in
      let ok : all_words ws ≡ true = weights-words x0 x1 x2 x3 x4 in
      let inside : p.weights + 20 ≤ length s = omega (arith, w.behind, w.ends) in
      add_line s p text (weights ++ spaced ws) a 0 0 a 1 0 (weights_line x0 x1 x2 x3 x4) u (in-line weights ws weights_word ok) (some-length weights ws weights-long)
      (λ j. line_heard weights ws j (weights_line x0 x1 x2 x3 x4) weights_word ok
      (weights_heard x0 x1 x2 x3 x4 (u32-small s b i) (u32-small s b (i + 4)) (u32-small s b (i + 8)) (u32-small s b (i + 12)) (u32-small s b (i + 16))) refl refl) refl
      (λ n l e f. counts-weights a 0 n l e f)
      (same_piece s 4 (8 * a)) (weights_back s b i inside) (same_piece s p.rows (48 * 0))

  -- ---- a play more
  row_there : (d : ℕ) → row_of s (rows_at s) d ≡ row_at s (p.rows + 48 * d)
  unfolding row_of
  row_there d = rw (rows-at s p h)

  row-known : (d : ℕ) → d < p.queries → Known (row_at s (p.rows + 48 * d))
  row-known d k = known-row (row_at s (p.rows + 48 * d)) (ap unknown_row (sym (row_there d)) ∙ has.known d (rw (queries_are s p h) at k))

  row-clean : (d : ℕ) → d < p.queries → Clean (row_at s (p.rows + 48 * d))
  row-clean d k = clean-row (row_at s (p.rows + 48 * d)) (ap fields_left (sym (row_there d)) ∙ has.clean d (rw (queries_are s p h) at k))

  play_next : (text : List ℕ) (a c d : ℕ) → Upto s p text a c d → d < p.queries → Upto s p (text ++ play_text (row_at s (p.rows + 48 * d))) a c (d + 1)
  unfolding play_text line_text
  play_next text a c d u k =
      let i : ℕ = p.rows + 48 * d in
      let r : Row = row_at s i in
      let kn : Known r = row-known d k in
      let z : Small r = small_row s b i kn.method in
      let ws : List (List ℕ) = decimal_text r.chart ∷ method_word r.method ∷ option_words r in
      let ok : all_words ws ≡ true = play-words r in
      let inside : i + 48 ≤ length s = omega (arith, w.ends) in
      let m : 48 * (d + 1) ≡ 48 * d + 48 = omega arith in
      add_line s p text (play ++ spaced ws) a c d a c (d + 1) (play_line r z) u (in-line play ws play_word ok) (some-length play ws play-long)
      (λ j. line_heard play ws j (play_line r z) play_word ok (play_heard r z) refl refl) refl
      (λ n l e f. counts-play a c d n l (omega (arith, w.few-queries)) e f)
      (same_piece s 4 (8 * a)) (same_piece s p.weights (20 * c))
      (glue s p.rows i (48 * d) 48 (48 * (d + 1)) _ _ refl (play_back s b i inside kn (row-clean d k) z) refl m)

  -- ---- all lines
  abbrev upto : ℕ → ℕ → ℕ → ℕ → Type 0
  upto j a c d = Upto s p (joined (line_at s) j) a c d

  chart_step : (a : ℕ) → a < p.charts → upto a a 0 0 → upto (suc a) (suc a) 0 0
  chart_step a k u =
      let e : chart_text (chart_at s (4 + 8 * a)) ≡ line_at s a = line_chart s p h a k (chart_at s (4 + 8 * a)) refl in
      rw (← e, ← add-one a) (chart_next (joined (line_at s) a) a u k)

  charts_upto : (a : ℕ) → a ≤ p.charts → upto a a 0 0
  charts_upto a k = climb (λ (n : ℕ). upto n n 0 0) p.charts (nothing s p) chart_step a k

  own_upto : (n : ℕ) → p.own ≡ n → n ≤ 1 → upto (p.charts + n) p.charts n 0
  own_upto zero e k = let z : p.charts + 0 ≡ p.charts = omega arith in rw z (charts_upto p.charts (omega arith))
  own_upto (suc n) e k =
      let z : suc n ≡ 1 = omega arith in
      let j : p.charts + 1 ≡ suc p.charts = omega arith in
      let l : weights_text (weights_at s p.weights) ≡ line_at s p.charts = line_weights s p h p.charts (omega arith) (omega arith) (weights_at s p.weights) refl in
      rw (z, j, ← l) (weights_next (joined (line_at s) p.charts) p.charts (charts_upto p.charts (omega arith)) (omega arith))

  play_step : (d : ℕ) → d < p.queries → upto (p.charts + p.own + d) p.charts p.own d → upto (p.charts + p.own + suc d) p.charts p.own (suc d)
  play_step d k u =
      let z : p.charts + p.own + suc d ≡ suc (p.charts + p.own + d) = omega arith in
      let y : d ≡ p.charts + p.own + d - (p.charts + p.own) = omega arith in
      let l : play_text (row_at s (p.rows + 48 * d)) ≡ line_at s (p.charts + p.own + d) =
      line_play s p h (p.charts + p.own + d) (omega arith) (row_at s (p.rows + 48 * d)) (ap (λ (n : ℕ). row_at s (p.rows + 48 * n)) y) in
      rw (z, ← l, ← add-one d) (play_next (joined (line_at s) (p.charts + p.own + d)) p.charts p.own d u k)

  plays_begin : upto (p.charts + p.own + 0) p.charts p.own 0
  plays_begin = let z : p.charts + p.own + 0 ≡ p.charts + p.own = omega arith in rw z (own_upto p.own refl w.few_own)

  plays_upto : (d : ℕ) → d ≤ p.queries → upto (p.charts + p.own + d) p.charts p.own d
  plays_upto d k = climb (λ (n : ℕ). upto (p.charts + p.own + n) p.charts p.own n) p.queries plays_begin play_step d k

  whole : Upto s p (text_of s) p.charts p.own p.queries
  whole = rw (← all_lines s p h) (plays_upto p.queries (omega arith))

  -- ---- the sheet
  text_lines : lines (text_of s) ≡ whole.parts
  unfolding lines lines_from
  text_lines =
      ap (lines_from 0 true) (sym (append-nil (text_of s))) ∙ whole.splits [] ∙ append-nil whole.parts

  text_tally : tally_of (text_of s) ≡ tal p.charts p.own p.queries
  unfolding tally_of
  text_tally = ap (tally_all none 0) text_lines ∙ whole.tally

  first_count : bytes4 p.charts ≡ piece s 0 4
  first_count = ap bytes4 (charts_are s p h) ∙ four_back s b 0 (omega (arith, w.section, w.behind, w.ends))

  second-count : bytes4 p.own ≡ piece s (4 + 8 * p.charts) 4
  second-count =
      ap bytes4 (own_are s p h ∙ ap (λ (n : ℕ). u32_at s (4 + 8 * n)) (sym (charts_are s p h)))
      ∙ four_back s b (4 + 8 * p.charts) (omega (arith, w.section, w.behind, w.ends))

  queries-from : (n m : ℕ) → n ≡ scoring_at s + 4 → m ≡ own_count s → query_count s ≡ u32_at s (n + 20 * m)
  queries-from n m e f = rw (e, f)

  third-count : bytes4 p.queries ≡ piece s (p.weights + 20 * p.own) 4
  third-count =
      ap bytes4 (queries_are s p h ∙ queries-from p.weights p.own (weights-at s p h) (own_are s p h))
      ∙ four_back s b (p.weights + 20 * p.own) (omega (arith, w.behind, w.ends))

  text_bytes : sheet_bytes (text_of s) p.charts p.own p.queries ≡ s
  unfolding sheet_bytes
  text_bytes =
      let c : ℕ = p.charts in
      rw (text_lines, whole.charts, whole.weights, whole.plays)
      (glue s 0 p.rows p.rows (48 * p.queries) (length s) _ _
      (glue s 0 (p.weights + 20 * p.own) (p.weights + 20 * p.own) 4 p.rows _ _
      (glue s 0 p.weights p.weights (20 * p.own) (p.weights + 20 * p.own) _ _
      (glue s 0 (4 + 8 * p.charts) (4 + 8 * p.charts) 4 p.weights _ _
      (glue s 0 4 4 (8 * p.charts) (4 + 8 * p.charts) _ _ first_count refl refl refl)
      second-count (omega arith) (omega (arith, w.section)))
      refl (omega arith) refl)
      third-count (omega arith) (omega (arith, w.behind)))
      refl (omega arith) (omega (arith, w.ends))
      ∙ take-length s)

  size_is : sheet_size (counted p.charts p.own p.queries) ≡ length s
  size_is = omega (arith, w.section, w.behind, w.ends)

  read_again : (out : List ℕ) → length s ≤ length out → typed_sheet (text_of s) out ≡ record { answer = Ok (length s); bytes = s ++ drop (length s) out }
  unfolding typed_sheet
  read_again out k =
      let t : Tally = counted p.charts p.own p.queries in
      let x : List ℕ = sheet_bytes (text_of s) p.charts p.own p.queries in
      ap (outcome_of (text_of s) out) text_tally
      ∙ in_full (text_of s) out t (omega (arith, size_is))
      ∙ ap (λ (n : ℕ). sheet_outcome n (sheet_bytes (text_of s) p.charts p.own p.queries) out) size_is
      ∙ ap (λ (x : List ℕ). sheet_outcome (length s) x out) text_bytes

-- what the page says of every sheet that has a text
pub round_trip : (s : List ℕ) → HasText s → ReadBack s
round_trip s has = record { same = read_again s has (places_of s) (record { accepted = has.accepted; places = refl }) }
