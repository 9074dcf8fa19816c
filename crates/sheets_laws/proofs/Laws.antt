-- What `sheet_of` says of a sheet, for a theorem over all its rows: a stopped sheet leaves the output; an accepted one has the
-- answer of row i at 36 * i, its nine numbers read back, and the bytes past the last answer as before.
-- Assumes nothing.
use mathlib.Core.Path.{◌≡◌, refl, ap, sym, subst, ◌∙◌}
use mathlib.Core.List.{List}
use Prim.Native.Nat.{ℕ, ◌+◌, ◌*◌, ◌≤◌, ◌<◌}
use native.Mathlib.Omega.{arith}
use lib.ListN.{length, take, drop, get_or}
use lib.Seq.{get_or-take, get_or-drop}
use Rattle.little_endian.specs.Bytes.{u32_at}
use Rattle.score_state.specs.Answer.{Answer, worked, refused, status_of}
use Rattle.inspect.specs.declared.Chart.{Chart}
use Rattle.records.specs.Records.{chart_at}
use Rattle.charts.proofs.Listed.{length_charts, chart_of}
use Rattle.answers.specs.Answers.{answer_bytes, value}
use Rattle.answers.proofs.Written.{status_back, value_back}
use Rattle.totals.specs.Totals.{totals_over}
use Rattle.sheets_laws.specs.Sheets.{chart_count, query_count, rows_at, scoring_of, sheet_stop, charts_of, answer_at, rows_written, SheetNumbers, WorkedSheet, sheet_of}
use Rattle.sheets_laws.proofs.Accepted.{accepted, sheet-stopped, sheet-worked}
use Rattle.sheets_laws.proofs.Written.{length-written, written-part, written_rest}

-- a number inside 36 bytes that stand at m
within : (xs : List ℕ) (m j : ℕ) → j + 4 ≤ 36 → u32_at xs (m + j) ≡ u32_at (take 36 (drop m xs)) j
within xs m j h =
    let at : (k : ℕ) → k < 4 → get_or (take 36 (drop m xs)) (j + k) 0 ≡ get_or xs (m + j + k) 0 =
    λ k l. get_or-take 36 (drop m xs) (j + k) 0 (omega arith) ∙ get_or-drop m xs (j + k) 0 ∙ (let e : m + (j + k) ≡ m + j + k = omega arith in ap (λ (n : ℕ). get_or xs n 0) e) in
    rw (get_or-take 36 (drop m xs) j 0 (omega arith) ∙ get_or-drop m xs j 0, at 1 (omega arith), at 2 (omega arith), at 3 (omega arith))

-- ---- a sheet
pub charts_of-length : (s : List ℕ) → length (charts_of s) ≡ chart_count s
unfolding charts_of
charts_of-length s = length_charts s 4 (chart_count s)

pub chart-found : (s : List ℕ) (i : ℕ) (d : Chart) → i < chart_count s → get_or (charts_of s) i d ≡ chart_at s (4 + 8 * i)
unfolding charts_of
chart-found s i d l = chart_of s 4 (chart_count s) i d l

module _ (s out : List ℕ) where
  pub refused-answer : 0 < sheet_stop s (length out) → (sheet_of s out).answer ≡ refused (sheet_stop s (length out))
  refused-answer h = ap (λ (w : WorkedSheet). w.answer) (sym (sheet-stopped s out (sheet_stop s (length out)) refl h))

  pub refused-bytes : 0 < sheet_stop s (length out) → (sheet_of s out).bytes ≡ out
  refused-bytes h = ap (λ (w : WorkedSheet). w.bytes) (sym (sheet-stopped s out (sheet_stop s (length out)) refl h))

  module _ (ok : sheet_stop s (length out) ≡ 0) where
    pub accepted-answer : (sheet_of s out).answer ≡ worked (record { queries = query_count s; totals = totals_over (sheet_of s out).bytes (query_count s) })
    accepted-answer =
        subst (λ (w : WorkedSheet). w.answer ≡ worked (record { queries = query_count s; totals = totals_over w.bytes (query_count s) })) (sheet-worked s out ok) refl

    accepted-bytes : (sheet_of s out).bytes ≡ rows_written s (scoring_of s) (charts_of s) (rows_at s) (query_count s) out
    accepted-bytes = ap (λ (w : WorkedSheet). w.bytes) (sym (sheet-worked s out ok))

    pub accepted-length : length (sheet_of s out).bytes ≡ length out
    accepted-length = ap length accepted-bytes ∙ length-written s (scoring_of s) (charts_of s) (rows_at s) out (query_count s) (accepted s (length out) ok).queries.room

    -- bytes past the last answer stay
    pub bytes_past : drop (36 * query_count s) (sheet_of s out).bytes ≡ drop (36 * query_count s) out
    bytes_past = ap (drop (36 * query_count s)) accepted-bytes ∙ written_rest s (scoring_of s) (charts_of s) (rows_at s) out (query_count s)

    -- the 36 bytes of every row are those of its answer
    pub row-bytes : (i : ℕ) → i < query_count s → take 36 (drop (36 * i) (sheet_of s out).bytes) ≡ answer_bytes (answer_at s i)
    unfolding answer_at
    row-bytes i l = ap (λ (b : List ℕ). take 36 (drop (36 * i) b)) accepted-bytes ∙ written-part s (scoring_of s) (charts_of s) (rows_at s) out (query_count s) i l

    -- its status, and its values from n320 (0) to left (7), read back
    pub row-status : (i : ℕ) → i < query_count s → status_of (answer_at s i) < 4294967296 → u32_at (sheet_of s out).bytes (36 * i) ≡ status_of (answer_at s i)
    row-status i l h =
        let z : 36 * i ≡ 36 * i + 0 = omega arith in
        ap (u32_at (sheet_of s out).bytes) z ∙ within (sheet_of s out).bytes (36 * i) 0 (omega arith) ∙ ap (λ (b : List ℕ). u32_at b 0) (row-bytes i l) ∙ status_back (answer_at s i) h

    pub row-value
        : (i k : ℕ) → i < query_count s → k < 8 → value (answer_at s i) k < 4294967296 → u32_at (sheet_of s out).bytes (36 * i + (4 + 4 * k)) ≡ value (answer_at s i) k
    row-value i k l m h =
        within (sheet_of s out).bytes (36 * i) (4 + 4 * k) (omega arith)
        ∙ ap (λ (b : List ℕ). u32_at b (4 + 4 * k)) (row-bytes i l)
        ∙ value_back (answer_at s i) k m h

-- ---- an answer tells its case, and its numbers
pub worked-apart : (x : SheetNumbers) (n : ℕ) → worked x ≡ refused n → ⊥
worked-apart x n e = let z : ◌≡◌ {A = ℕ} 0 1 = cc in omega arith

pub refused-same : (m n : ℕ) → ◌≡◌ {A = Answer SheetNumbers} (refused m) (refused n) → m ≡ n
refused-same m n e = cc

pub worked_same : (x y : SheetNumbers) → worked x ≡ worked y → x ≡ y
worked_same x y e = cc
