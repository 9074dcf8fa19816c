-- The first row that is stopped, found row by row; the first lines of a text; and the four outcomes.
-- Assumes nothing.
use mathlib.Core.Path.{◌≡◌, refl, ap, sym, subst, ◌∙◌}
use mathlib.Core.List.{List, ◌++◌}
use Prim.Native.Nat.{ℕ, zero, suc, ◌+◌, ◌-◌, ◌*◌, ◌≤◌, ◌<◌}
use native.Mathlib.Omega.{arith}
use native.Mathlib.Nat.{le_trans, le-add_right}
use native.Mathlib.Numerals.{add-one}
use mathlib.Core.Bool.{Bool, true, false}
use lib.Dec.{ltb}
use lib.ListN.{length, drop, length-append}
use borrow.Author.Tests.{lt-ltb, le-ltb, eq-eqb, ne_eqb, ltb-true, ltb-false}
use Rattle.std.specs.Prelude.{Result, Ok, Err, IsErrAnd}
use Rattle.refusals.specs.declared.Refusal.{Refusal}
use Rattle.refusals.specs.Refusal.{number_of}
use Rattle.refusals.proofs.Numbers.{never_zero}
use Rattle.lists.specs.Lists.{joined}
use Rattle.inspect.specs.declared.Chart.{Chart}
use Rattle.score_state.specs.declared.Weights.{Weights}
use Rattle.records.specs.Records.{chart_at, weights_at, row_at}
use Rattle.records.specs.declared.Row.{Row}
use Rattle.sheets_laws.specs.Sheets.{chart_count, own_count, query_count, row_of}
use Rattle.sheet_lines.specs.Lines.{chart_text, weights_text, play_text}
use Rattle.typed_text.specs.declared.Places.{Places}
use Rattle.typed_text.specs.declared.TextError.{TextError}
use Rattle.typed_text.specs.declared.TextError.TheVariants as Error
use Rattle.typed_text.specs.SheetText.{stop_of, first_from, first_stopped, line_at, text_of, text, sheet_text, Placed, Says, Counted, RowsTold}
use Rattle.typed_text.proofs.Inside.{charts_are, own_are, weights-at, rows-at, queries_are}

-- ---- row by row
module _ (f : ℕ → ℕ) (i n : ℕ) where
  pub first_on : i < n → f i ≡ 0 → first_from f i (n - i) ≡ first_from f (i + 1) (n - (i + 1))
  unfolding first_from
  first_on h e = let z : n - i ≡ suc (n - (i + 1)) = omega arith in rw (z, eq-eqb (f i) 0 e)

  pub first_here : i < n → 0 < f i → first_from f i (n - i) ≡ i
  unfolding first_from
  first_here h e = let z : n - i ≡ suc (n - (i + 1)) = omega arith in rw (z, ne_eqb (f i) 0 (λ y. omega arith))

  pub first-none : i ≡ n → first_from f i (n - i) ≡ i
  unfolding first_from
  first-none e = let z : n - i ≡ 0 = omega arith in rw z

-- ---- pieces
pub length_next : (f : ℕ → List ℕ) (j : ℕ) → length (joined f (j + 1)) ≡ length (joined f j) + length (f j)
length_next f j = rw (add-one j) (length-append (joined f j) (f j))

-- the first pieces are no longer than all of them
pub length_upto : (f : ℕ → List ℕ) (j n : ℕ) → j ≤ n → length (joined f j) ≤ length (joined f n)
length_upto f zero n h = omega arith
length_upto f (suc j) zero h = absurd (omega arith)
length_upto f (suc j) (suc n) h = go (ltb j n) refl (λ k. length_upto f (suc j) n k)
  where
    more : length (joined f (suc n)) ≡ length (joined f n) + length (f n)
    more = length-append (joined f n) (f n)

    go : (b : Bool) → ltb j n ≡ b → (suc j ≤ n → length (joined f (suc j)) ≤ length (joined f n)) → length (joined f (suc j)) ≤ length (joined f (suc n))
    go true e i = let k : j < n = ltb-true j n e in let l = i (omega arith) in omega (arith, more)
    go false e i = let k : n ≤ j = ltb-false j n e in let z : j ≡ n = omega arith in rw z (omega arith)

-- ---- a line of the text, by its place
module _ (s : List ℕ) (p : Places) (h : Placed s p) (j : ℕ) where
  pub line_chart : j < p.charts → (x : Chart) → x ≡ chart_at s (4 + 8 * j) → chart_text x ≡ line_at s j
  unfolding line_at
  line_chart k x e = rw (e, lt-ltb j (chart_count s) (rw (charts_are s p h) at k))

  pub line_weights : p.charts ≤ j → j < p.charts + p.own → (x : Weights) → x ≡ weights_at s p.weights → weights_text x ≡ line_at s j
  unfolding line_at
  line_weights l k x e =
      rw (e, weights-at s p h, le-ltb j (chart_count s) (rw (charts_are s p h) at l), lt-ltb j (chart_count s + own_count s) (rw (charts_are s p h, own_are s p h) at k))

  pub line_play : p.charts + p.own ≤ j → (x : Row) → x ≡ row_at s (p.rows + 48 * (j - (p.charts + p.own))) → play_text x ≡ line_at s j
  unfolding line_at row_of
  line_play k x e =
      let a = charts_are s p h in
      let o = own_are s p h in
      let l : chart_count s + own_count s ≤ j = rw (a, o) at k in
      rw (e, rows-at s p h, a, o, le-ltb j (chart_count s) (le_trans (le-add_right (chart_count s) (own_count s)) l), le-ltb j (chart_count s + own_count s) l)

pub all_lines : (s : List ℕ) (p : Places) → Placed s p → joined (line_at s) (p.charts + p.own + p.queries) ≡ text_of s
unfolding text_of
all_lines s p h = rw (charts_are s p h, own_are s p h, queries_are s p h)

-- ---- the outcomes
-- an answer r of a call that leaves the output as it is
abbrev pub Told : List ℕ → List ℕ → Result ℕ TextError → Type 0
Told s out r = Says (sheet_text s out) r out × Counted r out

module _ (s out : List ℕ) where
  -- a refusal e that `?` hands on
  pub handed : (e : TextError) → Says (sheet_text s out) (Err e) out → (r : Result ℕ TextError) → IsErrAnd r (λ x. x ≡ e) → Told s out r
  handed e w (Ok n) h = absurd h
  handed e w (Err x) h = (subst (λ (y : TextError). Says (sheet_text s out) (Err y) out) (sym h) w, tt)

  pub refused : (f : Refusal) → number_of f ≡ stop_of s → Says (sheet_text s out) (Err (Error.Sheet f)) out
  unfolding sheet_text
  refused f e = rw (← e, lt-ltb 0 (number_of f) (never_zero f)) (record { answers = refl; holds = refl })

  module _ (z : stop_of s ≡ 0) where
    pub stopped : (e : TextError) → RowsTold s (Err e) → Says (sheet_text s out) (Err e) out
    unfolding sheet_text
    stopped e h = rw (z, lt-ltb (first_stopped s) (query_count s) h.0) (record { answers = h.1; holds = refl })

    module _ (h : first_stopped s ≡ query_count s) where
      not_below : ltb (first_stopped s) (query_count s) ≡ false
      not_below = le-ltb (first_stopped s) (query_count s) (omega arith)

      pub too_short : length out < length (text_of s) → Says (sheet_text s out) (Err Error.Short) out
      unfolding sheet_text
      too_short k = rw (z, not_below, lt-ltb (length out) (length (text_of s)) k) (record { answers = refl; holds = refl })

      pub written : length (text_of s) ≤ length out → (size : ℕ) (out' : List ℕ) → length (text_of s) ≡ size → out' ≡ text_of s ++ drop size out → Says (sheet_text s out) (Ok size) out'
      unfolding sheet_text
      written k size out' e a =
          rw (z, not_below, le-ltb (length out) (length (text_of s)) k) (record { answers = ap text (sym e); holds = a ∙ ap (λ (m : ℕ). text_of s ++ drop m out) (sym e) })
