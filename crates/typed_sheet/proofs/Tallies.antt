-- The lines of a text that has no fault are counted by kind, within the limits, and the sections are as long as the counts say.
-- Assumes nothing.
use mathlib.Core.Path.{◌≡◌, refl, sym, ap, subst, ◌∙◌}
use mathlib.Core.List.{List, [], ◌∷◌}
use mathlib.Core.Bool.{Bool, true, false, cond}
use Prim.Native.Nat.{ℕ, ◌+◌, ◌*◌, ◌<◌, ◌≤◌}
use native.Mathlib.Omega.{arith}
use lib.Dec.{ltb}
use lib.ListN.{length, length-append}
use borrow.Author.Tests.{ltb-true}
use Rattle.std.specs.Prelude.{Option, Some, None, Result, Ok, Err}
use Rattle.words.specs.declared.Fault.{Fault}
use Rattle.words.specs.declared.Fault.TheVariants.{TooManyCharts, TooManyWeights, TooManyPlays}
use Rattle.words.specs.Lines.{Part, lines}
use Rattle.typed_line.specs.declared.Span.{Span}
use Rattle.typed_line.specs.declared.Kind.{Kind}
use Rattle.typed_line.specs.declared.Kind.TheVariants.{Chart, Weights, Play}
use Rattle.typed_line.specs.declared.Line.{Line}
use Rattle.typed_line.specs.Line.{line_of}
use Rattle.typed_records.specs.Records.{record_bytes, record_size}
use Rattle.typed_records.proofs.Lengths.{length_record}
use Rattle.typed_sheet.specs.declared.LineFault.{LineFault}
use Rattle.typed_sheet.specs.declared.Tally.{Tally}
use Rattle.typed_sheet.specs.Typed.{counted, told_at, tallied_as, tallied, tallies, tally_all, tally_of, is_kind, records}
use Rattle.typed_sheet.proofs.Judged.{stays}

abbrev is : Kind → Option Kind → ℕ
is k l = cond (is_kind k l) 1 0

-- how many lines are of a kind
unfoldable pub kinds : Kind → List Part → ℕ
kinds k [] = 0
kinds k (s ∷ ss) = is k (line_of s).kind + kinds k ss

pub record Step (t : Tally) (k : Option Kind) (t' : Tally) : Type 0 where
  pub charts : t'.charts ≡ t.charts + is Chart k
  pub weights : t'.weights ≡ t.weights + is Weights k
  pub plays : t'.plays ≡ t.plays + is Play k
  pub charts_cap : t.charts ≤ 256 → t'.charts ≤ 256
  pub weights-cap : t.weights ≤ 1 → t'.weights ≤ 1
  pub plays-cap : t.plays ≤ 1024 → t'.plays ≤ 1024

same : {E : Type 0} {x y : Tally} → ◌≡◌ {A = Result Tally E} (Ok x) (Ok y) → x ≡ y
same e = cc

refused : {E : Type 0} {f : E} {t : Tally} → ◌≡◌ {A = Result Tally E} (Err f) (Ok t) → ⊥
refused e = cc

module _ (t t' : Tally) (nth : ℕ) (first : Span) where
  chart : (b : Bool) → ltb t.charts 256 ≡ b → told_at nth first (cond b (Ok (counted (t.charts + 1) t.weights t.plays)) (Err TooManyCharts)) ≡ Ok t' → Step t (Some Chart) t'
  chart true h e =
      let q : t.charts < 256 = ltb-true t.charts 256 h in
      subst (Step t (Some Chart)) (same e) (record { charts = refl; weights = omega arith; plays = omega arith; charts_cap = λ z. omega arith; weights-cap = λ z. z; plays-cap = λ z. z })
  chart false h e = absurd (refused e)

  weight : (b : Bool) → ltb t.weights 1 ≡ b → told_at nth first (cond b (Ok (counted t.charts (t.weights + 1) t.plays)) (Err TooManyWeights)) ≡ Ok t' → Step t (Some Weights) t'
  weight true h e =
      let q : t.weights < 1 = ltb-true t.weights 1 h in
      subst (Step t (Some Weights)) (same e) (record { charts = omega arith; weights = refl; plays = omega arith; charts_cap = λ z. z; weights-cap = λ z. omega arith; plays-cap = λ z. z })
  weight false h e = absurd (refused e)

  play : (b : Bool) → ltb t.plays 1024 ≡ b → told_at nth first (cond b (Ok (counted t.charts t.weights (t.plays + 1))) (Err TooManyPlays)) ≡ Ok t' → Step t (Some Play) t'
  play true h e =
      let q : t.plays < 1024 = ltb-true t.plays 1024 h in
      subst (Step t (Some Play)) (same e) (record { charts = omega arith; weights = omega arith; plays = refl; charts_cap = λ z. z; weights-cap = λ z. z; plays-cap = λ z. omega arith })
  play false h e = absurd (refused e)

  by_kind : (k : Option Kind) → tallied_as k t nth first ≡ Ok t' → Step t k t'
  by_kind (Some Chart) e = chart (ltb t.charts 256) refl e
  by_kind (Some Weights) e = weight (ltb t.weights 1) refl e
  by_kind (Some Play) e = play (ltb t.plays 1024) refl e
  by_kind None e = subst (Step t None) (same e) (record { charts = omega arith; weights = omega arith; plays = omega arith; charts_cap = λ z. z; weights-cap = λ z. z; plays-cap = λ z. z })

by_fault : (t t' : Tally) (nth : ℕ) (l : Line) (f : Option Fault) → tallied f t nth l ≡ Ok t' → Step t l.kind t'
by_fault t t' nth l (Some fault) e = absurd (refused e)
by_fault t t' nth l None e = by_kind t t' nth l.first l.kind e

step : (t t' : Tally) (nth : ℕ) (l : Line) → tallies (Ok t) nth l ≡ Ok t' → Step t l.kind t'
unfolding tallies
step t t' nth l e = by_fault t t' nth l l.fault e

pub record All (t : Tally) (ss : List Part) (t' : Tally) : Type 0 where
  pub charts : t'.charts ≡ t.charts + kinds Chart ss
  pub weights : t'.weights ≡ t.weights + kinds Weights ss
  pub plays : t'.plays ≡ t.plays + kinds Play ss
  pub charts_cap : t.charts ≤ 256 → t'.charts ≤ 256
  pub weights-cap : t.weights ≤ 1 → t'.weights ≤ 1
  pub plays-cap : t.plays ≤ 1024 → t'.plays ≤ 1024

joined : (t t₁ t₂ : Tally) (s : Part) (ss : List Part) → Step t (line_of s).kind t₁ → All t₁ ss t₂ → All t (s ∷ ss) t₂
unfolding kinds
joined t t₁ t₂ s ss x y =
    record {
      charts = omega (arith, x.charts, y.charts);
      weights = omega (arith, x.weights, y.weights);
      plays = omega (arith, x.plays, y.plays);
      charts_cap = λ z. y.charts_cap (x.charts_cap z);
      weights-cap = λ z. y.weights-cap (x.weights-cap z);
      plays-cap = λ z. y.plays-cap (x.plays-cap z);
    }

pub all : (ss : List Part) (t t' : Tally) (nth : ℕ) → tally_all (Ok t) nth ss ≡ Ok t' → All t ss t'
unfolding tally_all kinds
all [] t t' nth e =
    subst (All t []) (same e) (record { charts = omega arith; weights = omega arith; plays = omega arith; charts_cap = λ z. z; weights-cap = λ z. z; plays-cap = λ z. z })
all (s ∷ ss) t t' nth e = go (tallies (Ok t) (nth + 1) (line_of s)) refl (λ (t₁ : Tally) (d : tally_all (Ok t₁) (nth + 1) ss ≡ Ok t'). all ss t₁ t' (nth + 1) d) e
  where
    go : (r : Result Tally LineFault) → tallies (Ok t) (nth + 1) (line_of s) ≡ r → ((t₁ : Tally) → tally_all (Ok t₁) (nth + 1) ss ≡ Ok t' → All t₁ ss t')
        → tally_all r (nth + 1) ss ≡ Ok t' → All t (s ∷ ss) t'
    go (Ok t₁) h f e = joined t t₁ t' s ss (step t t₁ (nth + 1) (line_of s) h) (f t₁ e)
    go (Err told) h f e = absurd (refused (sym (stays ss (nth + 1) told) ∙ e))

-- ---- the lengths of the sections
section : (k : Kind) (s : Part) (ss : List Part) (b : Bool) → is_kind k (line_of s).kind ≡ b
    → length (records k (s ∷ ss)) ≡ cond b (record_size (line_of s).kind) 0 + length (records k ss)
unfolding records
section k s ss true h = rw h (length-append (record_bytes (line_of s)) (records k ss) ∙ ap (λ (n : ℕ). n + length (records k ss)) (length_record (line_of s)))
section k s ss false h = rw h (let z : length (records k ss) ≡ 0 + length (records k ss) = omega arith in z)

-- a line that is of a kind has a record of that size
weighed : (k : Kind) (z : ℕ) → record_size (Some k) ≡ z → (l : Option Kind) → cond (is_kind k l) (record_size l) 0 ≡ z * is k l
weighed Chart z e (Some Chart) = let i : z * 1 ≡ z = omega arith in e ∙ sym i
weighed Chart z e (Some Weights) = let i : z * 0 ≡ 0 = omega arith in sym i
weighed Chart z e (Some Play) = let i : z * 0 ≡ 0 = omega arith in sym i
weighed Chart z e None = let i : z * 0 ≡ 0 = omega arith in sym i
weighed Weights z e (Some Chart) = let i : z * 0 ≡ 0 = omega arith in sym i
weighed Weights z e (Some Weights) = let i : z * 1 ≡ z = omega arith in e ∙ sym i
weighed Weights z e (Some Play) = let i : z * 0 ≡ 0 = omega arith in sym i
weighed Weights z e None = let i : z * 0 ≡ 0 = omega arith in sym i
weighed Play z e (Some Chart) = let i : z * 0 ≡ 0 = omega arith in sym i
weighed Play z e (Some Weights) = let i : z * 0 ≡ 0 = omega arith in sym i
weighed Play z e (Some Play) = let i : z * 1 ≡ z = omega arith in e ∙ sym i
weighed Play z e None = let i : z * 0 ≡ 0 = omega arith in sym i

length_section : (k : Kind) (z : ℕ) → record_size (Some k) ≡ z → (s : Part) (ss : List Part) → length (records k (s ∷ ss)) ≡ z * is k (line_of s).kind + length (records k ss)
length_section k z e s ss = section k s ss (is_kind k (line_of s).kind) refl ∙ ap (λ (n : ℕ). n + length (records k ss)) (weighed k z e (line_of s).kind)

pub charts_length : (ss : List Part) → length (records Chart ss) ≡ 8 * kinds Chart ss
unfolding records kinds
charts_length [] = refl
charts_length (s ∷ ss) = let i : length (records Chart ss) ≡ 8 * kinds Chart ss = charts_length ss in omega (arith, length_section Chart 8 refl s ss)

pub weights-length : (ss : List Part) → length (records Weights ss) ≡ 20 * kinds Weights ss
unfolding records kinds
weights-length [] = refl
weights-length (s ∷ ss) = let i : length (records Weights ss) ≡ 20 * kinds Weights ss = weights-length ss in omega (arith, length_section Weights 20 refl s ss)

pub plays-length : (ss : List Part) → length (records Play ss) ≡ 48 * kinds Play ss
unfolding records kinds
plays-length [] = refl
plays-length (s ∷ ss) = let i : length (records Play ss) ≡ 48 * kinds Play ss = plays-length ss in omega (arith, length_section Play 48 refl s ss)

-- of a whole text
pub record Fine (s : List ℕ) (t : Tally) : Type 0 where
  pub charts : length (records Chart (lines s)) ≡ 8 * t.charts
  pub weights : length (records Weights (lines s)) ≡ 20 * t.weights
  pub plays : length (records Play (lines s)) ≡ 48 * t.plays
  pub charts_cap : t.charts ≤ 256
  pub weights-cap : t.weights ≤ 1
  pub plays-cap : t.plays ≤ 1024

pub fine : (s : List ℕ) (t : Tally) → tally_of s ≡ Ok t → Fine s t
unfolding tally_of
fine s t e =
    let a = all (lines s) (counted 0 0 0) t 0 e in
    record {
      charts = omega (arith, charts_length (lines s), a.charts);
      weights = omega (arith, weights-length (lines s), a.weights);
      plays = omega (arith, plays-length (lines s), a.plays);
      charts_cap = a.charts_cap (omega arith);
      weights-cap = a.weights-cap (omega arith);
      plays-cap = a.plays-cap (omega arith);
    }
