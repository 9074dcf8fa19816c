-- How words and lines follow each other: the words of a line are its first and those past it, the lines of a text its first and those
-- past it.
-- Assumes nothing.
use mathlib.Core.Path.{◌≡◌, refl, ap, sym, ◌∙◌}
use mathlib.Core.List.{List, [], ◌∷◌}
use mathlib.Core.Bool.{Bool, true, false, not, cond}
use Prim.Native.Nat.{ℕ, suc, ◌+◌, ◌-◌, ◌<◌, ◌≤◌, min}
use mathlib.Core.Logic.{◌⊎◌, inl, inr}
use native.Mathlib.Omega.{arith}
use lib.Dec.{eqb}
use lib.ListN.{length, take, drop, length-drop}
use lib.Seq.{drop-drop}
use Rattle.std.proofs.Math.Seq.{take-nil}
use borrow.Author.Tests.{eqb-true, eqb-false}
use Rattle.std.proofs.lemmas.List.{take_all}
use Rattle.words.specs.Lines.{Part, part, line_size, lines_from}
use Rattle.words.specs.Words.{blank, blanks, word_size, begins, more, words_from, words}
use Rattle.words.proofs.Sizes.{over}

-- ---- words
-- a blank, and a byte of a word
module _ (b : ℕ) (s : List ℕ) (i : ℕ) (h : eqb b 35 ≡ false) where
  blank_in : blank b ≡ true → words_from i true (b ∷ s) ≡ words_from (i + 1) false s
  unfolding words_from
  blank_in k = rw (h, k)

  blank-out : blank b ≡ true → words_from i false (b ∷ s) ≡ words_from (i + 1) false s
  unfolding words_from
  blank-out k = rw (h, k)

  byte_in : blank b ≡ false → words_from i true (b ∷ s) ≡ words_from (i + 1) true s
  unfolding words_from
  byte_in k = rw (h, k)

  byte-out : blank b ≡ false → words_from i false (b ∷ s) ≡ part i (take (word_size (b ∷ s)) (b ∷ s)) ∷ words_from (i + 1) true s
  unfolding words_from
  byte-out k = rw (h, k)

  size_blank : blank b ≡ true → word_size (b ∷ s) ≡ 0
  unfolding word_size
  size_blank k = rw (h, k)

  size_byte : blank b ≡ false → word_size (b ∷ s) ≡ suc (word_size s)
  unfolding word_size
  size_byte k = rw (h, k)

remark : (b : ℕ) (s : List ℕ) (i : ℕ) (inside : Bool) → b ≡ 35 → words_from i inside (b ∷ s) ≡ []
unfolding words_from
remark b s i true h = rw h
remark b s i false h = rw h

size_remark : (b : ℕ) (s : List ℕ) → eqb b 35 ≡ true → word_size (b ∷ s) ≡ 0
unfolding word_size
size_remark b s h = rw h

-- a word that goes on ends where its bytes end
past_by : (b : ℕ) (s : List ℕ) (i : ℕ) → words_from (i + 1) true s ≡ words_from (i + 1 + word_size s) false (drop (word_size s) s) → (p q : Bool)
    → eqb b 35 ≡ p → blank b ≡ q → words_from i true (b ∷ s) ≡ words_from (i + word_size (b ∷ s)) false (drop (word_size (b ∷ s)) (b ∷ s))
past_by b s i ih true q h k =
    let e : b ≡ 35 = eqb-true b 35 h in
    rw (size_remark b s h) (remark b s i true e ∙ sym (remark b s (i + 0) false e))
past_by b s i ih false true h k =
    let e : i ≡ i + 0 = omega arith in
    rw (size_blank b s i h k) (blank_in b s i h k ∙ sym (blank-out b s i h k) ∙ ap (λ (n : ℕ). words_from n false (b ∷ s)) e)
past_by b s i ih false false h k =
    let e : i + 1 + word_size s ≡ i + suc (word_size s) = omega arith in
    rw (size_byte b s i h k) (byte_in b s i h k ∙ ih ∙ ap (λ (n : ℕ). words_from n false (drop (word_size s) s)) e)

past : (s : List ℕ) (i : ℕ) → words_from i true s ≡ words_from (i + word_size s) false (drop (word_size s) s)
unfolding words_from word_size
past [] i = refl
past (b ∷ s) i = past_by b s i (past s (i + 1)) (eqb b 35) (blank b) refl refl

skip_by : (b : ℕ) (s : List ℕ) (i : ℕ) → words_from (i + 1) false s ≡ words_from (i + 1 + blanks s) false (drop (blanks s) s) → (p q : Bool)
    → eqb b 35 ≡ p → blank b ≡ q → words_from i false (b ∷ s) ≡ words_from (i + blanks (b ∷ s)) false (drop (blanks (b ∷ s)) (b ∷ s))
unfolding blanks
skip_by b s i ih true q h k =
    let e : b ≡ 35 = eqb-true b 35 h in
    let z : blank b ≡ false = rw e in
    rw z (remark b s i false e ∙ sym (remark b s (i + 0) false e))
skip_by b s i ih false true h k =
    let e : i + 1 + blanks s ≡ i + suc (blanks s) = omega arith in
    rw k (blank-out b s i h k ∙ ih ∙ ap (λ (n : ℕ). words_from n false (drop (blanks s) s)) e)
skip_by b s i ih false false h k =
    let e : i ≡ i + 0 = omega arith in
    rw k (ap (λ (n : ℕ). words_from n false (b ∷ s)) e)

skip : (s : List ℕ) (i : ℕ) → words_from i false s ≡ words_from (i + blanks s) false (drop (blanks s) s)
unfolding words_from blanks
skip [] i = refl
skip (b ∷ s) i = skip_by b s i (skip s (i + 1)) (eqb b 35) (blank b) refl refl

-- no blank stands behind the blanks
done_by : (b : ℕ) (s : List ℕ) → blanks (drop (blanks s) s) ≡ 0 → (q : Bool) → blank b ≡ q → blanks (drop (blanks (b ∷ s)) (b ∷ s)) ≡ 0
unfolding blanks
done_by b s ih true k = rw k ih
done_by b s ih false k = rw (k, k)

done : (s : List ℕ) → blanks (drop (blanks s) s) ≡ 0
unfolding blanks
done [] = refl
done (b ∷ s) = done_by b s (done s) (blank b) refl

none_by : (b : ℕ) (s : List ℕ) (i : ℕ) (p q : Bool) → eqb b 35 ≡ p → blank b ≡ q → blanks (b ∷ s) ≡ 0 → word_size (b ∷ s) ≡ 0 → words_from i false (b ∷ s) ≡ []
unfolding words_from blanks word_size
none_by b s i true q h k x y = rw h
none_by b s i false true h k x y = absurd (let z : suc (blanks s) ≡ 0 = rw k at x in omega arith)
none_by b s i false false h k x y = absurd (let z : suc (word_size s) ≡ 0 = rw (h, k) at y in omega arith)

none : (s : List ℕ) (i : ℕ) → blanks s ≡ 0 → word_size s ≡ 0 → words_from i false s ≡ []
unfolding words_from
none [] i x y = refl
none (b ∷ s) i x y = none_by b s i (eqb b 35) (blank b) refl refl x y

some_by : (b : ℕ) (s : List ℕ) (i : ℕ) (p q : Bool) → eqb b 35 ≡ p → blank b ≡ q → blanks (b ∷ s) ≡ 0 → 0 < word_size (b ∷ s)
    → words_from i false (b ∷ s) ≡ part i (take (word_size (b ∷ s)) (b ∷ s)) ∷ words_from (i + word_size (b ∷ s)) false (drop (word_size (b ∷ s)) (b ∷ s))
some_by b s i true q h k x y = absurd (let z : word_size (b ∷ s) ≡ 0 = size_remark b s h in omega arith)
some_by b s i false true h k x y = absurd (let z : word_size (b ∷ s) ≡ 0 = size_blank b s i h k in omega arith)
some_by b s i false false h k x y =
    let e : i + 1 + word_size s ≡ i + suc (word_size s) = omega arith in
    let z : word_size (b ∷ s) ≡ suc (word_size s) = size_byte b s i h k in
    byte-out b s i h k ∙ rw z (ap (λ (ws : List Part). part i (b ∷ take (word_size s) s) ∷ ws) (past s (i + 1) ∙ ap (λ (n : ℕ). words_from n false (drop (word_size s) s)) e))

some : (s : List ℕ) (i : ℕ) → blanks s ≡ 0 → 0 < word_size s → words_from i false s ≡ part i (take (word_size s) s) ∷ words_from (i + word_size s) false (drop (word_size s) s)
unfolding word_size
some [] i x y = absurd (omega arith)
some (b ∷ s) i x y = some_by b s i (eqb b 35) (blank b) refl refl x y

-- from a place of a line on: past the blanks to a, past a word to e
module _ (s : List ℕ) (base at a e : ℕ) (h : a ≡ at + blanks (drop at s)) (k : e ≡ a + word_size (drop a s)) where
  there : drop (blanks (drop at s)) (drop at s) ≡ drop a s
  there = drop-drop (blanks (drop at s)) at s ∙ ap (λ (n : ℕ). drop n s) (sym h)

  first : words_from (base + at) false (drop at s) ≡ words_from (base + a) false (drop a s)
  first =
      let z : base + at + blanks (drop at s) ≡ base + a = omega arith in
      skip (drop at s) (base + at) ∙ rw (there, z)

  no_blank : blanks (drop a s) ≡ 0
  no_blank = ap blanks (sym there) ∙ done (drop at s)

  pub words-none : e ≡ a → words_from (base + at) false (drop at s) ≡ []
  words-none z = first ∙ none (drop a s) (base + a) no_blank (omega arith)

  pub words-some : (e ≡ a → ⊥) → words_from (base + at) false (drop at s) ≡ part (base + a) (take (e - a) (drop a s)) ∷ words_from (base + e) false (drop e s)
  words-some z =
      let n : 0 < word_size (drop a s) = omega arith in
      let t : word_size (drop a s) ≡ e - a = omega arith in
      let b : base + a + (e - a) ≡ base + e = omega arith in
      let f : a + (e - a) ≡ e = omega arith in
      let d : drop (e - a) (drop a s) ≡ drop e s = drop-drop (e - a) a s ∙ ap (λ (m : ℕ). drop m s) f in
      first ∙ some (drop a s) (base + a) no_blank n ∙ rw (t, b, d)

-- what a walk over the words of s, which starts at i, has next: past the blanks to a, past a word to e
module _ (s : List ℕ) (i a e : ℕ) (h : a ≡ 0 + blanks s) (k : e ≡ a + word_size (drop a s)) where
  start : words i s ≡ words_from (i + 0) false (drop 0 s)
  unfolding words
  start = let z : i ≡ i + 0 = omega arith in ap (λ (n : ℕ). words_from n false s) z

  rest : words (i + e) (take (length s - e) (drop e s)) ≡ words_from (i + e) false (drop e s)
  unfolding words
  rest = ap (words_from (i + e) false) (take_all (length s - e) (drop e s) (omega (arith, length-drop e s)))

  pub none_left : e ≡ a → (words i s ≡ []) × (words (i + e) (take (length s - e) (drop e s)) ≡ [])
  none_left z =
      let n = words-none s i 0 a e h k z in
      let f = first s i 0 a e h k in
      (start ∙ n, rest ∙ ap (λ (m : ℕ). words_from (i + m) false (drop m s)) z ∙ sym f ∙ n)

  pub one_left : (e ≡ a → ⊥) → words i s ≡ part (i + a) (take (e - a) (drop a s)) ∷ words (i + e) (take (length s - e) (drop e s))
  one_left z = start ∙ words-some s i 0 a e h k z ∙ ap (λ (ps : List Part). part (i + a) (take (e - a) (drop a s)) ∷ ps) (sym rest)

-- there are no more words than bytes
few_by : (b : ℕ) (s : List ℕ) (i : ℕ) (q x y : Bool) → length (words_from (i + 1) (not (blank b)) s) ≤ length s
    → length (cond x [] (more y (part i (take (word_size (b ∷ s)) (b ∷ s))) (words_from (i + 1) (not (blank b)) s))) ≤ suc (length s)
few_by b s i q true y ih = omega arith
few_by b s i q false true ih = omega arith
few_by b s i q false false ih = omega arith

few_from : (s : List ℕ) (i : ℕ) (q : Bool) → length (words_from i q s) ≤ length s
unfolding words_from
few_from [] i q = omega arith
few_from (b ∷ s) i q = few_by b s i q (eqb b 35) (begins q b) (few_from s (i + 1) (not (blank b)))

pub few_words : (i : ℕ) (s : List ℕ) → length (words i s) ≤ length s
unfolding words
few_words i s = few_from s i false

-- ---- lines
line_by : (b : ℕ) (s : List ℕ) (i : ℕ) → lines_from (i + 1) false s ≡ lines_from (i + 1 + (suc (line_size s))) true (drop (suc (line_size s)) s) → (p : Bool)
    → eqb b 10 ≡ p → lines_from (i + 1) (eqb b 10) s ≡ lines_from (i + (suc (line_size (b ∷ s)))) true (drop (suc (line_size (b ∷ s))) (b ∷ s))
unfolding lines_from line_size
line_by b s i ih true h = rw h
line_by b s i ih false h =
    let e : i + 1 + suc (line_size s) ≡ i + suc (suc (line_size s)) = omega arith in
    rw h (ih ∙ ap (λ (n : ℕ). lines_from n true (drop (suc (line_size s)) s)) e)

line_past : (s : List ℕ) (i : ℕ) → lines_from i false s ≡ lines_from (i + (suc (line_size s))) true (drop (suc (line_size s)) s)
unfolding lines_from line_size
line_past [] i = refl
line_past (b ∷ s) i = line_by b s i (line_past s (i + 1)) (eqb b 10) refl

lines-first : (s : List ℕ) (i : ℕ) → 0 < length s → lines_from i true s ≡ part i (take (line_size s) s) ∷ lines_from (i + (suc (line_size s))) true (drop (suc (line_size s)) s)
unfolding lines_from
lines-first [] i h = absurd (omega arith)
lines-first (b ∷ s) i h = ap (λ (ls : List Part). part i (take (line_size (b ∷ s)) (b ∷ s)) ∷ ls) (line_by b s i (line_past s (i + 1)) (eqb b 10) refl)

-- from a place of a text on: a line up to e, and the lines from e + 1 on
pub lines-some : (s : List ℕ) (at e : ℕ) → at < length s → e ≡ at + line_size (drop at s)
    → lines_from at true (drop at s) ≡ part at (take (e - at) (drop at s)) ∷ lines_from (e + 1) true (drop (e + 1) s)
lines-some s at e h k =
    let l : length (drop at s) ≡ length s - at = simp length-drop in
    let t : line_size (drop at s) ≡ e - at = omega arith in
    let b : at + suc (e - at) ≡ e + 1 = omega arith in
    let d : drop (suc (e - at)) (drop at s) ≡ drop (e + 1) s = drop-drop (suc (e - at)) at s ∙ ap (λ (m : ℕ). drop m s) b in
    lines-first (drop at s) at (omega arith) ∙ rw (t, b, d)

pub lines-over : (s : List ℕ) (i : ℕ) → length s ≤ i → lines_from i true (drop i s) ≡ []
unfolding lines_from
lines-over s i h = rw (over s i h)

-- what a walk over the lines of s, which starts at i, has next: a line up to e, and what starts at n
pub no_lines : (s : List ℕ) (i : ℕ) → eqb (length s) 0 ≡ true → lines_from i true s ≡ []
unfolding lines_from
no_lines [] i h = refl
no_lines (b ∷ s) i h = absurd (let z = eqb-true (length (b ∷ s)) 0 h in omega arith)

nothing : (a b : ℕ) → lines_from a true [] ≡ lines_from b true []
unfolding lines_from
nothing a b = refl

module _ (s : List ℕ) (i e n : ℕ) (some_left : eqb (length s) 0 ≡ false) (k : e ≡ 0 + line_size s) (m : n ≡ min (length s) (e + 1)) where
  behind_it : (n ≡ e + 1) ⊎ (length s ≤ n) → lines_from (i + suc e) true (drop (suc e) s) ≡ lines_from (i + n) true (take (length s - n) (drop n s))
  behind_it (inl z) =
      let t = take_all (length s - n) (drop n s) (omega (arith, length-drop n s)) in
      let y : n ≡ suc e = omega arith in
      rw (t, y)
  behind_it (inr z) =
      let t : take (length s - n) (drop n s) ≡ [] = ap (take (length s - n)) (over s n z) ∙ take-nil (length s - n) in
      let y : length s ≤ suc e = omega arith in
      rw (t, over s (suc e) y) (nothing (i + suc e) (i + n))

  pub line_left : lines_from i true s ≡ part i (take e s) ∷ lines_from (i + n) true (take (length s - n) (drop n s))
  line_left =
      let l : 0 < length s = omega (arith, eqb-false (length s) 0 some_left) in
      let y : line_size s ≡ e = omega arith in
      let x : (n ≡ e + 1) ⊎ (length s ≤ n) = grind arith in
      lines-first s i l ∙ rw y (ap (λ (ps : List Part). part i (take e s) ∷ ps) (behind_it x))
