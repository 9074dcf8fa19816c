-- Words that hold no blank, no # and no end of a line, put behind each other by `spaced`, are read as they were; and so is a line of them.
-- Assumes nothing.
use mathlib.Core.Path.{◌≡◌, refl, sym, ap, ◌∙◌}
use mathlib.Core.List.{List, [], ◌∷◌, ◌++◌}
use mathlib.Core.Bool.{Bool, true, false, cond}
use Prim.Native.Nat.{ℕ, suc, ◌+◌, ◌≤◌, ◌<◌}
use native.Mathlib.Omega.{arith}
use lib.Dec.{eqb}
use lib.ListN.{length, take}
use lib.Seq.{take_at}
use borrow.Author.Tests.{ne_eqb}
use Rattle.words.specs.Lines.{Part, part, line_size, lines_from, unended}
use Rattle.words.specs.Words.{blank, parting, word_size, words_from}
use Rattle.accuracy_text.specs.AccuracyText.{spaced}

-- ---- tests that hold
never : {A : Type 0} → false ≡ true → A
never e = absurd (let z : ◌≡◌ {A = ℕ} 0 1 = cc in omega arith)

pub both : (a b : Bool) → cond a b false ≡ true → (a ≡ true) × (b ≡ true)
both true b e = (refl, e)
both false b e = never e

neither : (a b : Bool) → cond a false b ≡ true → (a ≡ false) × (b ≡ true)
neither true b e = never e
neither false b e = (refl, e)

no_part : (a b : Bool) → cond a true b ≡ false → (a ≡ false) × (b ≡ false)
no_part true b e = never (sym e)
no_part false b e = (refl, e)

-- ---- a byte of a word: neither a blank, a #, LF nor CR
abbrev pub plain : ℕ → Bool
plain b = cond (parting b) false (cond (eqb b 10) false (cond (eqb b 13) false true))

pub record Plain (b : ℕ) : Type 0 where
  pub mark : eqb b 35 ≡ false
  pub gap : blank b ≡ false
  pub lf : eqb b 10 ≡ false
  pub cr : eqb b 13 ≡ false

pub plain_is : (b : ℕ) → plain b ≡ true → Plain b
plain_is b e =
    let x = neither (parting b) (cond (eqb b 10) false (cond (eqb b 13) false true)) e in
    let y = neither (eqb b 10) (cond (eqb b 13) false true) x.1 in
    let z = neither (eqb b 13) true y.1 in
    let p = no_part (eqb b 35) (blank b) x.0 in
    record { mark = p.0; gap = p.1; lf = y.0; cr = z.0 }

-- a point, a digit and a letter are
pub plain_at : (b : ℕ) → 46 ≤ b → plain b ≡ true
plain_at b h =
    rw (ne_eqb b 35 (λ z. omega arith), ne_eqb b 32 (λ z. omega arith), ne_eqb b 9 (λ z. omega arith), ne_eqb b 10 (λ z. omega arith), ne_eqb b 13 (λ z. omega arith))

abbrev pub all_plain : List ℕ → Bool
all_plain [] = true
all_plain (b ∷ w) = cond (plain b) (all_plain w) false

pub plain_append : (a b : List ℕ) → all_plain a ≡ true → all_plain b ≡ true → all_plain (a ++ b) ≡ true
plain_append [] b p q = q
plain_append (c ∷ a) b p q = let x = both (plain c) (all_plain a) p in rw x.0 (plain_append a b x.1 q)

-- a word has a byte
abbrev pub word : List ℕ → Bool
word [] = false
word (b ∷ w) = all_plain (b ∷ w)

abbrev pub all_words : List (List ℕ) → Bool
all_words [] = true
all_words (w ∷ ws) = cond (word w) (all_words ws) false

pub words_append : (a b : List (List ℕ)) → all_words a ≡ true → all_words b ≡ true → all_words (a ++ b) ≡ true
words_append [] b p q = q
words_append (c ∷ a) b p q = let x = both (word c) (all_words a) p in rw x.0 (words_append a b x.1 q)

word_plain : (w : List ℕ) → word w ≡ true → all_plain w ≡ true
word_plain [] e = refl
word_plain (b ∷ w) e = e

pub some_word : (w : List ℕ) → all_plain w ≡ true → 0 < length w → word w ≡ true
some_word [] p h = absurd (omega arith)
some_word (b ∷ w) p h = p

-- ---- the words of a line
unfoldable pub texts : List Part → List (List ℕ)
texts [] = []
texts (p ∷ ps) = p.bytes ∷ texts ps

module _ (b : ℕ) (s : List ℕ) (i : ℕ) (p : Plain b) where
  byte_in : words_from i true (b ∷ s) ≡ words_from (i + 1) true s
  unfolding words_from
  byte_in = rw (p.mark, p.gap)

  byte-out : words_from i false (b ∷ s) ≡ part i (take (word_size (b ∷ s)) (b ∷ s)) ∷ words_from (i + 1) true s
  unfolding words_from
  byte-out = rw (p.mark, p.gap)

  size_on : word_size (b ∷ s) ≡ suc (word_size s)
  unfolding word_size
  size_on = rw (p.mark, p.gap)

size_end : (ws : List (List ℕ)) → word_size (spaced ws) ≡ 0
unfolding spaced word_size
size_end [] = refl
size_end (w ∷ ws) = refl

size_word : (w : List ℕ) (ws : List (List ℕ)) → all_plain w ≡ true → word_size (w ++ spaced ws) ≡ length w
size_word [] ws e = size_end ws
size_word (b ∷ w) ws e =
    let x = both (plain b) (all_plain w) e in
    size_on b (w ++ spaced ws) 0 (plain_is b x.0) ∙ ap suc (size_word w ws x.1)

within : (w : List ℕ) (ws : List (List ℕ)) (i : ℕ) → all_plain w ≡ true → words_from i true (w ++ spaced ws) ≡ words_from (i + length w) true (spaced ws)
within [] ws i e = let z : i ≡ i + 0 = omega arith in ap (λ (n : ℕ). words_from n true (spaced ws)) z
within (b ∷ w) ws i e =
    let x = both (plain b) (all_plain w) e in
    let z : i + 1 + length w ≡ i + suc (length w) = omega arith in
    byte_in b (w ++ spaced ws) i (plain_is b x.0) ∙ within w ws (i + 1) x.1 ∙ ap (λ (n : ℕ). words_from n true (spaced ws)) z

-- a word more in front of those that are read
front : (w : List ℕ) (ws : List (List ℕ)) (i : ℕ) → word w ≡ true → ((j : ℕ) → texts (words_from j true (spaced ws)) ≡ ws) → texts (words_from i false (w ++ spaced ws)) ≡ w ∷ ws
unfolding texts
front [] ws i e h = never e
front (b ∷ w) ws i e h =
    let x = both (plain b) (all_plain w) e in
    let n : word_size (b ∷ (w ++ spaced ws)) ≡ length (b ∷ w) = size_word (b ∷ w) ws e in
    let t : take (length (b ∷ w)) (b ∷ w ++ spaced ws) ≡ b ∷ w = take_at (b ∷ w) (spaced ws) (length (b ∷ w)) refl in
    ap texts (byte-out b (w ++ spaced ws) i (plain_is b x.0))
    ∙ rw (n, t, within w ws (i + 1) x.1) (ap (λ (r : List (List ℕ)). (b ∷ w) ∷ r) (h (i + 1 + length w)))

behind : (ws : List (List ℕ)) (j : ℕ) → all_words ws ≡ true → texts (words_from j true (spaced ws)) ≡ ws
unfolding spaced words_from texts
behind [] j e = refl
behind (w ∷ ws) j e = let x = both (word w) (all_words ws) e in front w ws (j + 1) x.0 (λ i. behind ws i x.1)

pub words_back : (w : List ℕ) (ws : List (List ℕ)) (i : ℕ) → word w ≡ true → all_words ws ≡ true → texts (words_from i false (w ++ spaced ws)) ≡ w ∷ ws
words_back w ws i p q = front w ws i p (λ j. behind ws j q)

-- ---- a line: no LF and no CR in it
abbrev pub in_line : List ℕ → Bool
in_line [] = true
in_line (b ∷ s) = cond (eqb b 10) false (cond (eqb b 13) false (in_line s))

pub record Inner (b : ℕ) (s : List ℕ) : Type 0 where
  pub lf : eqb b 10 ≡ false
  pub cr : eqb b 13 ≡ false
  pub rest : in_line s ≡ true

inner : (b : ℕ) (s : List ℕ) → in_line (b ∷ s) ≡ true → Inner b s
inner b s e =
    let x = neither (eqb b 10) (cond (eqb b 13) false (in_line s)) e in
    let y = neither (eqb b 13) (in_line s) x.1 in
    record { lf = x.0; cr = y.0; rest = y.1 }

in_append : (a b : List ℕ) → all_plain a ≡ true → in_line b ≡ true → in_line (a ++ b) ≡ true
in_append [] b p q = q
in_append (c ∷ a) b p q =
    let x = both (plain c) (all_plain a) p in
    let y = plain_is c x.0 in
    rw (y.lf, y.cr) (in_append a b x.1 q)

in_spaced : (ws : List (List ℕ)) → all_words ws ≡ true → in_line (spaced ws) ≡ true
unfolding spaced
in_spaced [] e = refl
in_spaced (w ∷ ws) e = let x = both (word w) (all_words ws) e in in_append w (spaced ws) (word_plain w x.0) (in_spaced ws x.1)

pub in-line : (w : List ℕ) (ws : List (List ℕ)) → word w ≡ true → all_words ws ≡ true → in_line (w ++ spaced ws) ≡ true
in-line w ws p q = in_append w (spaced ws) (word_plain w p) (in_spaced ws q)

-- no CR ends it
pub unended-same : (s : List ℕ) → in_line s ≡ true → unended s ≡ s
unfolding unended
unended-same [] e = refl
unended-same (b ∷ []) e = rw (inner b [] e).cr
unended-same (b ∷ c ∷ s) e = ap (λ (r : List ℕ). b ∷ r) (unended-same (c ∷ s) (inner b (c ∷ s) e).rest)

line-size : (s rest : List ℕ) → in_line s ≡ true → line_size (s ++ 10 ∷ rest) ≡ length s
unfolding line_size
line-size [] rest e = refl
line-size (b ∷ s) rest e = let x = inner b s e in rw x.lf (ap suc (line-size s rest x.rest))

module _ (b : ℕ) (s : List ℕ) (i : ℕ) (e : eqb b 10 ≡ false) where
  goes_on : lines_from i false (b ∷ s) ≡ lines_from (i + 1) false s
  unfolding lines_from
  goes_on = ap (λ (t : Bool). lines_from (i + 1) t s) e

  begins : lines_from i true (b ∷ s) ≡ part i (take (line_size (b ∷ s)) (b ∷ s)) ∷ lines_from (i + 1) false s
  unfolding lines_from
  begins = ap (λ (t : Bool). part i (take (line_size (b ∷ s)) (b ∷ s)) ∷ lines_from (i + 1) t s) e

line_past : (s rest : List ℕ) (i : ℕ) → in_line s ≡ true → lines_from i false (s ++ 10 ∷ rest) ≡ lines_from (i + length s + 1) true rest
unfolding lines_from
line_past [] rest i e = let z : i + 1 ≡ i + 0 + 1 = omega arith in ap (λ (n : ℕ). lines_from n true rest) z
line_past (b ∷ s) rest i e =
    let x = inner b s e in
    let z : i + 1 + length s + 1 ≡ i + suc (length s) + 1 = omega arith in
    goes_on b (s ++ 10 ∷ rest) i x.lf ∙ line_past s rest (i + 1) x.rest ∙ ap (λ (n : ℕ). lines_from n true rest) z

-- a line in front of others
pub line_back : (s rest : List ℕ) (i : ℕ) → in_line s ≡ true → 0 < length s → lines_from i true (s ++ 10 ∷ rest) ≡ part i s ∷ lines_from (i + length s + 1) true rest
line_back [] rest i e h = absurd (omega arith)
line_back (b ∷ s) rest i e h =
    let x = inner b s e in
    let z : i + 1 + length s + 1 ≡ i + suc (length s) + 1 = omega arith in
    let n : line_size (b ∷ (s ++ 10 ∷ rest)) ≡ length (b ∷ s) = line-size (b ∷ s) rest e in
    let t : take (length (b ∷ s)) (b ∷ s ++ 10 ∷ rest) ≡ b ∷ s = take_at (b ∷ s) (10 ∷ rest) (length (b ∷ s)) refl in
    begins b (s ++ 10 ∷ rest) i x.lf
    ∙ ap (λ (l : List ℕ). part i l ∷ lines_from (i + 1) false (s ++ 10 ∷ rest)) (ap (λ (m : ℕ). take m (b ∷ s ++ 10 ∷ rest)) n ∙ t)
    ∙ ap (λ (ps : List Part). part i (b ∷ s) ∷ ps) (line_past s rest (i + 1) x.rest ∙ ap (λ (m : ℕ). lines_from m true rest) z)
