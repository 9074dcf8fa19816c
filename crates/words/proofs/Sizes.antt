-- Where blanks, a word and a line end: at the first byte that they stop at, or at the end; and a line without the CR of its end.
-- Assumes nothing.
use mathlib.Core.Path.{◌≡◌, refl, ap}
use mathlib.Core.List.{List, [], ◌∷◌}
use mathlib.Core.Bool.{Bool, true, false, cond, not}
use Prim.Native.Nat.{ℕ, zero, suc, ◌+◌, ◌-◌, ◌<◌, ◌≤◌}
use native.Mathlib.Numerals.{add-one}
use native.Mathlib.Omega.{arith}
use lib.Dec.{eqb}
use lib.ListN.{length, take, drop, get_or, drop_of_length-le, length-drop}
use lib.Seq.{drop-cons}
use borrow.Author.Tests.{eq-eqb, ne_eqb}
use Rattle.std.proofs.lemmas.List.{take_all}
use Rattle.std.specs.Prelude.{Some}
use Rattle.std.specs.Option.{unwrap_or}
use Rattle.std.specs.List.{position_from}
use Rattle.words.specs.Lines.{line_size, unended}
use Rattle.words.specs.Words.{blank, parting, blanks, word_size}

-- past the end
pub over : (s : List ℕ) (i : ℕ) → length s ≤ i → drop i s ≡ []
over s i h = drop_of_length-le s h

-- at a byte
pub here : (s : List ℕ) (i : ℕ) → i < length s → drop i s ≡ get_or s i 0 ∷ drop (i + 1) s
here s i h = rw (add-one i) (drop-cons s i 0 h)

-- A count F of the bytes before the first that p stops at, or of all: it is the place of that byte, or the length.
module _ (F : List ℕ → ℕ) (p : ℕ → Bool) (none : F [] ≡ 0) (more : (b : ℕ) (s : List ℕ) → F (b ∷ s) ≡ cond (p b) 0 (suc (F s))) where
  first_from : (s : List ℕ) (i : ℕ) → unwrap_or (position_from p i s) (i + length s) ≡ i + F s
  first_from [] i = rw none
  first_from (b ∷ s) i = rw (more b s) (go (p b) (first_from s (i + 1)))
    where
      go : (q : Bool) → unwrap_or (position_from p (i + 1) s) (i + 1 + length s) ≡ i + 1 + F s
          → unwrap_or (cond q (Some i) (position_from p (i + 1) s)) (i + suc (length s)) ≡ i + cond q 0 (suc (F s))
      go true ih = omega arith
      go false ih =
          let e : i + suc (length s) ≡ i + 1 + length s = omega arith in
          rw (e, ih) (omega arith)

  within : (s : List ℕ) → F s ≤ length s
  within [] = rw none (omega arith)
  within (b ∷ s) = rw (more b s) (go (p b) (within s))
    where
      go : (q : Bool) → F s ≤ length s → cond q 0 (suc (F s)) ≤ suc (length s)
      go true ih = omega arith
      go false ih = omega arith

  -- from a place on
  pub first_past : (s : List ℕ) (at : ℕ) → at ≤ length s
      → (at + unwrap_or (position_from p 0 (take (length s - at) (drop at s))) (length s - at) ≡ at + F (drop at s)) × (at + F (drop at s) ≤ length s)
  first_past s at h =
      let n = length-drop at s in
      let e : length s - at ≡ 0 + length (drop at s) = omega (arith, n) in
      let a : take (length s - at) (drop at s) ≡ drop at s = take_all (length s - at) (drop at s) (omega (arith, n)) in
      (rw (a, e, first_from (drop at s) 0) (omega arith), omega (arith, n, within (drop at s)))

pub line_past : (s : List ℕ) (at : ℕ) → at ≤ length s
    → (at + unwrap_or (position_from (λ b. eqb b 10) 0 (take (length s - at) (drop at s))) (length s - at) ≡ at + line_size (drop at s)) × (at + line_size (drop at s) ≤ length s)
unfolding line_size
line_past = first_past line_size (λ b. eqb b 10) refl (λ b s. refl)

pub blanks_past : (s : List ℕ) (at : ℕ) → at ≤ length s
    → (at + unwrap_or (position_from (λ b. not (blank b)) 0 (take (length s - at) (drop at s))) (length s - at) ≡ at + blanks (drop at s)) × (at + blanks (drop at s) ≤ length s)
unfolding blanks
blanks_past = first_past blanks (λ b. not (blank b)) refl (λ b s. turn (blank b) s)
  where
    turn : (q : Bool) (s : List ℕ) → cond q (suc (blanks s)) 0 ≡ cond (not q) 0 (suc (blanks s))
    turn true s = refl
    turn false s = refl

pub word_past : (s : List ℕ) (at : ℕ) → at ≤ length s
    → (at + unwrap_or (position_from parting 0 (take (length s - at) (drop at s))) (length s - at) ≡ at + word_size (drop at s)) × (at + word_size (drop at s) ≤ length s)
unfolding word_size
word_past = first_past word_size parting refl (λ b s. refl)

-- the last byte of a line of n + 1
pub unended_cr : (s : List ℕ) (n : ℕ) → length s ≡ suc n → get_or s n 0 ≡ 13 → take n s ≡ unended s
unfolding unended
unended_cr [] n h e = absurd (omega arith)
unended_cr (b ∷ []) zero h e = rw (eq-eqb b 13 e)
unended_cr (b ∷ []) (suc n) h e = absurd (omega arith)
unended_cr (b ∷ c ∷ s) zero h e = absurd (omega arith)
unended_cr (b ∷ c ∷ s) (suc n) h e = ap (λ (l : List ℕ). b ∷ l) (unended_cr (c ∷ s) n (omega arith) e)

pub unended_other : (s : List ℕ) (n : ℕ) → length s ≡ suc n → (get_or s n 0 ≡ 13 → ⊥) → take (suc n) s ≡ unended s
unfolding unended
unended_other [] n h e = absurd (omega arith)
unended_other (b ∷ []) zero h e = rw (ne_eqb b 13 e)
unended_other (b ∷ []) (suc n) h e = absurd (omega arith)
unended_other (b ∷ c ∷ s) zero h e = absurd (omega arith)
unended_other (b ∷ c ∷ s) (suc n) h e = ap (λ (l : List ℕ). b ∷ l) (unended_other (c ∷ s) n (omega arith) e)

pub unended-none : (s : List ℕ) → length s ≡ 0 → take 0 s ≡ unended s
unfolding unended
unended-none [] h = refl
unended-none (b ∷ s) h = absurd (omega arith)
