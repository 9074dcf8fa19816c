-- A word is a keyword just where its letters, A to Z read as a to z, are the keyword's; how a word is compared letter by letter, and with
-- keyword after keyword.
-- Assumes nothing.
use mathlib.Core.Path.{◌≡◌, refl, sym, subst, ◌∙◌}
use mathlib.Core.List.{List, [], ◌∷◌}
use mathlib.Core.Bool.{Bool, true, false, cond, true≢false}
use Prim.Native.Nat.{ℕ, zero, suc, ◌+◌, ◌<◌}
use native.Mathlib.Omega.{arith}
use lib.Dec.{eqb}
use lib.ListN.{length, get_or}
use borrow.Author.Tests.{eq-eqb, ne_eqb, eqb-true}
use Rattle.std.specs.Bool.{MatchBool}
use Rattle.std.specs.List.{AllWithin, HoldsAt, zip, position_from}
use Rattle.std.proofs.lemmas.Slice.Zip.{length-zip, get_or-zip}
use Rattle.std.specs.Char.{to_ascii_lowercase}
use Rattle.std.proofs.lemmas.Bool.Decides.{nat_tests}
use Rattle.words.specs.Lines.{Part}
use Rattle.words.specs.Words.{small, says, bytes_of}

-- ---- the library's small letters
pub lowercase-small : (c : ℕ) → to_ascii_lowercase c ≡ small c
lowercase-small c = grind (arith, nat_tests)

-- ---- no word but a keyword is taken for one
unfoldable pub smalls : List ℕ → List ℕ
smalls [] = []
smalls (c ∷ w) = small c ∷ smalls w

pub said : (w k : List ℕ) → says w k ≡ true → smalls w ≡ k
unfolding says smalls
said [] [] h = refl
said [] (d ∷ k) h = absurd (true≢false (sym h))
said (c ∷ w) [] h = absurd (true≢false (sym h))
said (c ∷ w) (d ∷ k) h = go (eqb (small c) d) refl h (said w k)
  where
    go : (b : Bool) → eqb (small c) d ≡ b → cond b (says w k) false ≡ true → (says w k ≡ true → smalls w ≡ k) → small c ∷ smalls w ≡ d ∷ k
    go true e t ih = rw (eqb-true (small c) d e, ih t)
    go false e t ih = absurd (true≢false (sym t))

pub to_say : (w : List ℕ) → says w (smalls w) ≡ true
unfolding says smalls
to_say [] = refl
to_say (c ∷ w) = rw (eq-eqb (small c) (small c) refl) (to_say w)

-- ---- letter by letter
pub says-length : (w k : List ℕ) → (length w ≡ length k → ⊥) → says w k ≡ false
unfolding says
says-length [] [] h = absurd (h refl)
says-length [] (d ∷ k) h = refl
says-length (c ∷ w) [] h = refl
says-length (c ∷ w) (d ∷ k) h = go (eqb (small c) d) (says-length w k (λ e. h (omega arith)))
  where
    go : (b : Bool) → says w k ≡ false → cond b (says w k) false ≡ false
    go true ih = ih
    go false ih = refl

all_said : (w k : List ℕ) → length w ≡ length k → ((i : ℕ) → i < length w → small (get_or w i 0) ≡ get_or k i 0) → says w k ≡ true
unfolding says
all_said [] [] l h = refl
all_said [] (d ∷ k) l h = absurd (omega arith)
all_said (c ∷ w) [] l h = absurd (omega arith)
all_said (c ∷ w) (d ∷ k) l h = rw (eq-eqb (small c) d (h 0 (omega arith))) (all_said w k (omega arith) (λ i b. h (suc i) (omega arith)))

one_off : (w k : List ℕ) (i : ℕ) → length w ≡ length k → i < length w → (small (get_or w i 0) ≡ get_or k i 0 → ⊥) → says w k ≡ false
unfolding says
one_off [] k i l b h = absurd (omega arith)
one_off (c ∷ w) [] i l b h = absurd (omega arith)
one_off (c ∷ w) (d ∷ k) zero l b h = rw (ne_eqb (small c) d h)
one_off (c ∷ w) (d ∷ k) (suc i) l b h = go (eqb (small c) d) (one_off w k i (omega arith) (omega arith) h)
  where
    go : (q : Bool) → says w k ≡ false → cond q (says w k) false ≡ false
    go true ih = ih
    go false ih = refl

-- letter by letter, the letters of both in pairs
abbrev pub Alike : ℕ × ℕ → Type 0
Alike p = to_ascii_lowercase p.0 ≡ p.1

abbrev pub Unlike : ℕ × ℕ → Type 0
Unlike p = to_ascii_lowercase p.0 ≡ p.1 → ⊥

pub says_paired : (w k : List ℕ) (r : Bool) → length w ≡ length k
    → MatchBool r (AllWithin Alike (zip w k) 0 (length (zip w k))) ((i : ℕ) × (i < length (zip w k)) × HoldsAt Unlike (zip w k) i) → r ≡ says w k
says_paired w k true l h = sym (all_said w k l each)
  where
    each : (i : ℕ) → i < length w → small (get_or w i 0) ≡ get_or k i 0
    each i b =
        let e = get_or-zip w k i (0, 0) b (omega arith) in
        let n = length-zip w k in
        sym (lowercase-small (get_or w i 0)) ∙ subst Alike e (h i (0, 0) (omega arith) (omega (arith, n)))
says_paired w k false l h =
    let i = h.0 in
    let n = length-zip w k in
    let b : i < length w = omega (arith, n, h.1) in
    let e = get_or-zip w k i (0, 0) b (omega arith) in
    sym (one_off w k i l b (λ a. subst Unlike e (h.2 (0, 0)) (lowercase-small (get_or w i 0) ∙ a)))

-- ---- the first of the words of a line that is a keyword
pub bytes_searched : (test : List ℕ → Bool) (ps : List Part) (i : ℕ) → position_from (λ p. test p.bytes) i ps ≡ position_from test i (bytes_of ps)
bytes_searched test [] i = refl
bytes_searched test (p ∷ ps) i = rw (bytes_searched test ps (i + 1))
