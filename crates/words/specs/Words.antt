-- The page 'A typed sheet' of docs/RULES.md: "`#` and all behind it in its line is a remark, also directly behind a word. Words are parted
-- by spaces and tabs and by nothing else: a comma is a byte of a word. A to Z are read as a to z."
use Rattle.std.specs.Prelude.{List, [], ◌∷◌, Bool, true, false, cond, not, ℕ, suc, ◌+◌, eqb, ltb, take, Option}
use Rattle.std.specs.List.{position_from}
use Rattle.words.specs.Lines.{Part, part}

-- a space (32) or a tab (9)
abbrev pub blank : ℕ → Bool
blank b = cond (eqb b 32) true (eqb b 9)

-- what no word holds: a blank or a # (35)
abbrev pub parting : ℕ → Bool
parting b = cond (eqb b 35) true (blank b)

-- how many blanks stand in front
unfoldable pub blanks : List ℕ → ℕ
blanks [] = 0
blanks (b ∷ s) = cond (blank b) (suc (blanks s)) 0

-- how many bytes stand before the first blank or #, or before the end
unfoldable pub word_size : List ℕ → ℕ
word_size [] = 0
word_size (b ∷ s) = cond (parting b) 0 (suc (word_size s))

-- The words of a line. What is looked at starts at i; `inside` says whether a word goes on there. A word begins at a byte that is no blank
-- where none goes on.
abbrev pub begins : Bool → ℕ → Bool
begins inside b = cond inside false (not (blank b))

abbrev pub more : Bool → Part → List Part → List Part
more true p ps = p ∷ ps
more false p ps = ps

unfoldable pub words_from : ℕ → Bool → List ℕ → List Part
unfolding word_size
words_from i inside [] = []
words_from i inside (b ∷ s) =
    cond (eqb b 35) [] (more (begins inside b) (part i (take (word_size (b ∷ s)) (b ∷ s))) (words_from (i + 1) (not (blank b)) s))

-- the words of a line that starts at i
unfoldable pub words : ℕ → List ℕ → List Part
unfolding words_from
words i s = words_from i false s

-- A to Z as a to z
abbrev pub small : ℕ → ℕ
small c = cond (ltb c 65) c (cond (ltb 90 c) c (c + 32))

-- w is the keyword k
unfoldable pub says : List ℕ → List ℕ → Bool
says [] [] = true
says [] (d ∷ k) = false
says (c ∷ w) [] = false
says (c ∷ w) (d ∷ k) = cond (eqb (small c) d) (says w k) false

-- which of the keywords w is, counted from 0
abbrev pub place : List ℕ → List (List ℕ) → Option ℕ
place w ks = position_from (says w) 0 ks

abbrev pub bytes_of : List Part → List (List ℕ)
bytes_of [] = []
bytes_of (p ∷ ps) = p.bytes ∷ bytes_of ps
