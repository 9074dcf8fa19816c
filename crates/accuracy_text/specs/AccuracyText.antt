-- The page 'A typed sheet' of docs/RULES.md, 'The way back': "single spaces, small letters, decimals without zeros in front", and "the accuracy if
-- it is given: as `acc P` if a percentage has its bits, the one with the fewest digits behind the point, else as `accbits H`".
use Rattle.std.specs.Prelude.{List, [], ◌∷◌, ◌++◌, Bool, cond, ℕ, zero, suc, ◌+◌, ◌/◌, ◌%◌, ◌^◌, ltb, Option, Some, None}
use Rattle.text.specs.Text.{decimal_text}
use Rattle.percent.specs.declared.Percentage.{Percentage}
use Rattle.percent.specs.Percent.{shortest}
use Rattle.typed_line.specs.Keywords as Key

-- words, each behind a space (32)
unfoldable pub spaced : List (List ℕ) → List ℕ
spaced [] = []
spaced (w ∷ ws) = 32 ∷ (w ++ spaced ws)

-- a digit, of hex numbers too
abbrev pub hex_letter : ℕ → ℕ
hex_letter d = cond (ltb d 10) (48 + d) (87 + d)

-- the last k digits of n to a base, the highest first, in front of those that follow
unfoldable pub last_digits : ℕ → ℕ → ℕ → List ℕ → List ℕ
last_digits base zero n w = w
last_digits base (suc k) n w = last_digits base k (n / base) (hex_letter (n % base) ∷ w)

-- sixteen hex digits
unfoldable pub hex_text : ℕ → List ℕ
unfolding last_digits
hex_text n = last_digits 16 16 n []

-- the point (46) and the k digits behind it, if there are any
unfoldable pub behind_text : ℕ → ℕ → List ℕ
unfolding last_digits
behind_text zero n = []
behind_text (suc k) n = 46 ∷ last_digits 10 (suc k) n []

-- the percentage whose digits without the point are n, k of them behind it
unfoldable pub percent_text : ℕ → ℕ → List ℕ
unfolding behind_text
percent_text n k = decimal_text (n / 10 ^ k) ++ behind_text k n

-- an accuracy by its percentage, or by its bits
unfoldable pub words_by : Option Percentage → ℕ → List (List ℕ)
unfolding hex_text percent_text
words_by (Some p) bits = Key.acc ∷ percent_text p.digits p.places ∷ []
words_by None bits = Key.accbits ∷ hex_text bits ∷ []

unfoldable pub accuracy_words : Bool → ℕ → List (List ℕ)
unfolding words_by
accuracy_words given bits = cond given (words_by (shortest bits) bits) []
