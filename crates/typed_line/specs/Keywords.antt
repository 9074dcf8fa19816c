-- The page 'A typed sheet' of docs/RULES.md, the words that it knows: `chart`, `weights` and `play`; "METHOD being ignore, fast, closest or
-- nearest"; "`best` or `worst` .., `classic`, and with a value `n320 n300 n200 n100 n50 misses passed holds` (holds passed) and `acc` or `accbits`".
use Rattle.std.specs.Prelude.{List, [], ◌∷◌, cond, ℕ, eqb, Option}
use Rattle.std.specs.Option.{option_map}
use Rattle.words.specs.Words.{says, place}
use Rattle.typed_line.specs.declared.Kind.{Kind}
use Rattle.typed_line.specs.declared.Kind.TheVariants.{Chart, Weights, Play}
use Rattle.typed_line.specs.declared.PlayOption.{PlayOption}
use Rattle.typed_line.specs.declared.PlayOption.TheVariants.{Valued, Best, Worst, Classic}

-- each by its letters, in ASCII
unfoldable pub chart : List ℕ
chart = 99 ∷ 104 ∷ 97 ∷ 114 ∷ 116 ∷ []

unfoldable pub weights : List ℕ
weights = 119 ∷ 101 ∷ 105 ∷ 103 ∷ 104 ∷ 116 ∷ 115 ∷ []

unfoldable pub play : List ℕ
play = 112 ∷ 108 ∷ 97 ∷ 121 ∷ []

unfoldable pub ignore : List ℕ
ignore = 105 ∷ 103 ∷ 110 ∷ 111 ∷ 114 ∷ 101 ∷ []

unfoldable pub fast : List ℕ
fast = 102 ∷ 97 ∷ 115 ∷ 116 ∷ []

unfoldable pub closest : List ℕ
closest = 99 ∷ 108 ∷ 111 ∷ 115 ∷ 101 ∷ 115 ∷ 116 ∷ []

unfoldable pub nearest : List ℕ
nearest = 110 ∷ 101 ∷ 97 ∷ 114 ∷ 101 ∷ 115 ∷ 116 ∷ []

unfoldable pub n320 : List ℕ
n320 = 110 ∷ 51 ∷ 50 ∷ 48 ∷ []

unfoldable pub n300 : List ℕ
n300 = 110 ∷ 51 ∷ 48 ∷ 48 ∷ []

unfoldable pub n200 : List ℕ
n200 = 110 ∷ 50 ∷ 48 ∷ 48 ∷ []

unfoldable pub n100 : List ℕ
n100 = 110 ∷ 49 ∷ 48 ∷ 48 ∷ []

unfoldable pub n50 : List ℕ
n50 = 110 ∷ 53 ∷ 48 ∷ []

unfoldable pub misses : List ℕ
misses = 109 ∷ 105 ∷ 115 ∷ 115 ∷ 101 ∷ 115 ∷ []

unfoldable pub acc : List ℕ
acc = 97 ∷ 99 ∷ 99 ∷ []

unfoldable pub passed : List ℕ
passed = 112 ∷ 97 ∷ 115 ∷ 115 ∷ 101 ∷ 100 ∷ []

unfoldable pub holds : List ℕ
holds = 104 ∷ 111 ∷ 108 ∷ 100 ∷ 115 ∷ []

unfoldable pub accbits : List ℕ
accbits = 97 ∷ 99 ∷ 99 ∷ 98 ∷ 105 ∷ 116 ∷ 115 ∷ []

unfoldable pub best : List ℕ
best = 98 ∷ 101 ∷ 115 ∷ 116 ∷ []

unfoldable pub worst : List ℕ
worst = 119 ∷ 111 ∷ 114 ∷ 115 ∷ 116 ∷ []

unfoldable pub classic : List ℕ
classic = 99 ∷ 108 ∷ 97 ∷ 115 ∷ 115 ∷ 105 ∷ 99 ∷ []

-- what begins a line; none for any other word
abbrev pub kinds : List (List ℕ)
kinds = chart ∷ weights ∷ play ∷ []

-- the kind of a line by its word's place among those
abbrev pub kind_at : ℕ → Kind
kind_at k = cond (eqb k 0) Chart (cond (eqb k 1) Weights Play)

unfoldable pub kind_of : List ℕ → Option Kind
unfolding says
kind_of w = option_map kind_at (place w kinds)

-- a method's number in a sheet: 0 ignore, 1 fast, 2 closest, 3 nearest; none for any other word
abbrev pub methods : List (List ℕ)
methods = ignore ∷ fast ∷ closest ∷ nearest ∷ []

unfoldable pub method_of : List ℕ → Option ℕ
unfolding says
method_of w = place w methods

-- A play's options; none for any other word. With a value, the field's number: 0 to 4 the counts from n320 to n50, 5 misses, 6 acc, 7 passed,
-- 8 holds; 13 accbits, field 6 by its bits. Without: best, worst, classic.
abbrev pub options : List (List ℕ)
options = n320 ∷ n300 ∷ n200 ∷ n100 ∷ n50 ∷ misses ∷ acc ∷ passed ∷ holds ∷ accbits ∷ best ∷ worst ∷ classic ∷ []

abbrev pub option_at : ℕ → PlayOption
option_at o = cond (eqb o 9) (Valued 13) (cond (eqb o 10) Best (cond (eqb o 11) Worst (cond (eqb o 12) Classic (Valued o))))

unfoldable pub option_of : List ℕ → Option PlayOption
unfolding says
option_of w = option_map option_at (place w options)
