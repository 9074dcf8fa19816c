-- The definition, computed: the second line of a text gives `N300` twice, fault 4, and the word is found in the text.
-- Assumes nothing.
use mathlib.Core.Path.{◌≡◌, refl}
use mathlib.Core.List.{[], ◌∷◌}
use Rattle.std.specs.Prelude.{Err}
use Rattle.words.specs.declared.Fault.TheVariants.{GivenTwice}
use Rattle.typed_line.specs.Line.{span}
use Rattle.typed_sheet.specs.declared.TypedError.TheVariants.{Faulty}
use Rattle.words.specs.Lines.{line_size, lines_from, lines, unended}
use Rattle.words.specs.Words.{word_size, words_from, words, says}
use Rattle.words.specs.Values.{digits, number_of}
use Rattle.typed_line.specs.Keywords.{chart, weights, play, ignore, fast, closest, nearest, n320, n300, n200, n100, n50, misses, acc, passed, holds, accbits, best, worst, classic, kind_of, method_of, option_of}
use Rattle.typed_line.specs.Line.{names, value_for, slot, after, fills, judged_as, judged, takes, takes_all, read_of, line_of}
use Rattle.typed_sheet.specs.Typed.{tallies, tally_all, tally_of, outcome_of, typed_sheet}

-- "chart 20 0", CR, LF, "play 0 fast n300 1 N300 2"
pub given_twice : (typed_sheet (99 ∷ 104 ∷ 97 ∷ 114 ∷ 116 ∷ 32 ∷ 50 ∷ 48 ∷ 32 ∷ 48 ∷ 13 ∷ 10 ∷ 112 ∷ 108 ∷ 97 ∷ 121 ∷ 32 ∷ 48 ∷ 32 ∷ 102 ∷ 97 ∷ 115 ∷ 116 ∷ 32 ∷ 110 ∷ 51 ∷ 48 ∷ 48 ∷ 32 ∷ 49 ∷ 32 ∷ 78 ∷ 51 ∷ 48 ∷ 48 ∷ 32 ∷ 50 ∷ []) []).answer ≡ Err (Faulty (record { line = 2; fault = GivenTwice; word = span 31 4 }))
unfolding typed_sheet outcome_of tally_of tally_all tallies lines lines_from line_size line_of read_of unended words words_from word_size takes_all takes judged judged_as names fills value_for slot after kind_of method_of option_of says chart weights play ignore fast closest nearest n320 n300 n200 n100 n50 misses acc passed holds accbits best worst classic number_of digits
given_twice = refl
