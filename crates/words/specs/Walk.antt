-- The page 'A typed sheet' of docs/RULES.md: "A text is judged line by line and word by word from the left": what is left of a walk over
-- the lines of a text, or over the words of a line.
use Rattle.std.specs.Prelude.{List, ℕ, true}
use denote.Ref.{Bor}
use Rattle.words.specs.Lines.{Part, part, lines_from}
use Rattle.words.specs.Words.{words}
use Rattle.words.specs.declared.Lines.{Lines}
use Rattle.words.specs.declared.Words.{Words}

-- a part of a text by what an iterator gives of it
abbrev pub part_of : ℕ × Bor (List ℕ) → Part
part_of p = part p.0 p.1.now

abbrev pub lines_left : Lines → List Part
lines_left l = lines_from l.at true l.rest.now

abbrev pub words_left : Words → List Part
words_left w = words w.at w.rest.now
