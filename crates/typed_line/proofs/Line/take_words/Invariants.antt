use mathlib.Core.Path.{◌≡◌}
use Rattle.words.specs.Walk.{words_left}
use Rattle.typed_line.specs.Line.{takes_all}
use Rattle.typed_line.proofs.Line.take_words.Given as goal

abbrev pub invariant-loop-at : goal.invariant-loop-at
invariant-loop-at l = takes_all l.self (words_left l.at-iterator) ≡ takes_all l.initial.self (words_left l.words)
