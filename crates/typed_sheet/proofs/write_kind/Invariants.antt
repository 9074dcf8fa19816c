use Rattle.words.specs.Walk.{lines_left}
use Rattle.typed_sheet.proofs.Sections.{Recorded}
use Rattle.typed_sheet.proofs.write_kind.Given as goal

abbrev pub invariant-loop-at : goal.invariant-loop-at
invariant-loop-at l = Recorded l.text l.kind l.initial.out l.out (lines_left l.at-iterator)
