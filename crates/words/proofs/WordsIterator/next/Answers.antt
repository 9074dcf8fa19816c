-- `words::Words::next` meets its contract. Assumes nothing.
use mathlib.Core.Path.{ap}
use Rattle.std.proofs.Common.{rules, length}
use Rattle.words.proofs.Follow.{none_left, one_left}
use Rattle.words.proofs.WordsIterator.next.Goals as goal

pub returns-then-e-a-clause-steps : goal.returns-then-e-a-clause-steps
returns-then-e-a-clause-steps c =
    let s = c.args.self.now in
    none_left s.rest.now s.at c.skip_blanks-a.result c.word_end-e.result c.skip_blanks-a.ensures.0 c.word_end-e.ensures.0 c.if-e-a.true

pub returns-else-e-a-clause-steps : goal.returns-else-e-a-clause-steps
returns-else-e-a-clause-steps c =
    let s = c.args.self.now in
    one_left s.rest.now s.at c.skip_blanks-a.result c.word_end-e.result c.skip_blanks-a.ensures.0 c.word_end-e.ensures.0 c.if-e-a.false

pub returns-else-e-a-clause-goes : goal.returns-else-e-a-clause-goes
returns-else-e-a-clause-goes c =
    let s = c.args.self.now in
    let shorter = ap length (one_left s.rest.now s.at c.skip_blanks-a.result c.word_end-e.result c.skip_blanks-a.ensures.0 c.word_end-e.ensures.0 c.if-e-a.false) in
    search rules
