-- `words::Lines::next` meets its contract. Assumes nothing.
use mathlib.Core.Path.{ap, sym, ◌∙◌}
use Rattle.std.proofs.Common.{rules, length}
use Rattle.words.proofs.Follow.{no_lines, line_left}
use Rattle.words.proofs.LinesIterator.next.Goals as goal

pub returns-then-is_empty-clause-steps : goal.returns-then-is_empty-clause-steps
returns-then-is_empty-clause-steps c =
    let s = c.args.self.now in
    let n = no_lines s.rest.now s.at (sym c.is_empty.ensures ∙ c.if-is_empty.true) in
    (n, n)

pub returns-clause-steps : goal.returns-clause-steps
returns-clause-steps c =
    let s = c.args.self.now in
    line_left s.rest.now s.at c.line_end-e.result c.min-n.result (sym c.is_empty.ensures ∙ c.if-is_empty.false) c.line_end-e.ensures.0 c.min-n.ensures

pub returns-clause-goes : goal.returns-clause-goes
returns-clause-goes c =
    let s = c.args.self.now in
    let shorter = ap length (line_left s.rest.now s.at c.line_end-e.result c.min-n.result (sym c.is_empty.ensures ∙ c.if-is_empty.false) c.line_end-e.ensures.0 c.min-n.ensures) in
    search rules
