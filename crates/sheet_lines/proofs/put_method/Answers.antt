-- `sheet_lines::put_method` meets its contract. Assumes nothing.
use native.Mathlib.Omega.{arith}
use borrow.Author.Tests.{ne_eqb}
use Rattle.typed_line.specs.Keywords.{ignore, fast, closest, nearest}
use Rattle.sheet_lines.specs.Lines.{method_word}
use Rattle.sheet_lines.proofs.put_method.Goals as goal

pub returns-in-0-clause-gained : goal.returns-in-0-clause-gained
unfolding method_word ignore
returns-in-0-clause-gained c = rw c.in-0.is c.put_word.ensures.gained

pub returns-in-1-clause-gained : goal.returns-in-1-clause-gained
unfolding method_word fast
returns-in-1-clause-gained c = rw c.in-1.is c.put_word-in-1.ensures.gained

pub returns-in-2-clause-gained : goal.returns-in-2-clause-gained
unfolding method_word closest
returns-in-2-clause-gained c = rw c.in-2.is c.put_word-in-2.ensures.gained

pub returns-in_default-clause-gained : goal.returns-in_default-clause-gained
unfolding method_word nearest
returns-in_default-clause-gained c =
    let m = c.args.method in
    rw (ne_eqb m 0 (λ z. omega arith), ne_eqb m 1 (λ z. omega arith), ne_eqb m 2 (λ z. omega arith)) c.put_word-in_default.ensures.gained
