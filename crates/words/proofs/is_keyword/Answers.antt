-- `words::is_keyword` meets its contract. Assumes nothing.
use mathlib.Core.Path.{sym, ◌∙◌}
use borrow.Author.Tests.{ne_eqb}
use lib.ListN.{length}
use Rattle.std.proofs.Common.{rules, tests}
use Rattle.std.proofs.lemmas.Iterator.{YieldsList-from_slice, YieldsList-from_zip, cases_from_all}
use Rattle.words.proofs.Keywords.{Alike, Unlike, says-length, says_paired}
use Rattle.words.proofs.is_keyword.Goals as goal

pub returns-then-w-k : goal.returns-then-w-k
returns-then-w-k c =
    let w = c.args.w.now in
    let k = c.args.k.now in
    let pairs = YieldsList-from_zip (YieldsList-from_slice w cc) (YieldsList-from_slice k cc) in
    says_paired w k c.all.result c.if-w-k.true (cases_from_all c.all.new.self _ c.all.result Alike Unlike c.all.ensures.ran pairs (λ x q h. search (rules, tests)) (λ x q h. search (rules, tests)))

pub returns-else-w-k : goal.returns-else-w-k
returns-else-w-k c =
    let w = c.args.w.now in
    let k = c.args.k.now in
    ne_eqb (length w) (length k) c.if-w-k.false ∙ sym (says-length w k c.if-w-k.false)
