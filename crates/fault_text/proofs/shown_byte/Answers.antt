-- `fault_text::shown_byte` meets its contract. Assumes nothing.
use borrow.Author.Tests.{lt-ltb, le-ltb}
use Rattle.fault_text.proofs.shown_byte.Goals as goal

pub returns-then-b-lt33 : goal.returns-then-b-lt33
returns-then-b-lt33 c = rw (lt-ltb c.args.b 33 c.if-b-lt33.true)

pub returns-then-b-gt126 : goal.returns-then-b-gt126
returns-then-b-gt126 c = rw (le-ltb c.args.b 33 c.if-b-lt33.false, lt-ltb 126 c.args.b c.if-b-gt126.true)

pub returns : goal.returns
returns c = rw (le-ltb c.args.b 33 c.if-b-lt33.false, le-ltb 126 c.args.b c.if-b-gt126.false)
