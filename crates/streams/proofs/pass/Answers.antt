-- What `streams::pass` handed on is what it read.
use Rattle.std.proofs.Common.{rules, refl, take}
use Rattle.streams.specs.Input.{Answers, Gives}
use Rattle.streams.proofs.Written.{anyway}
use Rattle.streams.proofs.pass.Goals as goal

pub returns-in-Ok : goal.returns-in-Ok
returns-in-Ok g c =
    let read = c.in-Ok.ensures in
    let given : Gives g.row.MOST (λ bytes. Answers g.F.FnOnce c.args.answer bytes c.args.output.now c.answer.new.arg3 c.answer.result) (g.R.Read.remaining c.args.input.now) (g.R.Read.remaining c.read_all.new.reader) = (
      take c.in-Ok.n c.read_all.new.buf,
      search rules,
      read.took.0,
      search rules,
      record { shown = _; shows = refl; output = _; holds = refl; errors = _; left = _; told = _; met = c.answer.ensures; leaves = refl },
    ) in
    anyway _ _ given
