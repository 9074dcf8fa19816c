-- `walked_strides`: the table's or the formula's strides, and no middle among fewer than three.
use mathlib.Core.Path.{sym}
use Rattle.inspect.specs.Presence.{lacking}
use Rattle.plan.proofs.Missing.{few-missing}
use Rattle.plan.proofs.Few.{strides_few}
use borrow.Author.Rules.{rules}
use Rattle.plan.proofs.walked_strides.Goals as goal

pub returns-in_default : goal.returns-in_default
returns-in_default c =
    let x = c.args in
    let m = c.missing_of in
    sym (strides_few x.weights x.presence (rw c.requires at (few-missing (lacking x.after) m.result m.ensures (search rules))))
