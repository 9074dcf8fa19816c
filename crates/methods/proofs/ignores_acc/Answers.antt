-- `methods::ignores_acc` meets its contract. Assumes nothing.
use mathlib.Core.Path.{sym, ap}
use Rattle.inspect.specs.Inspect.{acc_of}
use Rattle.inspect.specs.declared.Accuracy.{Accuracy}
use Rattle.methods.specs.Code.{ignores_acc}
use Rattle.methods.proofs.ignores_acc.Goals as goal

pub returns-in-Given : goal.returns-in-Given
unfolding ignores_acc
returns-in-Given c = sym (ap (λ (a : Accuracy). ignores_acc c.args.method (acc_of a)) c.in-Given.is)

pub returns-in-Absent : goal.returns-in-Absent
unfolding ignores_acc
returns-in-Absent c = sym (ap (λ (a : Accuracy). ignores_acc c.args.method (acc_of a)) c.in-Absent.is)
