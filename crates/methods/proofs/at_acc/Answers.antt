-- `methods::at_acc` meets its contract. Assumes nothing.
use Prim.Native.Nat.{ℕ}
use mathlib.Core.Path.{sym, ap, ◌∙◌}
use native.Mathlib.Omega.{arith}
use Rattle.score_state.specs.Points.{weights_of}
use Rattle.inspect.specs.Inspect.{inspect_of}
use Rattle.generate_laws.specs.Generate.{by_method}
use Rattle.generate_laws.proofs.Answered.{fast-at, closest-at, nearest-at}
use Rattle.score_state.specs.Answer.{worked}
use Rattle.generated.specs.declared.Generated.{Generated}
use Rattle.generated.specs.Generated.{generated_of, values}
use Rattle.methods.proofs.at_acc.Goals as goal

pub returns-in-1 : goal.returns-in-1
returns-in-1 c =
    let x = c.args in
    let e = fast-at (weights_of x.weights) (inspect_of x.q) x.acc.value c.generate_hitresults.result c.requires.method_nonzero.1 c.generate_hitresults.ensures in
    ap (λ (g : Generated). worked (values g)) c.into.ensures ∙ e ∙ ap (λ (m : ℕ). by_method (weights_of x.weights) m (inspect_of x.q)) (sym c.in-1.is)

pub returns-in-2 : goal.returns-in-2
returns-in-2 c =
    let x = c.args in
    let e = closest-at (weights_of x.weights) (inspect_of x.q) x.acc.value (generated_of c.closest_counts.result) c.requires.method_nonzero.1 c.closest_counts.ensures in
    e ∙ ap (λ (m : ℕ). by_method (weights_of x.weights) m (inspect_of x.q)) (sym c.in-2.is)

pub returns-in_default : goal.returns-in_default
returns-in_default c =
    let x = c.args in
    nearest-at (weights_of x.weights) x.method (inspect_of x.q) x.acc.value (generated_of c.nearest_counts.result) (omega arith) c.requires.method_nonzero.1 c.nearest_counts.ensures
