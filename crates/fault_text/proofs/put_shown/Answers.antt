-- `fault_text::put_shown` meets its contract. Assumes nothing.
use mathlib.Core.Path.{sym, ap, ◌∙◌}
use mathlib.Core.List.{[], ◌∷◌, ◌++◌}
use Prim.Native.Nat.{ℕ}
use native.Mathlib.Omega.{arith}
use lib.ListN.{take}
use Rattle.text.proofs.Written.{nothing, followed, restated}
use Rattle.fault_text.specs.FaultText.{shown}
use Rattle.fault_text.proofs.Shown.{shown_next, shown-all}
use Rattle.fault_text.proofs.put_shown.Goals as goal

pub loop-b-init : goal.loop-b-init
unfolding shown
loop-b-init c = (omega arith, nothing c.args.text.now (omega arith))

pub loop-b-preserved : goal.loop-b-preserved
loop-b-preserved c =
    let w = c.args.word.now in
    let l = c.loop-b in
    let i = l.b-index in
    let e = ap (λ (r : ℕ). shown (take i w) ++ (r ∷ [])) c.shown_byte.ensures ∙ sym (shown_next w i (omega arith)) in
    (omega arith, restated (followed l.invariant.1 c.put_byte.ensures) e)

pub returns : goal.returns
returns c =
    let l = c.loop-b in
    record { gained = restated l.invariant.1 (shown-all c.args.word.now l.b-index (omega arith)); value = omega arith }
