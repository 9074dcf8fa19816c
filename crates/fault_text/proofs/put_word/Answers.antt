-- `fault_text::put_word` meets its contract. Assumes nothing.
use Prim.Native.Nat.{◌≤◌}
use native.Mathlib.Omega.{arith}
use lib.ListN.{length, take, length-take}
use borrow.Author.Tests.{lt-ltb, le-ltb}
use Rattle.text.proofs.Written.{followed}
use Rattle.fault_text.specs.FaultText.{shown_word}
use Rattle.fault_text.proofs.put_word.Goals as goal

pub returns-then-word-gt40 : goal.returns-then-word-gt40
unfolding shown_word
returns-then-word-gt40 c =
    let w = c.args.word.now in
    let k : length (take 40 w) ≤ 40 = simp length-take (omega arith) in
    record { gained = rw (lt-ltb 40 (length w) (omega arith)) (followed c.put_shown.ensures.gained c.put_bytes.ensures); upper_bound = omega arith }

pub returns : goal.returns
unfolding shown_word
returns c =
    let w = c.args.word.now in
    record { gained = rw (le-ltb 40 (length w) (omega arith)) c.put_shown-2.ensures.gained; upper_bound = omega arith }
