-- `fault_text::put_fault` meets its contract. Assumes nothing.
use Prim.Native.Nat.{ℕ, ◌<◌, ◌≤◌}
use native.Mathlib.Omega.{arith}
use lib.ListN.{length}
use borrow.Author.Rules.{rules}
use Rattle.text.specs.Text.{decimal_text}
use Rattle.text.proofs.Written.{followed}
use Rattle.text.proofs.Decimal.{text_within}
use Rattle.fault_text.specs.FaultText.{line_word, fault_text}
use Rattle.fault_text.proofs.put_fault.Goals as goal

line_within : (n : ℕ) → n < 18446744073709551616 → length (decimal_text n) ≤ 20
line_within n b = text_within 19 n (omega arith)

pub put_number-requires : goal.put_number-requires
put_number-requires c = omega (arith, line_within c.args.line (search rules))

pub put_bytes-requires-2 : goal.put_bytes-requires-2
put_bytes-requires-2 c = omega (arith, line_within c.args.line (search rules))

pub put_sentence-requires : goal.put_sentence-requires
put_sentence-requires c = omega (arith, line_within c.args.line (search rules))

pub put_byte-requires : goal.put_byte-requires
put_byte-requires c = omega (arith, line_within c.args.line (search rules))

pub returns : goal.returns
unfolding fault_text line_word
returns c = followed (followed (followed (followed c.put_bytes.ensures c.put_number.ensures) c.put_bytes-2.ensures) c.put_sentence.ensures.gained) c.put_byte.ensures
