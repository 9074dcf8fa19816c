-- `text_print::put_stopped` meets its contract. Assumes nothing.
use Rattle.std.proofs.Common.{rules, ◌<◌, ◌≤◌, ℕ, length}
use native.Mathlib.Omega.{arith}
use Rattle.text.specs.Text.{decimal_text}
use Rattle.text.proofs.Written.{followed}
use Rattle.text.proofs.Decimal.{text_within}
use Rattle.text_print.specs.Stopped.{stopped_text}
use Rattle.text_print.proofs.put_stopped.Goals as goal

-- a 64-bit number has at most 20 digits
within : (n : ℕ) → n < 18446744073709551616 → length (decimal_text n) ≤ 20
within n b = text_within 19 n (omega arith)

pub put_number-requires : goal.put_number-requires
put_number-requires c = omega (arith, within c.args.index (search rules))

pub put_bytes-requires-2 : goal.put_bytes-requires-2
put_bytes-requires-2 c = omega (arith, within c.args.index (search rules))

pub put_decimal-requires : goal.put_decimal-requires
put_decimal-requires c = omega (arith, within c.args.index (search rules))

pub put_byte-requires : goal.put_byte-requires
put_byte-requires c = omega (arith, within c.args.index (search rules))

pub returns : goal.returns
unfolding stopped_text
returns c = rw (← c.into.ensures) (followed (followed (followed (followed c.put_bytes.ensures c.put_number.ensures) c.put_bytes-2.ensures) c.put_decimal.ensures.gained) c.put_byte.ensures)
