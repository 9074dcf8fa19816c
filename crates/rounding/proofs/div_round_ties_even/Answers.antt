-- `rounding::div_round_ties_even` meets its contract: each way out is one of the three roundings. Assumes nothing.
use native.Mathlib.Omega.{arith}
use native.Mathlib.Nat.{div-le_self, mod-lt}
use Rattle.rounding.proofs.Quotient.{rounds_down, rounds_up, rounds_even}
use Rattle.rounding.proofs.div_round_ties_even.Goals as goal

pub overflow_mul-twice : goal.overflow_mul-twice
overflow_mul-twice c = omega (arith, mod-lt c.args.x c.requires.1)

pub overflow_add-result : goal.overflow_add-result
overflow_add-result c = omega (arith, div-le_self c.args.x c.args.y)

pub overflow_add-result-else-twice-y-2 : goal.overflow_add-result-else-twice-y-2
overflow_add-result-else-twice-y-2 c = omega (arith, div-le_self c.args.x c.args.y)

pub returns-then-twice-y : goal.returns-then-twice-y
returns-then-twice-y c = rounds_down c.args.x c.args.y c.if-twice-y.true

pub returns-then-twice-y-2 : goal.returns-then-twice-y-2
returns-then-twice-y-2 c = rounds_up c.args.x c.args.y c.if-twice-y-2.true

pub returns-else-twice-y-2 : goal.returns-else-twice-y-2
returns-else-twice-y-2 c = rounds_even c.args.x c.args.y (omega arith)
