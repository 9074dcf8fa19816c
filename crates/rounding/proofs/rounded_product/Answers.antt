-- `rounding::rounded_product` meets its contract: the product lies from -0 to n. Assumes nothing.
use native.Mathlib.Omega.{arith}
use native.Mathlib.Nat.{le_trans, le_of_eq}
use Prim.Native.Nat.{ℕ, ◌^◌, ◌<◌}
use lib.IntN.{pos}
use lib.Ieee.{binary64, mul, of_int}
use Rattle.rounding.specs.declared.Acc.{Acc}
use Rattle.rounding.proofs.Floats.{Within, product_within}
use Rattle.rounding.proofs.rounded_product.Goals as goal

fine : (acc : Acc) (n : ℕ) → n < 2 ^ 31 → Within (mul binary64 acc.value (of_int binary64 (pos n))) n
fine acc n h = product_within acc.value n (omega arith) acc.in_range.0 acc.in_range.1

pub round_ties_even-requires : goal.round_ties_even-requires
round_ties_even-requires c = let w = fine c.args.acc c.args.n c.requires in record { fact_1 = w.0; fact_2 = w.1 }

pub returns : goal.returns
returns c = record { value = c.round_ties_even.ensures; upper_bound = le_trans (le_of_eq c.round_ties_even.ensures) (fine c.args.acc c.args.n c.requires).2 }
