-- `inspect::missing_of` meets its contract: each arm by one computed test over the 32 presence numbers. Assumes nothing.
use Prim.Native.Nat.{ℕ}
use mathlib.Core.List.{List, [], ◌∷◌}
use native.Mathlib.Omega.{arith}
use Rattle.inspect.specs.Presence.{lacking}
use Rattle.inspect.specs.declared.Missing.TheVariants.{Nothing, One, Two, ThreePlus}
use Rattle.inspect.proofs.Lacking.{at_keys, in-span}
use Rattle.inspect.proofs.missing_of.Goals as goal

-- the keys that stand alone, the last arm first; neighbours come as ranges
abbrev kss : List (List ℕ)
kss = (7 ∷ 11 ∷ 19 ∷ 28 ∷ []) ∷ (15 ∷ 23 ∷ 27 ∷ []) ∷ (31 ∷ []) ∷ []

pub returns-in-31 : goal.returns-in-31
unfolding lacking
returns-in-31 c = at_keys Nothing (31 ∷ []) tt c.args.presence c.in-31.is

pub returns-in_default : goal.returns-in_default
unfolding lacking
returns-in_default c = in-span ThreePlus kss 0 13 tt c.args.presence c.in_default.in_default-own.rest (omega arith) (omega arith)

pub returns-in_default-2 : goal.returns-in_default-2
unfolding lacking
returns-in_default-2 c = in-span ThreePlus kss 15 21 tt c.args.presence c.in_default.in_default-own.rest (omega arith) (omega arith)

pub returns-in_default-3 : goal.returns-in_default-3
unfolding lacking
returns-in_default-3 c = in-span ThreePlus kss 23 25 tt c.args.presence c.in_default.in_default-own.rest (omega arith) (omega arith)

pub returns-in_default-4 : goal.returns-in_default-4
unfolding lacking
returns-in_default-4 c = in-span ThreePlus kss 31 32 tt c.args.presence c.in_default.in_default-own.rest (omega arith) (omega arith)

pub returns-in-30 : goal.returns-in-30
unfolding lacking
returns-in-30 c = at_keys One (15 ∷ 23 ∷ 27 ∷ []) tt c.args.presence c.in-30.is

pub returns-in-30-2 : goal.returns-in-30-2
unfolding lacking
returns-in-30-2 c = in-span One kss 27 31 tt c.args.presence c.in-30.in_default-own.rest (omega arith) (omega arith)

pub returns-in-28 : goal.returns-in-28
unfolding lacking
returns-in-28 c = at_keys Two (7 ∷ 11 ∷ 19 ∷ 28 ∷ []) tt c.args.presence c.in-28.is

pub returns-in-28-2 : goal.returns-in-28-2
unfolding lacking
returns-in-28-2 c = in-span Two kss 13 15 tt c.args.presence c.in-28.in_default-own.rest (omega arith) (omega arith)

pub returns-in-28-3 : goal.returns-in-28-3
unfolding lacking
returns-in-28-3 c = in-span Two kss 21 23 tt c.args.presence c.in-28.in_default-own.rest (omega arith) (omega arith)

pub returns-in-28-4 : goal.returns-in-28-4
unfolding lacking
returns-in-28-4 c = in-span Two kss 25 27 tt c.args.presence c.in-28.in_default-own.rest (omega arith) (omega arith)
