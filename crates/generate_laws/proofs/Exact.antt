-- Method 2 by `closest_at`, whose floors, ceilings and roundings are those of exact fractions: on the domain it is the definition,
-- which has the Rust's f64 steps. Assumes nothing.
use mathlib.Core.Path.{◌≡◌, refl, ap}
use mathlib.Core.List.{List}
use Prim.Native.Nat.{ℕ}
use mathlib.Core.Option.{Option, none, some}
use lib.Ieee.{Float}
use Rattle.inspect.specs.Inspect.{Inspect, inspect_of}
use Rattle.inspect.specs.Checks.{Domain, InRange}
use Rattle.score_state.specs.Answer.{Answer}
use Rattle.inspect.specs.declared.Query.{Query}
use Rattle.ignore_acc.specs.IgnoreAcc.{ignore_acc}
use Rattle.closest_laws.specs.Closest.{closest_at}
use Rattle.closest_f64.proofs.Closest.{closest-is_the_rust}
use Rattle.generate_laws.specs.Generate.{counted, untried, closest_of}

unfoldable pub exact_of : Inspect → Option Float → Answer (List ℕ)
exact_of i none = counted (ignore_acc i)
exact_of i (some acc) = untried (closest_at i acc)

pub exact_at : (q : Query) → Domain q → (o : Option Float) → InRange o → closest_of (inspect_of q) o ≡ exact_of (inspect_of q) o
unfolding closest_of exact_of
exact_at q d none h = refl
exact_at q d (some acc) h = ap untried (closest-is_the_rust q acc d h.0 h.1)

pub exact_is : (q : Query) → Domain q → closest_of (inspect_of q) (inspect_of q).acc ≡ exact_of (inspect_of q) (inspect_of q).acc
exact_is q d = exact_at q d (inspect_of q).acc d.acc
