-- No refusal of a relay has the number 0, so that status 0 says that it was worked.
-- Assumes nothing.
use Prim.Native.Nat.{ℕ, zero, suc, ◌<◌}
use mathlib.Core.Bool.{Bool, false}
use mathlib.Core.List.{List}
use mathlib.Core.Option.{Option, none, some}
use mathlib.Core.Path.{◌≡◌}
use native.Mathlib.Omega.{arith}
use lib.Dec.{eqb}
use lib.Ieee.{Float}
use borrow.Author.Tests.{ne_eqb}
use Rattle.score_state.specs.Answer.{Answer, worked, refused, unless}
use Rattle.relay_laws.specs.Plays.{Play, plays_of}
use Rattle.relay_laws.specs.Checks.{relay_stop}
use Rattle.relay_laws.specs.Relay.{relay_at, relay_answer}

same_number : (m n : ℕ) → ◌≡◌ {A = Answer (List ℕ)} (refused m) (refused n) → m ≡ n
same_number m n e = cc

never : (x : List ℕ) (n : ℕ) → worked x ≡ refused n → ⊥
never x n e = let z : ◌≡◌ {A = ℕ} 0 1 = cc in omega arith

by_acc : (classic : Bool) (acc : Option Float) (ps : List Play) (n : ℕ) → relay_at classic acc ps ≡ refused n → 0 < n
by_acc classic none ps n e = omega (arith, same_number 13 n e)
by_acc classic (some x) ps n e = absurd (never _ n e)

pub numbered : (classic : Bool) (acc : Option Float) (s : List ℕ) (room n : ℕ) → relay_answer classic acc s room ≡ refused n → 0 < n
unfolding relay_answer
numbered classic acc s room n e = go (relay_stop acc s room) e
  where
    go : (m : ℕ) → unless (eqb m 0) m (relay_at classic acc (plays_of s)) ≡ refused n → 0 < n
    go zero k = by_acc classic acc (plays_of s) n k
    go (suc m) k = let b : eqb (suc m) 0 ≡ false = ne_eqb (suc m) 0 (λ z. omega arith) in omega (arith, same_number (suc m) n (rw b at k))
