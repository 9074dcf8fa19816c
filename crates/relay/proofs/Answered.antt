-- What a relay is answered, from its parts: a check that stops it, no accuracy, and its numbers in front of what the output held.
-- Assumes nothing.
use Prim.Native.Nat.{ℕ, suc, ◌+◌, ◌<◌}
use mathlib.Core.Bool.{Bool, false}
use mathlib.Core.List.{List, [], ◌∷◌, ◌++◌, map}
use mathlib.Core.Option.{Option, none, some}
use mathlib.Core.Path.{◌≡◌, sym, ◌∙◌}
use native.Mathlib.Omega.{arith}
use lib.Dec.{eqb}
use lib.Ieee.{Float}
use lib.ListN.{length, set, drop}
use borrow.Author.Tests.{ne_eqb}
use Rattle.lists.specs.Lists.{put}
use Rattle.score_state.specs.Points.{hits, standard, perfect_weight}
use Rattle.score_state.specs.Lent.{lent, answered}
use Rattle.inspect.specs.Target.{target}
use Rattle.nearest_laws.specs.Nearest.{Found, found}
use Rattle.relay_laws.specs.Plays.{Play, plays_of, total_of, misses_of}
use Rattle.relay_laws.specs.Pool.{all_missing, pooled, deals}
use Rattle.relay_laws.specs.Checks.{relay_stop}
use Rattle.relay_laws.specs.Relay.{remains, pooled_target, pooled_split, sixes, relay_numbers, relay_answer, IsRelay}
use Rattle.relay_laws.proofs.Checked.{Passed, passed}
use Rattle.relay_laws.proofs.ReadBack.{is_relay}

-- what a relay has that no check stops
pub cleared : {acc : Option Float} {s : List ℕ} {room : ℕ} → 0 ≡ relay_stop acc s room → Passed acc s room
cleared {acc = acc} {s = s} {room = room} e = passed acc s room (sym e)

module _ (classic : Bool) (acc : Option Float) (s out : List ℕ) where
  pub stopped : (n : ℕ) → n ≡ relay_stop acc s (length out) → 0 < n → lent n out ≡ answered (relay_answer classic acc s (length out)) out
  unfolding relay_answer
  stopped n e h =
      let b : eqb n 0 ≡ false = ne_eqb n 0 (λ z. omega arith) in
      rw (← e, b)

  module _ (go : relay_stop acc s (length out) ≡ 0) where
    pub without_acc : acc ≡ none → lent 13 out ≡ answered (relay_answer classic acc s (length out)) out
    unfolding relay_answer
    without_acc e = rw (go, e)

    pub worked
        : (x : Float) (out₁ : List ℕ) → acc ≡ some x
        → out₁ ≡ relay_numbers classic x (plays_of s) ++ drop (length (relay_numbers classic x (plays_of s))) out
        → (lent 0 out₁ ≡ answered (relay_answer classic acc s (length out)) out) × IsRelay classic acc s out₁
    unfolding relay_answer
    worked x out₁ e o = (
      rw (go, e, o),
      rw (e, o) (is_relay classic x s (drop (length (relay_numbers classic x (plays_of s))) out)),
    )

-- ---- the numbers
-- the pool's split, found of the sums
pub pool_split
    : (classic : Bool) (acc : Float) (ps : List Play) (f : Found) (total remain : ℕ) → f ≡ found (standard classic) all_missing (target acc (perfect_weight classic) total) remain
    → total ≡ hits (map (total_of classic) ps) → remain ≡ hits (remains classic ps) → f ≡ pooled_split classic acc ps
unfolding pooled pooled_target
pool_split classic acc ps f total remain e t r = e ∙ rw (t, r)

-- tried in the first place, and the charts' numbers behind it
first_and_others : (out xs : List ℕ) (n : ℕ) → 0 < length out → put (set out 0 n) 1 xs ≡ (n ∷ xs) ++ drop (length (n ∷ xs)) out
unfolding put
first_and_others [] xs n h = absurd (omega arith)
first_and_others (a ∷ out) xs n h = let e : 1 + length xs ≡ suc (length xs) = omega arith in rw e

pub numbers-written
    : (classic : Bool) (acc : Float) (ps : List Play) (out : List ℕ) (f : Found) → f ≡ pooled_split classic acc ps → 0 < length out
    → put (set out 0 f.tried) 1 (sixes (deals f.counts (remains classic ps)) (map (misses_of classic) ps))
    ≡ relay_numbers classic acc ps ++ drop (length (relay_numbers classic acc ps)) out
unfolding relay_numbers
numbers-written classic acc ps out f e h =
    rw e (first_and_others out (sixes (deals (pooled_split classic acc ps).counts (remains classic ps)) (map (misses_of classic) ps)) (pooled_split classic acc ps).tried h)
