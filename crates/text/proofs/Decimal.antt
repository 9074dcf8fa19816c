-- The digits that `io::decimal` writes are `decimal_text`, and how many those are.
-- Assumes nothing.
use mathlib.Core.Path.{◌≡◌}
use mathlib.Core.Bool.{Bool, true, false, cond}
use mathlib.Core.List.{[], ◌∷◌, ◌++◌}
use Prim.Native.Nat.{ℕ, zero, suc, ◌+◌, ◌-◌, ◌*◌, ◌/◌, ◌%◌, ◌^◌, ◌≤◌, ◌<◌}
use native.Mathlib.Nat.{pow-suc, one-le-pow}
use native.Mathlib.Omega.{arith}
use lib.Dec.{ltb}
use lib.ListN.{length, length-append}
use borrow.Author.Tests.{lt-ltb, le-ltb}
use Rattle.io.specs.Digits.{last_digits, IsDigitCount}
use Rattle.text.specs.Text.{decimal_up_to, decimal_text}

-- ten or more for one digit and more
ten_le : (k : ℕ) → 10 ≤ 10 ^ suc k
ten_le k =
    let p : 1 ≤ 10 ^ k = one-le-pow k 10 (omega arith) in
    let e : 10 ^ suc k ≡ 10 ^ k * 10 = pow-suc 10 k in
    omega arith

up_to : (more n k : ℕ) → n < 10 ^ suc more → IsDigitCount 10 1 n k → last_digits 10 k n ≡ decimal_up_to more n
unfolding decimal_up_to
up_to more n zero h f = absurd (omega arith)
up_to zero n (suc zero) h f =
    let l : n < 10 = f.1 in
    let e : n % 10 ≡ n = omega arith in
    rw (e, lt-ltb n 10 l)
up_to (suc more) n (suc zero) h f =
    let l : n < 10 = f.1 in
    let e : n % 10 ≡ n = omega arith in
    rw (e, lt-ltb n 10 l)
up_to zero n (suc (suc j)) h f =
    let e : suc (suc j) - 1 ≡ suc j = omega arith in
    let p : 10 ^ suc j ≤ n = rw e at (f.2 (omega arith)) in
    let l : n < 10 = h in
    absurd (omega (arith, ten_le j))
up_to (suc more) n (suc (suc j)) h f =
    let e : suc (suc j) - 1 ≡ suc j = omega arith in
    let p : 10 ^ suc j ≤ n = rw e at (f.2 (omega arith)) in
    let t : 10 ≤ 10 ^ suc j = ten_le j in
    let u : 10 ^ suc (suc j) ≡ 10 ^ suc j * 10 = pow-suc 10 (suc j) in
    let v : 10 ^ suc j ≡ 10 ^ j * 10 = pow-suc 10 j in
    let m : 10 ^ suc (suc more) ≡ 10 ^ suc more * 10 = pow-suc 10 (suc more) in
    let e' : suc j - 1 ≡ j = omega arith in
    let w : 10 ^ (suc j - 1) ≤ n / 10 = rw e' (omega arith) in
    let up : n < 10 ^ suc (suc j) = f.1 in
    let g : IsDigitCount 10 1 (n / 10) (suc j) = (omega arith, omega arith, λ q. w) in
    rw (le-ltb n 10 (omega arith), up_to more (n / 10) (suc j) (omega arith) g, lt-ltb (n % 10) 10 (omega arith))

pub decimal_digits : (n k : ℕ) → n < 10 ^ 20 → IsDigitCount 10 1 n k → last_digits 10 k n ≡ decimal_text n
unfolding decimal_text
decimal_digits n k h f = up_to 19 n k h f

-- a number below 10 ^ m has at most m digits, where m is 1 or more
up_to_within : (more m n : ℕ) → n < 10 ^ suc m → length (decimal_up_to more n) ≤ suc m
unfolding decimal_up_to
up_to_within zero m n h = omega arith
up_to_within (suc more) zero n h = rw (lt-ltb n 10 h) (omega arith)
up_to_within (suc more) (suc m) n h =
    let e : 10 ^ suc (suc m) ≡ 10 ^ suc m * 10 = pow-suc 10 (suc m) in
    go (ltb n 10) (up_to_within more m (n / 10) (omega arith))
  where
    go : (b : Bool) → length (decimal_up_to more (n / 10)) ≤ suc m → length (cond b ((48 + n) ∷ []) (decimal_up_to more (n / 10) ++ ((48 + n % 10) ∷ []))) ≤ suc (suc m)
    go true l = omega arith
    go false l = simp length-append (omega arith)

pub text_within : (m n : ℕ) → n < 10 ^ suc m → length (decimal_text n) ≤ suc m
unfolding decimal_text
text_within m n h = up_to_within 19 m n h
