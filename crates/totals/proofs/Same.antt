-- Answers of the same statuses and counts have the same totals.
-- Assumes nothing.
use mathlib.Core.Path.{◌≡◌, refl, ap}
use mathlib.Core.Bool.{cond}
use mathlib.Core.List.{List}
use Prim.Native.Nat.{ℕ, zero, suc, ◌<◌}
use native.Mathlib.Omega.{arith}
use lib.Dec.{eqb}
use Rattle.score_state.specs.Answer.{Answer, status_of}
use Rattle.answers.specs.Answers.{value}
use Rattle.totals.specs.Totals.{sum_to, sum_of, totals_of}

same_sum : (f g : ℕ → ℕ) (n : ℕ) → ((k : ℕ) → k < n → f k ≡ g k) → sum_to f n ≡ sum_to g n
same_sum f g zero h = refl
same_sum f g (suc n) h = rw (same_sum f g n (λ k l. h k (omega arith)), h n (omega arith))

pub same-totals
    : (f g : ℕ → Answer (List ℕ)) (n : ℕ) → ((k : ℕ) → k < n → status_of (f k) ≡ status_of (g k))
    → ((k j : ℕ) → k < n → j < 6 → value (f k) j ≡ value (g k) j) → totals_of f n ≡ totals_of g n
unfolding totals_of
same-totals f g n s v =
    let rows = same_sum (λ k. cond (eqb (status_of (f k)) 0) 1 0) (λ k. cond (eqb (status_of (g k)) 0) 1 0) n (λ k l. ap (λ (m : ℕ). cond (eqb m 0) 1 0) (s k l)) in
    let sum : (j : ℕ) → j < 6 → sum_of f n j ≡ sum_of g n j = λ j h. same_sum (λ k. value (f k) j) (λ k. value (g k) j) n (λ k l. v k j l h) in
    rw (rows, sum 0 (omega arith), sum 1 (omega arith), sum 2 (omega arith), sum 3 (omega arith), sum 4 (omega arith), sum 5 (omega arith))
