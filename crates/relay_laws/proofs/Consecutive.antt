-- Consecutive values: the first of them and the others, mapped, and found again by their places.
-- Assumes nothing.
use Prim.Native.Nat.{ℕ, zero, suc, ◌+◌, ◌-◌, ◌<◌}
use mathlib.Core.List.{List, [], ◌∷◌, map, head-eq_of_cons-eq, tail-eq_of_cons-eq}
use mathlib.Core.Path.{◌≡◌, refl, ap}
use native.Mathlib.Nat.{add-zero}
use native.Mathlib.Omega.{arith}
use lib.ListN.{length}
use Rattle.relay_laws.specs.Consecutive.{consecutive}

module _ {A : Type 0} (f : ℕ → A) where
  pub consecutive-long : (k n : ℕ) → length (consecutive f k n) ≡ n
  unfolding consecutive
  consecutive-long k zero = refl
  consecutive-long k (suc n) = ap suc (consecutive-long (suc k) n)

  -- those from k on, up to the n-th in all
  pub consecutive_next : (k n : ℕ) → k < n → consecutive f k (n - k) ≡ f k ∷ consecutive f (k + 1) (n - (k + 1))
  unfolding consecutive
  consecutive_next k n h =
      let e : n - k ≡ suc (n - (k + 1)) = omega arith in
      let g : k + 1 ≡ suc k = omega arith in
      rw (e, g)

  pub consecutive_end : (k : ℕ) → consecutive f k (k - k) ≡ []
  unfolding consecutive
  consecutive_end k = let e : k - k ≡ 0 = omega arith in rw e

  module _ {B : Type 0} (g : A → B) where
    pub consecutive-map : (k n : ℕ) → map g (consecutive f k n) ≡ consecutive (λ j. g (f j)) k n
    unfolding consecutive
    consecutive-map k zero = refl
    consecutive-map k (suc n) = ap (λ (l : List B). g (f k) ∷ l) (consecutive-map (suc k) n)

  -- the same lists have the same values
  module _ (g : ℕ → A) where
    pub consecutive-at : (k n j : ℕ) → j < n → consecutive f k n ≡ consecutive g k n → f (k + j) ≡ g (k + j)
    unfolding consecutive
    consecutive-at k zero j h e = absurd (omega arith)
    consecutive-at k (suc n) zero h e = rw add-zero (head-eq_of_cons-eq e)
    consecutive-at k (suc n) (suc j) h e =
        let m : k + suc j ≡ suc k + j = omega arith in
        rw m (consecutive-at (suc k) n j (omega arith) (tail-eq_of_cons-eq e))
