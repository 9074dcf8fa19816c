-- The totals of one answer more, and of none; and how large sums grow.
-- Assumes nothing.
use mathlib.Core.Path.{◌≡◌, refl}
use mathlib.Core.Bool.{false}
use mathlib.Core.List.{List, [], ◌∷◌}
use Prim.Native.Nat.{ℕ, ◌+◌, ◌*◌, ◌≤◌, ◌<◌}
use native.Mathlib.Nat.{add-zero}
use native.Mathlib.Numerals.{add-one}
use native.Mathlib.Omega.{arith}
use lib.Dec.{eqb}
use borrow.Author.Tests.{eq-eqb, ne_eqb}
use Rattle.little_endian.specs.Bytes.{u32_at}
use Rattle.totals.specs.Totals.{totals_of, totals_over, seven_of}
use Rattle.totals.specs.declared.Totals.{Totals}

pub none_yet : (out : List ℕ) → 0 ∷ 0 ∷ 0 ∷ 0 ∷ 0 ∷ 0 ∷ 0 ∷ [] ≡ totals_over out 0
unfolding totals_of
none_yet out = refl

module _ (out : List ℕ) (k : ℕ) where
  -- a refused row adds nothing
  pub refused_adds_nothing : 0 < u32_at out (36 * k) → totals_over out k ≡ totals_over out (k + 1)
  unfolding totals_of
  refused_adds_nothing h =
      let b : eqb (u32_at out (36 * k)) 0 ≡ false = ne_eqb (u32_at out (36 * k)) 0 (λ (z : u32_at out (36 * k) ≡ 0). omega arith) in
      rw (add-one k, b, b) (simp add-zero)

  -- one that was worked adds itself and its six counts
  module _ (t : Totals) (e : seven_of t ≡ totals_over out k) (z : u32_at out (36 * k) ≡ 0) where
    pub worked_adds
        : (a b c d f g : ℕ) → a ≡ t.n320 + u32_at out (36 * k + 4) → b ≡ t.n300 + u32_at out (36 * k + 8) → c ≡ t.n200 + u32_at out (36 * k + 12)
        → d ≡ t.n100 + u32_at out (36 * k + 16) → f ≡ t.n50 + u32_at out (36 * k + 20) → g ≡ t.misses + u32_at out (36 * k + 24)
        → (t.rows + 1) ∷ a ∷ b ∷ c ∷ d ∷ f ∷ g ∷ [] ≡ totals_over out (k + 1)
    unfolding totals_of
    worked_adds a b c d f g ea eb ec ed ef eg = rw (add-one k, eq-eqb (u32_at out (36 * k)) 0 z) (cc)

-- ---- a sum of k numbers of 32 bits: one more fits 64 bits, and what it is at most then
pub sum_room : (k n : ℕ) → k < 1024 → n ≤ 4294967295 * k → n + 4294967295 ≤ 18446744073709551615
sum_room k n h l = omega arith

pub sum_more : (k n m : ℕ) → n ≤ 4294967295 * k → m ≤ n + 4294967295 → m ≤ 4294967295 * (k + 1)
sum_more k n m l h = omega arith

pub sum_kept : (k n : ℕ) → n ≤ 4294967295 * k → n ≤ 4294967295 * (k + 1)
sum_kept k n l = omega arith
