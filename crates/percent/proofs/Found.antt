-- A percentage that has given bits is the one that is looked for; where none does, none is found. Assumes nothing.
use mathlib.Core.Path.{◌≡◌, refl, sym, ap, ◌∙◌, subst}
use Prim.Native.Nat.{ℕ, ◌*◌, ◌^◌, ◌≤◌, ◌<◌}
use native.Mathlib.Nat.{pow-le-pow_right, one-le-pow}
use native.Mathlib.Omega.{arith}
use mathlib.Core.Bool.{Bool, true, false, cond, true≢false}
use lib.Dec.{T, eqb, ltb}
use lib.IntN.{pos}
use lib.Ieee.{Float, fin, binary64, of_bits, to_bits, round, le, lt}
use lib.Ieee.Fits.{round-fits}
use lib.Ieee.Bits.{of_bits-to_bits}
use borrow.Author.Tests.{ltb-true, lt-ltb, eqb-true, eq-eqb}
use Rattle.rounding.specs.Round.{round_even, product, zero64}
use Rattle.words.specs.Values.{hundredth}
use Rattle.std.specs.Prelude.{Some, None}
use Rattle.percent.specs.Percent.{percent_at, reads, percentage, percent_with}
use Rattle.percent.proofs.Only.{whole_is, product_is, product-from, product-below}

-- n is a percentage with k digits behind the point that has these bits
pub record Reads (bits n k : ℕ) : Type 0 where
  pub few : k ≤ 12
  pub small : n < 1000 * 10 ^ k
  pub same : hundredth n k ≡ bits

reads-small : (bits n k : ℕ) → reads bits n k ≡ true → (n < 1000 * 10 ^ k) × (hundredth n k ≡ bits)
unfolding reads
reads-small bits n k e = go (ltb n (1000 * 10 ^ k)) refl e
  where
    go : (b : Bool) → ltb n (1000 * 10 ^ k) ≡ b → cond b (eqb (hundredth n k) bits) false ≡ true → (n < 1000 * 10 ^ k) × (hundredth n k ≡ bits)
    go true h e = (ltb-true n (1000 * 10 ^ k) h, eqb-true (hundredth n k) bits e)
    go false h e = absurd (true≢false (sym e))

pub reads-is : (bits n k : ℕ) → k ≤ 12 → reads bits n k ≡ true → Reads bits n k
reads-is bits n k h e = record { few = h; small = (reads-small bits n k e).0; same = (reads-small bits n k e).1 }

pub is_read : {bits n k : ℕ} → Reads bits n k → reads bits n k ≡ true
unfolding reads
is_read {bits} {n} {k} r = rw (lt-ltb n (1000 * 10 ^ k) r.small, eq-eqb (hundredth n k) bits r.same)

-- ---- how large
pub ten_to : (k : ℕ) → k ≤ 12 → 10 ^ k ≤ 1000000000000
ten_to k h = pow-le-pow_right (omega arith) h

sizes : (t n : ℕ) → 0 < t → t ≤ 1000000000000 → n < 1000 * t → (0 < 100 * t) × (100 * t ≤ 2 ^ 47) × (n ≤ 2 ^ 50)
sizes t n p h l = (omega arith, omega arith, omega arith)

ten_pos : (k : ℕ) → 0 < 10 ^ k
ten_pos k = one-le-pow k 10 (omega arith)

module _ {bits n k : ℕ} (r : Reads bits n k) where
  abbrev q : ℕ
  q = 100 * 10 ^ k

  abbrev x : Float
  x = product (of_bits binary64 bits) q

  fine : (0 < q) × (q ≤ 2 ^ 47) × (n ≤ 2 ^ 50)
  fine = sizes (10 ^ k) n (ten_pos k) (ten_to k r.few) r.small

  accuracy-is : of_bits binary64 bits ≡ round binary64 false n q
  unfolding hundredth
  accuracy-is = ap (of_bits binary64) (sym r.same) ∙ of_bits-to_bits binary64 (round binary64 false n q) (round-fits binary64 false n q)

  pub only : percent_at bits k ≡ n
  unfolding percent_at
  only = rw accuracy-is (whole_is n q fine.0 fine.1 fine.2)

  pub found : T (le zero64 x) × T (lt x (fin false 1 (pos 51))) × (round_even x ≡ n)
  found = rw accuracy-is (product-from n q fine.0 fine.1 fine.2, product-below n q fine.0 fine.1 fine.2, product_is n q fine.0 fine.1 fine.2)

  pub hit : percent_with bits k ≡ Some (percentage n k)
  unfolding percent_with
  hit = rw (only, is_read r)

-- where what is looked for is refuted
pub miss : (bits k : ℕ) → k ≤ 12 → ((n : ℕ) → Reads bits n k → ⊥) → percent_with bits k ≡ None
unfolding percent_with
miss bits k h f = go (reads bits (percent_at bits k) k) refl
  where
    go : (b : Bool) → reads bits (percent_at bits k) k ≡ b → cond b (Some (percentage (percent_at bits k) k)) None ≡ None
    go true e = absurd (f (percent_at bits k) (reads-is bits (percent_at bits k) k h e))
    go false e = refl

-- ---- the answers of `percentage_with`: a is the f64 of the bits, q 100 * 10 ^ k, and n what their product is rounded to
module _ (bits k q : ℕ) (a : Float) (K : k ≤ 12) (e : q ≡ 100 * 10 ^ k) (f : a ≡ of_bits binary64 bits) where
  at_x : {n : ℕ} → Reads bits n k → T (le zero64 (product a q)) × T (lt (product a q) (fin false 1 (pos 51))) × (round_even (product a q) ≡ n)
  at_x r = rw (e, f) (found r)

  pub not_from : le zero64 (product a q) ≡ false → percent_with bits k ≡ None
  not_from h = miss bits k K (λ (n : ℕ) (r : Reads bits n k). subst T h (at_x r).0)

  pub not_below : lt (product a q) (fin false 1 (pos 51)) ≡ false → percent_with bits k ≡ None
  not_below h = miss bits k K (λ (n : ℕ) (r : Reads bits n k). subst T h (at_x r).1)

  module _ (n : ℕ) (g : n ≡ round_even (product a q)) where
    pub too_large : 10 * q ≤ n → percent_with bits k ≡ None
    too_large h = miss bits k K (λ (m : ℕ) (r : Reads bits m k). omega (arith, (at_x r).2, r.small))

    pub other_bits : (to_bits binary64 (round binary64 false n q) ≡ bits → ⊥) → percent_with bits k ≡ None
    unfolding hundredth
    other_bits h = miss bits k K (λ (m : ℕ) (r : Reads bits m k). h (rw (e, g, (at_x r).2) r.same))

    pub has_bits : n < 10 * q → to_bits binary64 (round binary64 false n q) ≡ bits → percent_with bits k ≡ Some (percentage n k)
    unfolding hundredth
    has_bits h t = hit record { few = K; small = omega arith; same = rw e at t }
