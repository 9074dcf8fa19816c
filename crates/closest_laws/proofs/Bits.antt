-- The missing counts of a presence number. Assumes nothing.
use Prim.Native.Nat.{ℕ, ◌+◌, ◌-◌, ◌/◌, ◌%◌, ◌<◌, ◌≤◌, zero-le}
use mathlib.Core.Path.{◌≡◌, refl, ap, ◌∙◌, subst}
use mathlib.Core.Bool.{Bool, true, false, not, cond, ◌&&◌, ◌||◌}
use mathlib.Core.List.{List, [], ◌∷◌, map}
use mathlib.Core.Option.{Option, none, some}
use native.Mathlib.Omega.{arith}
use borrow.Author.Tests.{eq-eqb}
use lib.Dec.{T, eqb, ltb, eqb→eq, ltb→lt}
use lib.Count.{count_leading_zeros, count_trailing_zeros}
use lib.ListN.{length, get_or}
use Rattle.score_state.specs.Given.{or, missing}
use Rattle.inspect.specs.Presence.{has, given, five_given, lacks, lacking}
use Rattle.inspect.proofs.Arms.{in-span}
use Rattle.inspect.proofs.Lacking.{five_bits}
use Rattle.closest_laws.proofs.LastThree.{Open}

-- ---- how many are missing
module _ (k a b c d e : ℕ) where
  one : (h : Bool) (w n : ℕ) (ws : List ℕ) (gs : List (Option ℕ)) → length (missing (w ∷ ws) (given h n ∷ gs)) ≡ lacks h + length (missing ws gs)
  unfolding missing
  one true w n ws gs = omega arith
  one false w n ws gs = omega arith

  pub missing-count : (u v w x y : ℕ) → length (missing (u ∷ v ∷ w ∷ x ∷ y ∷ []) (five_given k a b c d e)) ≡ lacking k
  unfolding lacking missing
  missing-count u v w x y =
      rw (
        one (has k 1) u a (v ∷ w ∷ x ∷ y ∷ []) (given (has k 2) b ∷ given (has k 4) c ∷ given (has k 8) d ∷ given (has k 16) e ∷ []),
        one (has k 2) v b (w ∷ x ∷ y ∷ []) (given (has k 4) c ∷ given (has k 8) d ∷ given (has k 16) e ∷ []),
        one (has k 4) w c (x ∷ y ∷ []) (given (has k 8) d ∷ given (has k 16) e ∷ []),
        one (has k 8) x d (y ∷ []) (given (has k 16) e ∷ []),
        one (has k 16) y e [] [],
      )

  -- with three or more missing, one of the last three is
  pub lacks-one : 3 ≤ lacking k → Open (given (has k 4) c) (given (has k 8) d) (given (has k 16) e)
  unfolding lacking
  lacks-one h = go (has k 1) (has k 2) (has k 4) (has k 8) (has k 16) h
    where
      go : (p q r s t : Bool) → 3 ≤ lacks p + (lacks q + (lacks r + (lacks s + (lacks t + 0)))) → Open (given r c) (given s d) (given t e)
      go p q false s t h = tt
      go p q true false t h = tt
      go p q true true false h = tt
      go true true true true true h = absurd (omega arith)
      go true false true true true h = absurd (omega arith)
      go false true true true true h = absurd (omega arith)
      go false false true true true h = absurd (omega arith)

-- ---- the two that are missing: the lowest and the highest bit that is not set, by one test of all 32 numbers
abbrev pub low_zeros : ℕ → ℕ
low_zeros k = count_trailing_zeros 8 (31 - k)

abbrev pub high_zeros : ℕ → ℕ
high_zeros k = count_leading_zeros 8 (31 - k)

-- two places, i and 7 - z, each below 5
abbrev is_pair : List ℕ → ℕ → ℕ → Bool
is_pair [] i z = false
is_pair (x ∷ []) i z = false
is_pair (x ∷ (y ∷ [])) i z = eqb x i && (eqb (y + z) 7 && (ltb x 5 && ltb y 5))
is_pair (x ∷ (y ∷ (v ∷ vs))) i z = false

both : (a b : Bool) → T (a && b) → T a × T b
both true b t = (tt, t)
both false b t = absurd t

pair_is : (xs : List ℕ) (i z : ℕ) → T (is_pair xs i z) → (xs ≡ i ∷ (7 - z) ∷ []) × (i < 5) × (z ≤ 7) × (7 - z < 5)
pair_is [] i z t = absurd t
pair_is (x ∷ []) i z t = absurd t
pair_is (x ∷ (y ∷ [])) i z t =
    let t1 = both (eqb x i) (eqb (y + z) 7 && (ltb x 5 && ltb y 5)) t in
    let t2 = both (eqb (y + z) 7) (ltb x 5 && ltb y 5) t1.1 in
    let t3 = both (ltb x 5) (ltb y 5) t2.1 in
    let e : x ≡ i = eqb→eq x i t1.0 in
    let f : y ≡ 7 - z = omega (arith, eqb→eq (y + z) 7 t2.0) in
    (cc, omega (arith, ltb→lt x 5 t3.0), omega (arith, eqb→eq (y + z) 7 t2.0), omega (arith, ltb→lt y 5 t3.1))
pair_is (x ∷ (y ∷ (v ∷ vs))) i z t = absurd t

-- places in the place of weights
missing-map : (f : ℕ → ℕ) (ws : List ℕ) (gs : List (Option ℕ)) → missing (map f ws) gs ≡ map f (missing ws gs)
unfolding missing
missing-map f [] gs = refl
missing-map f (w ∷ ws) [] = refl
missing-map f (w ∷ ws) (none ∷ gs) = ap (λ (vs : List ℕ). f w ∷ vs) (missing-map f ws gs)
missing-map f (w ∷ ws) (some n ∷ gs) = missing-map f ws gs

-- only five bits count
low : (k place n : ℕ) → k % 32 / place % 2 ≡ k / place % 2 → given (has (k % 32) place) n ≡ given (has k place) n
low k place n e = ap (λ (b : ℕ). given (eqb b 1) n) e

module _ (k a b c d e : ℕ) (l : lacking k ≡ 2) where
  abbrev places : ℕ → List ℕ
  places n = missing (0 ∷ 1 ∷ 2 ∷ 3 ∷ 4 ∷ []) (five_given n a b c d e)

  tested : T (not (eqb (lacking (k % 32)) 2) || is_pair (places (k % 32)) (low_zeros (k % 32)) (high_zeros (k % 32)))
  unfolding lacking missing count_leading_zeros count_trailing_zeros
  tested = in-span (λ n. not (eqb (lacking n) 2) || is_pair (places n) (low_zeros n) (high_zeros n)) [] 0 32 tt (k % 32) (omega arith) tt zero-le (omega arith)

  pub two_places : (places (k % 32) ≡ low_zeros (k % 32) ∷ (7 - high_zeros (k % 32)) ∷ []) × (low_zeros (k % 32) < 5) × (high_zeros (k % 32) ≤ 7) × (7 - high_zeros (k % 32) < 5)
  two_places =
      pair_is (places (k % 32)) (low_zeros (k % 32)) (high_zeros (k % 32))
      (subst (λ (z : Bool). T (not z || is_pair (places (k % 32)) (low_zeros (k % 32)) (high_zeros (k % 32)))) (eq-eqb (lacking (k % 32)) 2 (five_bits k ∙ l)) tested)

  pub two_weights
      : (u v w x y : ℕ)
      → missing (u ∷ v ∷ w ∷ x ∷ y ∷ []) (five_given k a b c d e) ≡ get_or (u ∷ v ∷ w ∷ x ∷ y ∷ []) (low_zeros (k % 32)) 0 ∷ get_or (u ∷ v ∷ w ∷ x ∷ y ∷ []) (7 - high_zeros (k % 32)) 0 ∷ []
  two_weights u v w x y =
      let f : ℕ → ℕ = λ (i : ℕ). get_or (u ∷ v ∷ w ∷ x ∷ y ∷ []) i 0 in
      rw (← low k 1 a (omega arith), ← low k 2 b (omega arith), ← low k 4 c (omega arith), ← low k 8 d (omega arith), ← low k 16 e (omega arith))
      (missing-map f (0 ∷ 1 ∷ 2 ∷ 3 ∷ 4 ∷ []) (five_given (k % 32) a b c d e) ∙ ap (λ (is : List ℕ). map f is) two_places.0)

-- ---- a count that is 0 where it is missing
pub zeroed : (h : Bool) (n : ℕ) → given h (cond h n 0) ≡ given h n
zeroed true n = refl
zeroed false n = refl

pub or_zeroed : (h : Bool) (n : ℕ) → or (given h (cond h n 0)) 0 ≡ cond h n 0
unfolding or
or_zeroed true n = refl
or_zeroed false n = refl

pub zeroed_le : (h : Bool) (n m : ℕ) → or (given h n) 0 ≤ m → cond h n 0 ≤ m
unfolding or
zeroed_le true n m l = l
zeroed_le false n m l = l
