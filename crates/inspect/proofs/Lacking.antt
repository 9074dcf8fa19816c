-- How many of five counts are missing, by the presence number: each arm of the match on it, and what each case says. Assumes nothing.
use mathlib.Core.Path.{◌≡◌, refl, ap, sym, ◌∙◌}
use mathlib.Core.List.{List}
use Prim.Native.Nat.{ℕ, zero, suc, ◌/◌, ◌%◌, ◌<◌, ◌≤◌}
use native.Mathlib.Omega.{arith}
use lib.Dec.{eqb}
use types.Run.{OneOf}
use mir.Val.{has_key}
use Rattle.inspect.specs.Presence.{has, lacking, missing_of}
use Rattle.inspect.specs.declared.Missing.{Missing}
use Rattle.inspect.specs.declared.Missing.TheVariants.{Nothing, One, Two, ThreePlus}
use Rattle.inspect.proofs.Arms.{PassesAt, NoneOf, in_span, value-at_keys, value_in_span}

-- the cases of the enum as numbers, and back
abbrev code : Missing → ℕ
code Nothing = 0
code One = 1
code Two = 2
code ThreePlus = 3

decoded : (r : Missing) → missing_of (code r) ≡ r
decoded Nothing = refl
decoded One = refl
decoded Two = refl
decoded ThreePlus = refl

-- what a case says of the number of missing counts
pub is_nothing : (n : ℕ) → Nothing ≡ missing_of n → n ≡ 0
is_nothing zero e = refl
is_nothing (suc zero) e = absurd (omega (arith, ap code e))
is_nothing (suc (suc zero)) e = absurd (omega (arith, ap code e))
is_nothing (suc (suc (suc n))) e = absurd (omega (arith, ap code e))

pub is_one : (n : ℕ) → One ≡ missing_of n → n ≡ 1
is_one zero e = absurd (omega (arith, ap code e))
is_one (suc zero) e = refl
is_one (suc (suc zero)) e = absurd (omega (arith, ap code e))
is_one (suc (suc (suc n))) e = absurd (omega (arith, ap code e))

pub is_two : (n : ℕ) → Two ≡ missing_of n → n ≡ 2
is_two zero e = absurd (omega (arith, ap code e))
is_two (suc zero) e = absurd (omega (arith, ap code e))
is_two (suc (suc zero)) e = refl
is_two (suc (suc (suc n))) e = absurd (omega (arith, ap code e))

pub is_three_plus : (n : ℕ) → ThreePlus ≡ missing_of n → 3 ≤ n
is_three_plus zero e = absurd (omega (arith, ap code e))
is_three_plus (suc zero) e = absurd (omega (arith, ap code e))
is_three_plus (suc (suc zero)) e = absurd (omega (arith, ap code e))
is_three_plus (suc (suc (suc n))) e = omega arith

-- only five bits count
pub bit : (p k : ℕ) → p / k % 2 ≡ p % 32 / k % 2 → has p k ≡ has (p % 32) k
bit p k e = ap (λ (n : ℕ). eqb n 1) e

pub five_bits : (p : ℕ) → lacking (p % 32) ≡ lacking p
unfolding lacking
five_bits p =
    rw (bit p 1 (omega arith), bit p 2 (omega arith), bit p 4 (omega arith), bit p 8 (omega arith), bit p 16 (omega arith))

-- what a number asks for, as a number
abbrev asked : ℕ → ℕ
asked k = code (missing_of (lacking k))

back : (v : Missing) (p : ℕ) → code v ≡ asked (p % 32) → v ≡ missing_of (lacking p)
back v p e = sym (decoded v) ∙ ap missing_of e ∙ decoded (missing_of (lacking (p % 32))) ∙ ap missing_of (five_bits p)

-- an arm that is reached by the keys ks, and one by being none of the keys, and between lo and hi
pub at_keys : (v : Missing) (ks : List ℕ) → PassesAt (has_key ks) (λ k. eqb (code v) (asked k)) → (p : ℕ) → OneOf ks (p % 32) → v ≡ missing_of (lacking p)
at_keys v ks t p o = back v p (value-at_keys asked (code v) ks t (p % 32) (omega arith) o)

pub in-span : (v : Missing) (kss : List (List ℕ)) (lo hi : ℕ) → PassesAt (in_span kss lo hi) (λ k. eqb (code v) (asked k))
    → (p : ℕ) → NoneOf kss (p % 32) → lo ≤ p % 32 → p % 32 < hi → v ≡ missing_of (lacking p)
in-span v kss lo hi t p n l u = back v p (value_in_span asked (code v) kss lo hi t (p % 32) (omega arith) n l u)
