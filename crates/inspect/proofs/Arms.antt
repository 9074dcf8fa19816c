-- A match on the five-bit presence value: one computed test over its 32 numbers, carried to each arm. Assumes nothing.
use mathlib.Core.Path.{◌≡◌, refl, sym, ◌∙◌, subst}
use mathlib.Core.Bool.{Bool, true, false, not, ◌&&◌, true≢false}
use mathlib.Core.List.{List, [], ◌∷◌}
use Prim.Native.Nat.{ℕ, zero, suc, ◌<◌, ◌≤◌}
use native.Mathlib.Omega.{arith}
use borrow.Author.Tests.{eq-eqb, le-leb, lt-ltb}
use lib.Dec.{T, eqb, leb, ltb, eqb→eq}
use types.Run.{OneOf, hit, miss}
use mir.Val.{has_key}

-- ---- a test of all numbers below n
abbrev imp : Bool → Bool → Bool
imp true b = b
imp false b = true

unimp : (a b : Bool) → T (imp a b) → a ≡ true → T b
unimp true b t e = t
unimp false b t e = absurd (true≢false (sym e))

first : (a b : Bool) → T (a && b) → T a
first true b t = tt
first false b t = t

second : (a b : Bool) → T (a && b) → T b
second true b t = t
second false b t = absurd t

abbrev below : ℕ → (ℕ → Bool) → Bool
below zero f = true
below (suc n) f = f n && below n f

apart : (a b : ℕ) → eqb a b ≡ false → a ≡ b → ⊥
apart a b e z = true≢false (sym (eq-eqb a b z) ∙ e)

at : (n : ℕ) (f : ℕ → Bool) → T (below n f) → (k : ℕ) → k < n → T (f k)
at zero f t k h = absurd (omega arith)
at (suc n) f t k h = go (eqb k n) refl (λ (l : k < n). at n f (second (f n) (below n f) t) k l)
  where
    go : (b : Bool) → eqb k n ≡ b → (k < n → T (f k)) → T (f k)
    go true e i = subst (λ (m : ℕ). T (f m)) (sym (eqb→eq k n (subst T (sym e) tt))) (first (f n) (below n f) t)
    go false e i = let z : k ≡ n → ⊥ = apart k n e in i (omega arith)

-- the test t passes at each of the 32 numbers that g picks
abbrev pub PassesAt : (ℕ → Bool) → (ℕ → Bool) → Type 0
PassesAt g t = T (below 32 (λ k. imp (g k) (t k)))

picked : (g t : ℕ → Bool) → PassesAt g t → (k : ℕ) → k < 32 → g k ≡ true → T (t k)
picked g t p k h e = unimp (g k) (t k) (at 32 (λ n. imp (g n) (t n)) p k h) e

-- where every number that passes is one of the keys
pub one_of : (t : ℕ → Bool) (ks : List ℕ) → PassesAt t (has_key ks) → (k : ℕ) → k < 32 → t k ≡ true → OneOf ks k
one_of t ks p k h e = hit ks k (picked t (has_key ks) p k h e)

-- ---- the facts of a match as tests
by : (b : Bool) → (T (not b) → ⊥) → b ≡ true
by true h = refl
by false h = absurd (h tt)

of_not : (b : Bool) → (T b → ⊥) → b ≡ false
of_not true h = absurd (h tt)
of_not false h = refl

-- none of the keys of a list of arms, the last arm first, as a match's `rest` has it
abbrev pub NoneOf : List (List ℕ) → ℕ → Type 0
NoneOf [] x = Unit {0}
NoneOf (ks ∷ kss) x = NoneOf kss x × (OneOf ks x → ⊥)

abbrev none_of : List (List ℕ) → ℕ → Bool
none_of [] x = true
none_of (ks ∷ kss) x = not (has_key ks x) && none_of kss x

none : (kss : List (List ℕ)) (x : ℕ) → NoneOf kss x → none_of kss x ≡ true
none [] x n = refl
none (ks ∷ kss) x n = rw (of_not (has_key ks x) (λ h. n.1 (hit ks x h)), none kss x n.0)

-- an arm that is reached by the keys ks
pub at_keys : (t : ℕ → Bool) (ks : List ℕ) → PassesAt (has_key ks) t → (k : ℕ) → k < 32 → OneOf ks k → T (t k)
at_keys t ks p k h o = picked (has_key ks) t p k h (by (has_key ks k) (λ n. miss ks k n o))

abbrev pub in_span : List (List ℕ) → ℕ → ℕ → ℕ → Bool
in_span kss lo hi k = none_of kss k && (leb lo k && ltb k hi)

-- an arm that is reached by being none of the keys, and between lo and hi
pub in-span : (t : ℕ → Bool) (kss : List (List ℕ)) (lo hi : ℕ) → PassesAt (in_span kss lo hi) t → (k : ℕ) → k < 32 → NoneOf kss k → lo ≤ k → k < hi → T (t k)
in-span t kss lo hi p k h n l u = picked (in_span kss lo hi) t p k h (rw (none kss k n, le-leb lo k l, lt-ltb k hi u))

-- ---- the value of a function at the numbers of an arm
abbrev is : (ℕ → ℕ) → ℕ → ℕ → Bool
is f v k = eqb v (f k)

pub value-at_keys : (f : ℕ → ℕ) (v : ℕ) (ks : List ℕ) → PassesAt (has_key ks) (is f v) → (k : ℕ) → k < 32 → OneOf ks k → v ≡ f k
value-at_keys f v ks p k h o = eqb→eq v (f k) (at_keys (is f v) ks p k h o)

pub value_in_span : (f : ℕ → ℕ) (v : ℕ) (kss : List (List ℕ)) (lo hi : ℕ) → PassesAt (in_span kss lo hi) (is f v) → (k : ℕ) → k < 32 → NoneOf kss k → lo ≤ k → k < hi → v ≡ f k
value_in_span f v kss lo hi p k h n l u = eqb→eq v (f k) (in-span (is f v) kss lo hi p k h n l u)
