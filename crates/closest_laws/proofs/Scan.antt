-- A search for the first least distance, and when the first two values of its loop are enough. Assumes nothing.
use Prim.Native.Nat.{ℕ, zero, suc, ◌+◌, ◌-◌, ◌<◌, ◌≤◌, min}
use mathlib.Core.Path.{◌≡◌, refl, sym, ap, ◌∙◌, subst}
use mathlib.Core.Bool.{Bool, true, false, cond, true≢false}
use mathlib.Core.Logic.{◌⊎◌, inl, inr}
use mathlib.Core.List.Memᴰ
use mathlib.Core.List.{List, [], ◌∷◌, ◌++◌, Memᴰ}
use native.Mathlib.Decide.{dec_le}
use native.Mathlib.Omega.{arith}
use Rattle.closest_laws.specs.Loops.{Kept, from, range, first_two, each, offer, scan}

-- ---- the values of a loop
pub mem-from : (k n x : ℕ) → Memᴰ x (from k n) → (k ≤ x) × (x < k + n)
unfolding from
mem-from k zero x m = absurd (Memᴰ.not-nil m)
mem-from k (suc n) x (Memᴰ.head e) = omega arith
mem-from k (suc n) x (Memᴰ.tail m) = let h = mem-from (suc k) n x m in omega arith

pub mem-range : (lo hi x : ℕ) → Memᴰ x (range lo hi) → (lo ≤ x) × (x ≤ hi)
unfolding range
mem-range lo hi x m = let h = mem-from lo (suc hi - lo) x m in omega arith

pub from-mem : (k n x : ℕ) → k ≤ x → x < k + n → Memᴰ x (from k n)
unfolding from
from-mem k zero x h l = absurd (omega arith)
from-mem k (suc n) x h l = go (dec_le (suc k) x) (λ (g : suc k ≤ x). from-mem (suc k) n x g (omega arith))
  where
    go : Dec (suc k ≤ x) → (suc k ≤ x → Memᴰ x (from (suc k) n)) → Memᴰ x (k ∷ from (suc k) n)
    go (yes g) i = Memᴰ.tail (i g)
    go (no g) i = let e : x ≡ k = omega arith in Memᴰ.head e

pub range-mem : (lo hi x : ℕ) → lo ≤ x → x ≤ hi → Memᴰ x (range lo hi)
unfolding range
range-mem lo hi x h l = from-mem lo (suc hi - lo) x h (omega arith)

pub range-first : (lo hi : ℕ) → lo ≤ hi → Memᴰ lo (range lo hi)
range-first lo hi h = range-mem lo hi lo (omega arith) h

pub mem_two : (lo hi x : ℕ) → Memᴰ x (first_two lo hi) → (lo ≤ x) × (x ≤ hi)
unfolding first_two
mem_two lo hi x m = let h = mem-range lo (min hi (suc lo)) x m in omega arith

pub two_first : (lo hi : ℕ) → lo ≤ hi → Memᴰ lo (first_two lo hi)
unfolding first_two
two_first lo hi h = range-first lo (min hi (suc lo)) (omega arith)

pub mem-each : {X A : Type 0} (xs : List X) (f : X → List A) (u : A) → Memᴰ u (each xs f) → (x : X) × Memᴰ x xs × Memᴰ u (f x)
unfolding each
mem-each [] f u m = absurd (Memᴰ.not-nil m)
mem-each {X} {A} (x ∷ xs) f u m = go (mem-each xs f u) (Memᴰ.append_cases (f x) m)
  where
    go
        : (Memᴰ u (each xs f) → (y : X) × Memᴰ y xs × Memᴰ u (f y)) → Memᴰ u (f x) ⊎ Memᴰ u (each xs f)
        → (y : X) × Memᴰ y (x ∷ xs) × Memᴰ u (f y)
    go i (inl h) = (x, Memᴰ.head refl, h)
    go i (inr h) = let j = i h in (j.0, Memᴰ.tail j.1, j.2)

pub each-mem : {X A : Type 0} (xs : List X) (f : X → List A) (u : A) (x : X) → Memᴰ x xs → Memᴰ u (f x) → Memᴰ u (each xs f)
unfolding each
each-mem (y ∷ ys) f u x (Memᴰ.head e) h = Memᴰ.append_left (each ys f) (subst (λ z. Memᴰ u (f z)) e h)
each-mem (y ∷ ys) f u x (Memᴰ.tail m) h = Memᴰ.append_right (f y) (each-mem ys f u x m h)
each-mem {X = X} {A = A} [] f u x x4 h = elim x4 [ ]

-- ---- any test of two distances
module _ {K A : Type 0} (less : K → K → Bool) where
  pub scan-append : (xs ys : List (Kept K A)) (b : Kept K A) → scan less (xs ++ ys) b ≡ scan less ys (scan less xs b)
  unfolding scan
  scan-append [] ys b = refl
  scan-append (x ∷ xs) ys b = scan-append xs ys (offer less x b)

  -- loops whose bodies do the same
  pub scan-each
      : {X : Type 0} (xs : List X) (f g : X → List (Kept K A))
      → ((x : X) → Memᴰ x xs → (b : Kept K A) → scan less (f x) b ≡ scan less (g x) b)
      → (b : Kept K A) → scan less (each xs f) b ≡ scan less (each xs g) b
  unfolding each
  scan-each [] f g h b = refl
  scan-each (x ∷ xs) f g h b =
      scan-append (f x) (each xs f) b
      ∙ ap (λ z. scan less (each xs f) z) (h x (Memᴰ.head refl) b)
      ∙ scan-each xs f g (λ y m. h y (Memᴰ.tail m)) (scan less (g x) b)
      ∙ sym (scan-append (g x) (each xs g) b)

  -- candidates that are not below the best so far change nothing
  idle : (ts : List (Kept K A)) (b : Kept K A) → ((t : Kept K A) → Memᴰ t ts → less t.dist b.dist ≡ false) → scan less ts b ≡ b
  unfolding scan offer
  idle [] b h = refl
  idle (t ∷ ts) b h =
      ap (λ (z : Bool). scan less ts (cond z t b)) (h t (Memᴰ.head refl)) ∙ idle ts b (λ u m. h u (Memᴰ.tail m))

  -- what holds of the start and of every candidate holds of the best
  pub scan-all
      : (P : Kept K A → Type 0) (ts : List (Kept K A)) (b : Kept K A) → P b → ((t : Kept K A) → Memᴰ t ts → P t) → P (scan less ts b)
  unfolding scan offer
  scan-all P [] b h f = h
  scan-all P (t ∷ ts) b h f = scan-all P ts (cond (less t.dist b.dist) t b) (go (less t.dist b.dist)) (λ u m. f u (Memᴰ.tail m))
    where
      go : (x : Bool) → P (cond x t b)
      go true = f t (Memᴰ.head refl)
      go false = h

  -- with a strict order
  module _ (irrefl : (k : K) → less k k ≡ false) (trans : (j k l : K) → less j k ≡ true → less k l ≡ true → less j l ≡ true) where
    -- k is not below the best: no offer changes that, and an offer of k brings it about
    offer-keeps : (k : K) (t b : Kept K A) → less k b.dist ≡ false → less k (offer less t b).dist ≡ false
    unfolding offer
    offer-keeps k t b h = go (less t.dist b.dist) refl
      where
        below : (x : Bool) → less t.dist b.dist ≡ true → less k t.dist ≡ x → x ≡ false
        below true e f = absurd (true≢false (sym (trans k t.dist b.dist f e) ∙ h))
        below false e f = refl

        go : (x : Bool) → less t.dist b.dist ≡ x → less k (cond x t b).dist ≡ false
        go true e = below (less k t.dist) e refl
        go false e = h

    offer-made : (t b : Kept K A) → less t.dist (offer less t b).dist ≡ false
    unfolding offer
    offer-made t b = go (less t.dist b.dist) refl
      where
        go : (x : Bool) → less t.dist b.dist ≡ x → less t.dist (cond x t b).dist ≡ false
        go true e = irrefl t.dist
        go false e = e

    scan-keeps : (k : K) (ts : List (Kept K A)) (b : Kept K A) → less k b.dist ≡ false → less k (scan less ts b).dist ≡ false
    unfolding scan
    scan-keeps k [] b h = h
    scan-keeps k (t ∷ ts) b h = scan-keeps k ts (offer less t b) (offer-keeps k t b h)

    pub scan-made : (t : Kept K A) (ts : List (Kept K A)) (b : Kept K A) → Memᴰ t ts → less t.dist (scan less ts b).dist ≡ false
    unfolding scan
    scan-made t (u ∷ us) b (Memᴰ.head e) =
        scan-keeps t.dist us (offer less u b) (rw e (offer-made u b))
    scan-made t (u ∷ us) b (Memᴰ.tail m) = scan-made t us (offer less u b) m
    scan-made t [] b x' = elim x' [ ]

    -- The second value offers a candidate t, and every later one only what is below nothing that t is not below.
    abbrev pub Enough : (ℕ → List (Kept K A)) → ℕ → ℕ → Type 0
    Enough f lo hi =
        (t : Kept K A) × Memᴰ t (f (suc lo))
        × ((n : ℕ) → suc lo < n → n ≤ hi → (u : Kept K A) → Memᴰ u (f n) → (z : K) → less u.dist z ≡ true → less t.dist z ≡ true)

    rest_idle
        : (f : ℕ → List (Kept K A)) (lo hi : ℕ) → suc lo < hi → Enough f lo hi → (b : Kept K A)
        → scan less (each (from (suc (suc lo)) (hi - suc lo)) f) (scan less (f (suc lo)) b) ≡ scan less (f (suc lo)) b
    rest_idle f lo hi l e b =
        idle (each (from (suc (suc lo)) (hi - suc lo)) f) (scan less (f (suc lo)) b)
        (λ u m.
        let i = mem-each (from (suc (suc lo)) (hi - suc lo)) f u m in
        let j = mem-from (suc (suc lo)) (hi - suc lo) i.0 i.1 in
        go u (less u.dist (scan less (f (suc lo)) b).dist) refl
        (e.2 i.0 (omega arith) (omega arith) u i.2 (scan less (f (suc lo)) b).dist))
      where
        go
            : (u : Kept K A) (x : Bool) → less u.dist (scan less (f (suc lo)) b).dist ≡ x
            → (less u.dist (scan less (f (suc lo)) b).dist ≡ true → less e.0.dist (scan less (f (suc lo)) b).dist ≡ true)
            → x ≡ false
        go u true q h = absurd (true≢false (sym (h q) ∙ scan-made e.0 (f (suc lo)) b e.1))
        go u false q h = refl

    pub two_enough
        : (f : ℕ → List (Kept K A)) (lo hi : ℕ) → (suc lo < hi → Enough f lo hi) → (b : Kept K A)
        → scan less (each (range lo hi) f) b ≡ scan less (each (first_two lo hi) f) b
    unfolding first_two range from each scan
    two_enough f lo hi e b = go (dec_le hi (suc lo))
      where
        go : Dec (hi ≤ suc lo) → scan less (each (from lo (suc hi - lo)) f) b ≡ scan less (each (from lo (suc (min hi (suc lo)) - lo)) f) b
        go (yes h) = ap (λ (z : ℕ). scan less (each (from lo (suc z - lo)) f) b) (omega arith)
        go (no h) =
            let l : suc lo < hi = omega arith in
            let p : suc hi - lo ≡ suc (suc (hi - suc lo)) = omega arith in
            let q : suc (min hi (suc lo)) - lo ≡ suc (suc zero) = omega arith in
            ap (λ (z : ℕ). scan less (each (from lo z) f) b) p
            ∙ scan-append (f lo) (f (suc lo) ++ each (from (suc (suc lo)) (hi - suc lo)) f) b
            ∙ scan-append (f (suc lo)) (each (from (suc (suc lo)) (hi - suc lo)) f) (scan less (f lo) b)
            ∙ rest_idle f lo hi l (e l) (scan less (f lo) b)
            ∙ sym (scan-append (f (suc lo)) [] (scan less (f lo) b))
            ∙ sym (scan-append (f lo) (f (suc lo) ++ []) b)
            ∙ ap (λ (z : ℕ). scan less (each (from lo z) f) b) (sym q)
