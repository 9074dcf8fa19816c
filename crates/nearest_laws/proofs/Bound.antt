-- tried is at most 2 times the product of the q's.
use Prim.Native.Nat.{ℕ, zero, suc, ◌+◌, ◌-◌, ◌*◌, ◌<◌, ◌≤◌, min}
use mathlib.Core.Path.{◌≡◌, refl}
use mathlib.Core.Bool.{Bool, true, false, cond}
use mathlib.Core.List.{List, [], ◌∷◌, ◌++◌}
use lib.Dec.{ltb}
use lib.ListN.{length, length-append}
use native.Mathlib.Nat.{le_trans, suc-mul, mul-le-mul_right, mul_left_comm}
use native.Mathlib.Omega.{arith}
use Rattle.nearest_laws.specs.Walk.{Middle, Try, Best, start, over, offer, settle, rows, lowest, trial, pair, settings, last_of, init_of, middles, middles_of, product, candidates, walk, Falling, Falls}
use Rattle.nearest_laws.proofs.Exchange.{stride_pos}
use Rattle.nearest_laws.proofs.Near.{last_lt, offer-tried}

pub settle-tried : (T : ℕ) (ts : List Try) (s : Best) → (settle T ts s).tried ≤ s.tried + length ts
unfolding settle
settle-tried T [] s = omega arith
settle-tried T (t ∷ ts) s = go (over s) (settle-tried T ts (offer T t s))
  where
    go
        : (b : Bool) → (settle T ts (offer T t s)).tried ≤ (offer T t s).tried + length ts
        → (cond b s (settle T ts (offer T t s))).tried ≤ s.tried + suc (length ts)
    go true i = omega arith
    go false i = omega (arith, offer-tried T t s)

pair_two : (a c T r p : ℕ) (ks : List ℕ) → length (pair a c T r p ks) ≤ 2
unfolding pair
pair_two a c T r p ks = go (ltb (lowest a c T r p) r)
  where
    go : (b : Bool) → suc (length (cond b (trial a c r p ks (suc (lowest a c T r p)) ∷ []) [])) ≤ 2
    go true = omega arith
    go false = omega arith

rows-length : (n k M : ℕ) (f : ℕ → List Try) → ((j : ℕ) → length (f j) ≤ M) → length (rows n k f) ≤ n * M
unfolding rows
rows-length zero k M f h = omega arith
rows-length (suc n) k M f h =
    omega (arith, length-append (f k) (rows n (suc k) f), h k, rows-length n (suc k) M f h, suc-mul n M)

-- every q is at least 1
abbrev pub Strided : List Middle → Type 0
Strided [] = Unit {0}
Strided (m ∷ ms) = (0 < m.q) × Strided ms

pub settings-length
    : (a c T : ℕ) (ms : List Middle) → Strided ms → (r p : ℕ) (ks : List ℕ)
    → length (settings a c T ms r p ks) ≤ 2 * product ms
unfolding settings product
settings-length a c T [] h r p ks = pair_two a c T r p ks
settings-length a c T (m ∷ ms) h r p ks =
    let n = suc (min (m.q - 1) r) in
    let l : n ≤ m.q = omega (arith, h.0) in
    let i =
    rows-length n 0 (2 * product ms) (λ k. settings a c T ms (r - k) (p + m.weight * k) (ks ++ (k ∷ [])))
    (λ k. settings-length a c T ms h.1 (r - k) (p + m.weight * k) (ks ++ (k ∷ []))) in
    le_trans i (le_trans (mul-le-mul_right (2 * product ms) l) (omega (arith, mul_left_comm m.q 2 (product ms))))

strided : (a b : ℕ) (bs : List ℕ) → b < a → Falling b bs → Strided (middles a (last_of b bs) (init_of b bs))
unfolding middles last_of init_of
strided a b [] h f = tt
strided a b (d ∷ ds) h f =
    (stride_pos a (last_of d ds) b (last_lt b d ds f.0 f.1) h, strided a d ds (omega arith) f.1)

pub walk-tried
    : (a b : ℕ) (bs : List ℕ) → Falling a (b ∷ bs) → (T R g : ℕ)
    → (walk (a ∷ (b ∷ bs)) T R g).tried ≤ 2 * product (middles_of (a ∷ (b ∷ bs)))
unfolding walk candidates middles_of start
walk-tried a b bs f T R g =
    let c = last_of b bs in
    let ms = middles a c (init_of b bs) in
    omega (arith, settle-tried T (settings a c T ms R g []) start, settings-length a c T ms (strided a b bs f.0 f.1) R g [])

pub walk-tried-one : (a T R g : ℕ) → (walk (a ∷ []) T R g).tried ≡ 1
unfolding walk candidates settle start over offer
walk-tried-one a T R g = refl

none_tried : (T R g : ℕ) → (walk [] T R g).tried ≤ 2 * product (middles_of [])
unfolding walk candidates settle start middles_of product
none_tried T R g = omega arith

one-tried : (a T R g : ℕ) → (walk (a ∷ []) T R g).tried ≤ 2 * product (middles_of (a ∷ []))
unfolding middles_of product
one-tried a T R g = omega (arith, walk-tried-one a T R g)

-- of any missing weights that fall, one or none among them
pub walk_bound : (ws : List ℕ) → Falls ws → (T R g : ℕ) → (walk ws T R g).tried ≤ 2 * product (middles_of ws)
walk_bound [] f T R g = none_tried T R g
walk_bound (a ∷ []) f T R g = one-tried a T R g
walk_bound (a ∷ (b ∷ bs)) f T R g = walk-tried a b bs f T R g
