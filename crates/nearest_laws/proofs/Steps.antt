-- The walk over a list, a step at a time, and a loop of it.
use Prim.Native.Nat.{ℕ, suc, ◌+◌, ◌-◌, ◌*◌, ◌<◌, ◌≤◌}
use mathlib.Core.Path.{◌≡◌, refl, sym, ap, ◌∙◌}
use mathlib.Core.Bool.{Bool, true, false, cond}
use mathlib.Core.List.Memᴰ
use mathlib.Core.List.{List, [], ◌∷◌, ◌++◌, Memᴰ}
use native.Mathlib.Nat.{le_refl, sub-eq-zero_of_le, zero-div, min-zero, mul-add, mul-le-mul_right}
use native.Mathlib.Numerals.{add-one}
use native.Mathlib.Omega.{arith}
use Rattle.units.specs.Gap.{gap}
use Rattle.nearest_laws.specs.Walk.{Try, Best, over, better, offer, settle, rows, lowest}
use Rattle.nearest_laws.proofs.Near.{offer-tried}

pub settle-over : (T : ℕ) (ts : List Try) (s : Best) → over s ≡ true → settle T ts s ≡ s
unfolding settle
settle-over T [] s e = refl
settle-over T (t ∷ ts) s e = rw e

pub settle_cons : (T : ℕ) (t : Try) (ts : List Try) (s : Best) → over s ≡ false → settle T (t ∷ ts) s ≡ settle T ts (offer T t s)
unfolding settle
settle_cons T t ts s e = rw e

pub settle-append : (T : ℕ) (xs ys : List Try) (s : Best) → settle T (xs ++ ys) s ≡ settle T ys (settle T xs s)
unfolding settle
settle-append T [] ys s = refl
settle-append T (x ∷ xs) ys s = go (over s) refl (settle-append T xs ys (offer T x s))
  where
    go
        : (b : Bool) → over s ≡ b → settle T (xs ++ ys) (offer T x s) ≡ settle T ys (settle T xs (offer T x s))
        → cond b s (settle T (xs ++ ys) (offer T x s)) ≡ settle T ys (cond b s (settle T xs (offer T x s)))
    go true e i = sym (settle-over T ys s e)
    go false e i = i

pub settle_mono : (T : ℕ) (ts : List Try) (s : Best) → s.tried ≤ (settle T ts s).tried
unfolding settle
settle_mono T [] s = le_refl s.tried
settle_mono T (t ∷ ts) s = go (over s) (settle_mono T ts (offer T t s))
  where
    go
        : (b : Bool) → (offer T t s).tried ≤ (settle T ts (offer T t s)).tried
        → s.tried ≤ (cond b s (settle T ts (offer T t s))).tried
    go true i = le_refl s.tried
    go false i = omega (arith, offer-tried T t s)

-- ---- A loop that runs k up to n: what is left of the rows is n - k of them, from k.

pub loop_step
    : (T n k : ℕ) (f : ℕ → List Try) (s : Best) → k < n
    → settle T (rows (n - k) k f) s ≡ settle T (rows (n - (k + 1)) (k + 1) f) (settle T (f k) s)
unfolding rows
loop_step T n k f s h =
    let e : n - k ≡ suc (n - (k + 1)) = omega arith in
    rw (e, add-one k) (settle-append T (f k) (rows (n - (suc k)) (suc k) f) s)

pub loop_end : (T n k : ℕ) (f : ℕ → List Try) (s : Best) → n ≤ k → settle T (rows (n - k) k f) s ≡ s
unfolding rows settle
loop_end T n k f s h = rw (sub-eq-zero_of_le h)

-- what the row at k tries is no more than what all that is left tries
pub loop_count : (T n k : ℕ) (f : ℕ → List Try) (s : Best) → k < n → (settle T (f k) s).tried ≤ (settle T (rows (n - k) k f) s).tried
loop_count T n k f s h = rw (loop_step T n k f s h) (settle_mono T (rows (n - (k + 1)) (k + 1) f) (settle T (f k) s))

-- ---- The lower candidate of a setting.

pub lowest-below : (a c T r p : ℕ) → T < p + c * r → 0 ≡ lowest a c T r p
unfolding lowest
lowest-below a c T r p h =
    let e : T - (p + c * r) ≡ 0 = omega arith in
    rw (e, zero-div, min-zero)

pub lowest-le : (a c T r p : ℕ) → lowest a c T r p ≤ r
unfolding lowest
lowest-le a c T r p = omega arith

-- ---- Points that fit.

pub fits-top : (a c r p M j : ℕ) → c ≤ a → p + a * r ≤ M → j ≤ r → p + (a * j + c * (r - j)) ≤ M
fits-top a c r p M j h l le =
    let z : a * (j + (r - j)) ≡ a * r = ap (λ (z : ℕ). a * z) (omega arith) in
    omega (arith, mul-le-mul_right (r - j) h, mul-add a j (r - j))

pub fits_step : (a b r p M k : ℕ) → b ≤ a → p + a * r ≤ M → k ≤ r → p + b * k + a * (r - k) ≤ M
fits_step a b r p M k h l le =
    let z : a * (k + (r - k)) ≡ a * r = ap (λ (z : ℕ). a * z) (omega arith) in
    omega (arith, mul-le-mul_right k h, mul-add a k (r - k))

-- ---- The first candidate is taken whatever stood there before.

offer-fresh : (T : ℕ) (t : Try) (s u : Best) → s.tried ≡ 0 → u.tried ≡ 0 → offer T t s ≡ offer T t u
unfolding offer better
offer-fresh T t s u e f = rw (e, f)

over-fresh : (s : Best) → s.tried ≡ 0 → over s ≡ false
unfolding over
over-fresh s e = rw e

pub settle-fresh
    : (T : ℕ) (t : Try) (ts : List Try) (s u : Best) → Memᴰ t ts → s.tried ≡ 0 → u.tried ≡ 0
    → settle T ts s ≡ settle T ts u
settle-fresh T t [] s u m e f = absurd (Memᴰ.not-nil m)
settle-fresh T t (x ∷ xs) s u m e f =
    settle_cons T x xs s (over-fresh s e)
    ∙ ap (λ (z : Best). settle T xs z) (offer-fresh T x s u e f)
    ∙ sym (settle_cons T x xs u (over-fresh u f))

-- ---- What an offer does, by the test of the code.
pub offered
    : (T d : ℕ) (t : Try) (s : Best) (b : Bool) → d ≡ gap t.points T → b ≡ better s d
    → ◌≡◌ {A = Best} (record { tried = s.tried + 1; dist = cond b d s.dist; counts = cond b t.counts s.counts }) (offer T t s)
unfolding offer
offered T d t s b ed eb = rw (eb, ed, add-one)
