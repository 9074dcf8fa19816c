-- What demand 3 says of `tried`: it is the walk's, by the definition of `nearest`, and so large at most.
use Prim.Native.Nat.{ℕ, zero, suc, ◌+◌, ◌-◌, ◌*◌, ◌^◌, ◌≤◌, zero-le}
use mathlib.Core.Path.{◌≡◌, refl, ap, subst}
use mathlib.Core.Bool.{Bool, true, false, cond, ◌&&◌}
use mathlib.Core.List.{List, [], ◌∷◌, map}
use mathlib.Core.Option.{Option, none, some}
use lib.Dec.{eqb, leb}
use lib.ListN.{length}
use native.Mathlib.Nat.{le_trans, mul-le-mul, pow-succ', one-le-pow}
use native.Mathlib.Omega.{arith}
use borrow.Author.Tests.{leb-true}
use Rattle.score_state.specs.Points.{standard}
use Rattle.score_state.specs.Given.{missing, given_hits, given_points}
use Rattle.nearest_laws.specs.Walk.{gcd_in, gcd, stride, last_of, init_of, middles, middles_of, product, Falling}
use Rattle.nearest_laws.specs.Nearest.{Weighting, standard-weighting, fold, Found, found, nearest}
use Rattle.nearest_laws.proofs.Near.{both_true}
use Rattle.nearest_laws.proofs.Exchange.{stride-le}
use Rattle.nearest_laws.proofs.Bound.{walk_bound}
use Rattle.nearest_laws.proofs.Nearest.{weighting_falls, falls, answered, and-true}

-- "at most 2 times the product of the q's"
pub nearest-tried
    : (ws : List ℕ) (gs : List (Option ℕ)) (T remain : ℕ) (f : Found) → Weighting ws
    → nearest ws gs T remain ≡ some f → f.tried ≤ 2 * product (middles_of (missing ws (fold ws gs)))
unfolding found
nearest-tried ws gs T remain f w e =
    let a = answered ws gs T remain f e in
    rw (← a.1)
    (walk_bound (missing ws (fold ws gs)) (falls 101 (missing ws (fold ws gs)) (weighting_falls ws gs w)) T (remain - given_hits gs)
    (given_points ws gs))

-- ---- "(non-classic all missing: 51, 17, 51, so 88,434)": no set of given counts has more, computed over all 32.

-- a test of every way to have n counts given or missing, with 0 for a given one
unfoldable every : ℕ → (List (Option ℕ) → Bool) → Bool
every zero t = t []
every (suc n) t = every n (λ gs. t (none ∷ gs)) && every n (λ gs. t (some 0 ∷ gs))

abbrev blank : Option ℕ → Option ℕ
blank none = none
blank (some n) = some 0

every_at : (n : ℕ) (t : List (Option ℕ) → Bool) → every n t ≡ true → (gs : List (Option ℕ)) → length gs ≡ n → t (map blank gs) ≡ true
unfolding every
every_at zero t e [] l = e
every_at zero t e (g ∷ gs) l = absurd (omega arith)
every_at (suc n) t e [] l = absurd (omega arith)
every_at (suc n) t e (none ∷ gs) l = every_at n (λ hs. t (none ∷ hs)) (and-true (every n (λ hs. t (none ∷ hs))) _ e) gs (omega arith)
every_at (suc n) t e (some m ∷ gs) l = every_at n (λ hs. t (some 0 ∷ hs)) (both_true (every n (λ hs. t (none ∷ hs))) _ e) gs (omega arith)

-- which weights are missing does not hang on the given numbers
missing-blank : (ws : List ℕ) (gs : List (Option ℕ)) → missing ws (map blank gs) ≡ missing ws gs
unfolding missing
missing-blank [] gs = refl
missing-blank (w ∷ ws) [] = refl
missing-blank (w ∷ ws) (none ∷ gs) = ap (λ (l : List ℕ). w ∷ l) (missing-blank ws gs)
missing-blank (w ∷ ws) (some n ∷ gs) = missing-blank ws gs

fold-blank : (ws : List ℕ) (gs : List (Option ℕ)) → missing ws (fold ws (map blank gs)) ≡ missing ws (fold ws gs)
unfolding fold missing
fold-blank [] gs = refl
fold-blank (w ∷ []) gs = missing-blank (w ∷ []) gs
fold-blank (w ∷ (v ∷ ws)) [] = refl
fold-blank (w ∷ (v ∷ ws)) (some n ∷ gs) = missing-blank (v ∷ ws) gs
fold-blank (w ∷ (v ∷ ws)) (none ∷ []) = refl
fold-blank (w ∷ (v ∷ ws)) (none ∷ (some n ∷ gs)) = ap (λ (l : List ℕ). w ∷ l) (missing-blank ws gs)
fold-blank (w ∷ (v ∷ ws)) (none ∷ (none ∷ gs)) = go (eqb w v)
  where
    go
        : (b : Bool)
        → missing (w ∷ (v ∷ ws)) (cond b (none ∷ (some 0 ∷ map blank gs)) (none ∷ (none ∷ map blank gs)))
        ≡ missing (w ∷ (v ∷ ws)) (cond b (none ∷ (some 0 ∷ gs)) (none ∷ (none ∷ gs)))
    go true = ap (λ (l : List ℕ). w ∷ l) (missing-blank ws gs)
    go false = ap (λ (l : List ℕ). w ∷ (v ∷ l)) (missing-blank ws gs)

abbrev few : Bool → List (Option ℕ) → Bool
few classic gs = leb (2 * product (middles_of (missing (standard classic) (fold (standard classic) gs)))) 88_434

all-few : (classic : Bool) → every 5 (few classic) ≡ true
unfolding every missing fold product middles_of middles last_of init_of stride gcd gcd_in
all-few true = refl
all-few false = refl

pub tried-standard
    : (classic : Bool) (gs : List (Option ℕ)) (T remain : ℕ) (f : Found) → length gs ≡ 5
    → nearest (standard classic) gs T remain ≡ some f → f.tried ≤ 88_434
tried-standard classic gs T remain f five e =
    let ws = standard classic in
    let n = leb-true (2 * product (middles_of (missing ws (fold ws (map blank gs))))) 88_434 (every_at 5 (few classic) (all-few classic) gs five) in
    le_trans (nearest-tried ws gs T remain f (standard-weighting classic) e)
    (subst (λ (l : List ℕ). 2 * product (middles_of l) ≤ 88_434) (fold-blank ws gs) n)

-- ---- For every weighting: three middles at most, and each q at most 99.

missing-le : (ws : List ℕ) (gs : List (Option ℕ)) → length (missing ws gs) ≤ length ws
unfolding missing
missing-le [] gs = zero-le
missing-le (w ∷ ws) [] = zero-le
missing-le (w ∷ ws) (none ∷ gs) = omega (arith, missing-le ws gs)
missing-le (w ∷ ws) (some n ∷ gs) = omega (arith, missing-le ws gs)

-- one more 99 for each middle
power : (b : ℕ) (bs : List ℕ) (a c n : ℕ) → a ≤ c + 99 → length bs ≤ n → product (middles a c (init_of b bs)) ≤ 99 ^ n
unfolding product middles init_of
power b [] a c n h l = one-le-pow n 99 (omega arith)
power b (d ∷ ds) a c zero h l = absurd (omega arith)
power b (d ∷ ds) a c (suc n) h l =
    let s : stride a c b ≤ 99 = omega (arith, stride-le a c b) in
    le_trans (mul-le-mul s (power d ds a c n h (omega arith))) (omega (arith, pow-succ' 99 n))

-- every weight is at least 1
abbrev Heavy : List ℕ → Type 0
Heavy [] = Unit {0}
Heavy (w ∷ ws) = (1 ≤ w) × Heavy ws

missing-heavy : (ws : List ℕ) (gs : List (Option ℕ)) → Heavy ws → Heavy (missing ws gs)
unfolding missing
missing-heavy [] gs h = tt
missing-heavy (w ∷ ws) [] h = tt
missing-heavy (w ∷ ws) (none ∷ gs) h = (h.0, missing-heavy ws gs h.1)
missing-heavy (w ∷ ws) (some n ∷ gs) h = missing-heavy ws gs h.1

last_heavy : (b : ℕ) (bs : List ℕ) → 1 ≤ b → Heavy bs → 1 ≤ last_of b bs
unfolding last_of
last_heavy b [] h k = h
last_heavy b (d ∷ ds) h k = last_heavy d ds k.0 k.1

weighting-heavy : (ws : List ℕ) → Weighting ws → Heavy ws
weighting-heavy ws w =
    rw w.five (
      omega (arith, w.perfect, w.great, w.good, w.ok, w.meh),
      (
        omega (arith, w.great, w.good, w.ok, w.meh),
        (omega (arith, w.good, w.ok, w.meh), (omega (arith, w.ok, w.meh), (w.meh, tt))),
      ),
    )

bound : (ws : List ℕ) → Falling 101 ws → Heavy ws → length ws ≤ 5 → 2 * product (middles_of ws) ≤ 1_940_598
unfolding middles_of product
bound [] f h l = omega arith
bound (a ∷ []) f h l = omega arith
bound (a ∷ (b ∷ bs)) f h l =
    let c = last_heavy b bs h.1.0 h.1.1 in
    let p = power b bs a (last_of b bs) 3 (omega (arith, f.0, c)) (omega arith) in
    omega (arith, p)

pub tried_any
    : (ws : List ℕ) (gs : List (Option ℕ)) (T remain : ℕ) (f : Found) → Weighting ws
    → nearest ws gs T remain ≡ some f → f.tried ≤ 1_940_598
tried_any ws gs T remain f w e =
    let l = missing-le ws (fold ws gs) in
    let n = ap length w.five in
    le_trans (nearest-tried ws gs T remain f w e)
    (bound (missing ws (fold ws gs)) (weighting_falls ws gs w) (missing-heavy ws (fold ws gs) (weighting-heavy ws w)) (omega (arith, l, n)))
