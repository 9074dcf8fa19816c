-- The walk's answer is at least as near as every split.
use Prim.Native.Nat.{ℕ, zero, suc, ◌+◌, ◌-◌, ◌*◌, ◌/◌, ◌<◌, ◌≤◌, min, zero-le}
use mathlib.Core.Path.{◌≡◌, refl, sym, ap, ◌∙◌, subst}
use mathlib.Core.Bool.{Bool, true, false, cond, ◌&&◌, ◌||◌, true≢false}
use mathlib.Core.List.Memᴰ
use mathlib.Core.List.{List, [], ◌∷◌, ◌++◌, Memᴰ, append_assoc}
use mathlib.Core.Logic.{◌⊎◌, inl, inr, ⊎_elim}
use lib.Dec.{ltb, eqb}
use lib.ListN.{length, length-append, replicate, length-replicate}
use borrow.Author.Tests.{ltb-true, ltb-false, eqb-true, lt-ltb}
use native.Mathlib.Nat.{mul-add, add-mul, mul_comm, mul-suc, mul-le-mul_left, lt-div-mul-add, div-mul-le_self, eq-or-lt_of_le, le_refl, le_trans}
use native.Mathlib.Decide.{dec_le}
use native.Mathlib.Omega.{arith}
use Rattle.score_state.specs.Points.{hits, points}
use Rattle.units.specs.Gap.{gap}
use Rattle.nearest_laws.specs.Walk.{Middle, Try, Best, stride, start, over, better, offer, settle, rows, lowest, trial, pair, settings, last_of, init_of, middles, middles_of, candidates, walk, Shares, Falling}
use Rattle.nearest_laws.proofs.Exchange.{Reduced, reduced, exchange, stride_pos}

-- ---- The walk over a list keeps the smallest distance.

pub both_true : (x y : Bool) → (x && y) ≡ true → y ≡ true
both_true true y e = e
both_true false true e = refl
both_true false false e = e

pub neither : (x y : Bool) → (x || y) ≡ false → y ≡ false
neither true y e = absurd (true≢false e)
neither false y e = e

pub either : (x y : Bool) → (x || y) ≡ true → (x ≡ true) ⊎ (y ≡ true)
either true y e = inl refl
either false y e = inr e

over_zero : (s : Best) → over s ≡ true → s.dist ≡ 0
unfolding over
over_zero s e = eqb-true s.dist 0 (both_true (ltb 0 s.tried) (eqb s.dist 0) e)

offer_new : (T : ℕ) (t : Try) (s : Best) → (offer T t s).dist ≤ gap t.points T
unfolding offer better
offer_new T t s = go (better s (gap t.points T)) refl
  where
    go : (b : Bool) → better s (gap t.points T) ≡ b → cond b (gap t.points T) s.dist ≤ gap t.points T
    go true e = omega arith
    go false e = ltb-false (gap t.points T) s.dist (neither (eqb s.tried 0) (ltb (gap t.points T) s.dist) e)

offer_old : (T : ℕ) (t : Try) (s : Best) → 0 < s.tried → (offer T t s).dist ≤ s.dist
unfolding offer better
offer_old T t s h = go (better s (gap t.points T)) refl
  where
    go : (b : Bool) → better s (gap t.points T) ≡ b → cond b (gap t.points T) s.dist ≤ s.dist
    go true e =
        ⊎_elim
        (λ (w : eqb s.tried 0 ≡ true). absurd (omega (arith, eqb-true s.tried 0 w)))
        (λ (w : ltb (gap t.points T) s.dist ≡ true). omega (arith, ltb-true (gap t.points T) s.dist w))
        (either (eqb s.tried 0) (ltb (gap t.points T) s.dist) e)
    go false e = le_refl s.dist

pub offer-tried : (T : ℕ) (t : Try) (s : Best) → (offer T t s).tried ≡ suc s.tried
unfolding offer
offer-tried T t s = refl

settle_old : (T : ℕ) (ts : List Try) (s : Best) → 0 < s.tried → (settle T ts s).dist ≤ s.dist
unfolding settle
settle_old T [] s h = le_refl s.dist
settle_old T (t ∷ ts) s h = go (over s) (settle_old T ts (offer T t s) (omega (arith, offer-tried T t s)))
  where
    go : (b : Bool) → (settle T ts (offer T t s)).dist ≤ (offer T t s).dist → (cond b s (settle T ts (offer T t s))).dist ≤ s.dist
    go true i = le_refl s.dist
    go false i = le_trans i (offer_old T t s h)

pub settle-near : (T : ℕ) (ts : List Try) (s : Best) (t : Try) → Memᴰ t ts → (settle T ts s).dist ≤ gap t.points T
unfolding settle
settle-near T (x ∷ xs) s t (Memᴰ.head e) = go (over s) refl
  where
    go : (b : Bool) → over s ≡ b → (cond b s (settle T xs (offer T x s))).dist ≤ gap t.points T
    go true o = omega (arith, over_zero s o)
    go false o =
        rw e
        (le_trans (settle_old T xs (offer T x s) (omega (arith, offer-tried T x s))) (offer_new T x s))
settle-near T (x ∷ xs) s t (Memᴰ.tail m) = go (over s) refl (settle-near T xs (offer T x s) t m)
  where
    go
        : (b : Bool) → over s ≡ b → (settle T xs (offer T x s)).dist ≤ gap t.points T
        → (cond b s (settle T xs (offer T x s))).dist ≤ gap t.points T
    go true o i = omega (arith, over_zero s o)
    go false o i = i
settle-near T [] s t x' = elim x' [ ]

-- ---- With the middles set, no a-count is nearer than lo or lo + 1.

points-at : (a c r p j : ℕ) → c < a → j ≤ r → p + a * j + c * (r - j) ≡ p + c * r + (a - c) * j
points-at a c r p j h l =
    let x : c * j + c * (r - j) ≡ c * r = sym (mul-add c j (r - j)) ∙ ap (λ (z : ℕ). c * z) (omega arith) in
    let y : c * j + (a - c) * j ≡ a * j = sym (add-mul c (a - c) j) ∙ ap (λ (z : ℕ). z * j) (omega arith) in
    omega arith

-- B is what the setting has with no hit at a, w what a hit at a adds
low_near : (B w T d lo j : ℕ) → lo ≤ d → d * w ≤ T - B → j ≤ lo → gap (B + w * lo) T ≤ gap (B + w * j) T
unfolding gap
low_near B w T d lo j ld dw jl = omega (arith, mul_comm d w, mul-le-mul_left w ld, mul-le-mul_left w jl)

high_near : (B w T lo j : ℕ) → T - B < lo * w + w → lo < j → gap (B + w * suc lo) T ≤ gap (B + w * j) T
unfolding gap
high_near B w T lo j h lj = omega (arith, mul_comm lo w, mul-suc w lo, mul-le-mul_left w lj)

pub trial-points : (a c r p : ℕ) (ks : List ℕ) (j : ℕ) → c < a → j ≤ r → (trial a c r p ks j).points ≡ p + c * r + (a - c) * j
unfolding trial
trial-points a c r p ks j h l = points-at a c r p j h l

pair-first : (a c T r p : ℕ) (ks : List ℕ) → Memᴰ (trial a c r p ks (lowest a c T r p)) (pair a c T r p ks)
unfolding pair
pair-first a c T r p ks = Memᴰ.head refl

pair-second
    : (a c T r p : ℕ) (ks : List ℕ) → lowest a c T r p < r
    → Memᴰ (trial a c r p ks (suc (lowest a c T r p))) (pair a c T r p ks)
unfolding pair
pair-second a c T r p ks h = rw (lt-ltb (lowest a c T r p) r h) (Memᴰ.tail (Memᴰ.head refl))

pub pair-near
    : (a c T r p : ℕ) (ks : List ℕ) (j : ℕ) → c < a → j ≤ r
    → (t : Try) × Memᴰ t (pair a c T r p ks) × (gap t.points T ≤ gap (p + a * j + c * (r - j)) T)
unfolding lowest
pair-near a c T r p ks j h l = go (dec_le j (lowest a c T r p))
  where
    B : ℕ
    B = p + c * r

    w : ℕ
    w = a - c

    d : ℕ
    d = (T - (p + c * r)) / (a - c)

    under : d * w ≤ T - B
    under = div-mul-le_self (T - B) w

    above : T - B < d * w + w
    above = lt-div-mul-add (omega arith)

    go
        : Dec (j ≤ lowest a c T r p)
        → (t : Try) × Memᴰ t (pair a c T r p ks) × (gap t.points T ≤ gap (p + a * j + c * (r - j)) T)
    go (yes g) =
        let lo = lowest a c T r p in (
          trial a c r p ks lo,
          pair-first a c T r p ks,
          rw (trial-points a c r p ks lo h (omega arith), points-at a c r p j h l) (low_near B w T d lo j (omega arith) under g),
        )
    go (no g) =
        let lo = lowest a c T r p in
        let e : lo ≡ d = omega arith in (
          trial a c r p ks (suc lo),
          pair-second a c T r p ks (omega arith),
          rw (trial-points a c r p ks (suc lo) h (omega arith), points-at a c r p j h l)
              (high_near B w T lo j (rw e above) (omega arith)),
        )

-- ---- Every split has a candidate at least as near.

rows-mem : (n k j : ℕ) (f : ℕ → List Try) (t : Try) → k ≤ j → j < k + n → Memᴰ t (f j) → Memᴰ t (rows n k f)
unfolding rows
rows-mem zero k j f t h l m = absurd (omega arith)
rows-mem (suc n) k j f t h l m =
    ⊎_elim
    (λ (e : k ≡ j). Memᴰ.append_left _ (subst (λ (z : ℕ). Memᴰ t (f z)) (sym e) m))
    (λ (g : k < j). Memᴰ.append_right (f k) (rows-mem n (suc k) j f t g (omega arith) m))
    (eq-or-lt_of_le h)

-- there is always a candidate
pub settings-some : (a c T : ℕ) (ms : List Middle) (r p : ℕ) (ks : List ℕ) → (t : Try) × Memᴰ t (settings a c T ms r p ks)
unfolding settings
settings-some a c T [] r p ks = (trial a c r p ks (lowest a c T r p), pair-first a c T r p ks)
settings-some a c T (m ∷ ms) r p ks =
    let f : ℕ → List Try = λ k. settings a c T ms (r - k) (p + m.weight * k) (ks ++ (k ∷ [])) in
    let i = settings-some a c T ms (r - 0) (p + m.weight * 0) (ks ++ (0 ∷ [])) in
    (i.0, rows-mem (suc (min (m.q - 1) r)) 0 0 f i.0 zero-le (omega arith) i.1)

unfoldable pub weights : List Middle → List ℕ
weights [] = []
weights (m ∷ ms) = m.weight ∷ weights ms

-- counts of the middles, each of which can be brought below its q
pub data AllReduced (a c : ℕ) : List Middle → List ℕ → Type 0 where
  none : AllReduced a c [] []
  more : {m : Middle} {ms : List Middle} {x : ℕ} {xs : List ℕ} → Reduced a c m x → AllReduced a c ms xs → AllReduced a c (m ∷ ms) (x ∷ xs)

pub settings-near
    : (a c T : ℕ) → c < a → {ms : List Middle} {xs : List ℕ} → AllReduced a c ms xs
    → (r p top rest : ℕ) (ks : List ℕ) → top + (hits xs + rest) ≡ r
    → (t : Try) × Memᴰ t (settings a c T ms r p ks) × (gap t.points T ≤ gap (p + (a * top + (points (weights ms) xs + c * rest))) T)
unfolding settings hits points weights
settings-near a c T h none r p top rest ks e =
    let n = pair-near a c T r p ks top h (omega arith) in
    let f : r - top ≡ rest = omega arith in
    let z : p + a * top + c * (r - top) ≡ p + (a * top + (0 + c * rest)) = rw f (omega arith) in
    (n.0, n.1, rw z at n.2)
settings-near a c T h (more {m = m} {ms = ms} {x = x} {xs = xs} d ds) r p top rest ks e =
    let b = m.weight in
    let k = d.kept in
    let i =
    settings-near a c T h ds (r - k) (p + b * k) (top + d.up) (rest + d.down) (ks ++ (k ∷ []))
    (omega (arith, d.hits)) in
    let z
    : p + b * k + (a * (top + d.up) + (points (weights ms) xs + c * (rest + d.down)))
    ≡ p + (a * top + (b * x + points (weights ms) xs + c * rest))
    = omega (arith, mul-add a top d.up, mul-add c rest d.down, d.points) in (
      i.0,
      rows-mem (suc (min (m.q - 1) r)) 0 k
          (λ k. settings a c T ms (r - k) (p + m.weight * k) (ks ++ (k ∷ []))) i.0 zero-le
          (omega (arith, d.few, d.hits)) i.1,
      rw z at i.2,
    )

-- ---- A list as its first elements and its last.

init_total : (y : ℕ) (ys : List ℕ) → hits (y ∷ ys) ≡ hits (init_of y ys) + last_of y ys
unfolding hits init_of last_of
init_total y [] = omega arith
init_total y (z ∷ zs) = omega (arith, init_total z zs)

init_dot
    : (b : ℕ) (bs : List ℕ) (y : ℕ) (ys : List ℕ) → length ys ≡ length bs
    → points (b ∷ bs) (y ∷ ys) ≡ points (init_of b bs) (init_of y ys) + last_of b bs * last_of y ys
unfolding points init_of last_of
init_dot b [] y [] e = omega arith
init_dot b [] y (z ∷ zs) e = absurd (omega arith)
init_dot b (d ∷ ds) y [] e = absurd (omega arith)
init_dot b (d ∷ ds) y (z ∷ zs) e = omega (arith, init_dot d ds z zs (omega arith))

pub last_lt : (a b : ℕ) (bs : List ℕ) → b < a → Falling b bs → last_of b bs < a
unfolding last_of
last_lt a b [] h f = h
last_lt a b (d ∷ ds) h f = last_lt a d ds (omega arith) f.1

weights-middles : (a c : ℕ) (bs : List ℕ) → weights (middles a c bs) ≡ bs
unfolding weights middles
weights-middles a c [] = refl
weights-middles a c (b ∷ bs) = ap (λ (l : List ℕ). b ∷ l) (weights-middles a c bs)

all_reduced
    : (a b : ℕ) (bs : List ℕ) (y : ℕ) (ys : List ℕ) → b < a → Falling b bs → length ys ≡ length bs
    → AllReduced a (last_of b bs) (middles a (last_of b bs) (init_of b bs)) (init_of y ys)
unfolding last_of init_of middles
all_reduced a b [] y [] h f e = none
all_reduced a b [] y (z ∷ zs) h f e = absurd (omega arith)
all_reduced a b (d ∷ ds) y [] h f e = absurd (omega arith)
all_reduced a b (d ∷ ds) y (z ∷ zs) h f e =
    let c = last_of d ds in
    let l : c < b = last_lt b d ds f.0 f.1 in
    more
    (reduced a c (record { weight = b; q = stride a c b }) (exchange a c b l h) (stride_pos a c b l h) y)
    (all_reduced a d ds z zs (omega arith) f.1 (omega arith))

one-near : (a g x R T : ℕ) → x ≡ R → gap (g + a * R) T ≤ gap (g + (a * x + 0)) T
one-near a g x R T e =
    let z : g + a * R ≡ g + (a * x + 0) = rw e (omega arith) in
    rw z (le_refl (gap (g + (a * x + 0)) T))

points_again
    : (a b : ℕ) (bs : List ℕ) (g x y : ℕ) (ys : List ℕ) → length ys ≡ length bs
    → g + (a * x + (points (weights (middles a (last_of b bs) (init_of b bs))) (init_of y ys) + last_of b bs * last_of y ys))
    ≡ g + points (a ∷ (b ∷ bs)) (x ∷ (y ∷ ys))
unfolding points
points_again a b bs g x y ys e = rw weights-middles (omega (arith, init_dot b bs y ys e))

pub candidates-near
    : (a : ℕ) (bs : List ℕ) → Falling a bs → (T R g : ℕ) (xs : List ℕ) → Shares (a ∷ bs) R xs
    → (t : Try) × Memᴰ t (candidates (a ∷ bs) T R g) × (gap t.points T ≤ gap (g + points (a ∷ bs) xs) T)
unfolding candidates middles_of points hits
candidates-near a bs f T R g [] s = absurd (omega arith)
candidates-near a [] f T R g (x ∷ []) s = (_, Memᴰ.head refl, one-near a g x R T (omega arith))
candidates-near a [] f T R g (x ∷ (y ∷ ys)) s = absurd (omega arith)
candidates-near a (b ∷ bs) f T R g (x ∷ []) s = absurd (omega arith)
candidates-near a (b ∷ bs) f T R g (x ∷ (y ∷ ys)) s =
    let c = last_of b bs in
    let n =
    settings-near a c T (last_lt a b bs f.0 f.1) (all_reduced a b bs y ys f.0 f.1 (omega arith)) R g x
    (last_of y ys) [] (omega (arith, init_total y ys)) in
    (n.0, n.1, rw (points_again a b bs g x y ys (omega arith)) at n.2)

-- ---- What is found is one of the candidates, and each candidate is a split with the points that it says.

pub record From (T : ℕ) (ts : List Try) (s : Best) : Type 0 where
  pub one : Try
  pub there : Memᴰ one ts
  pub counts : s.counts ≡ one.counts
  pub dist : s.dist ≡ gap one.points T

later : (T : ℕ) (t : Try) (ts : List Try) (s : Best) → From T ts s → From T (t ∷ ts) s
later T t ts s f = record { one = f.one; there = Memᴰ.tail f.there; counts = f.counts; dist = f.dist }

-- the best stays, or comes from the list
Kept : ℕ → List Try → Best → Best → Type 0
Kept T ts s r = ((r.counts ≡ s.counts) × (r.dist ≡ s.dist)) ⊎ From T ts r

offer_kept
    : (T : ℕ) (t : Try) (s : Best)
    → (((offer T t s).counts ≡ s.counts) × ((offer T t s).dist ≡ s.dist))
    ⊎ (((offer T t s).counts ≡ t.counts) × ((offer T t s).dist ≡ gap t.points T))
unfolding offer
offer_kept T t s = go (better s (gap t.points T))
  where
    go
        : (b : Bool)
        → ((cond b t.counts s.counts ≡ s.counts) × (cond b (gap t.points T) s.dist ≡ s.dist))
        ⊎ ((cond b t.counts s.counts ≡ t.counts) × (cond b (gap t.points T) s.dist ≡ gap t.points T))
    go true = inr (refl, refl)
    go false = inl (refl, refl)

settle_kept : (T : ℕ) (ts : List Try) (s : Best) → Kept T ts s (settle T ts s)
unfolding settle Kept
settle_kept T [] s = inl (refl, refl)
settle_kept T (t ∷ ts) s = go (over s) (settle_kept T ts (offer T t s)) (offer_kept T t s)
  where
    go
        : (b : Bool) → Kept T ts (offer T t s) (settle T ts (offer T t s))
        → (((offer T t s).counts ≡ s.counts) × ((offer T t s).dist ≡ s.dist))
        ⊎ (((offer T t s).counts ≡ t.counts) × ((offer T t s).dist ≡ gap t.points T))
        → Kept T (t ∷ ts) s (cond b s (settle T ts (offer T t s)))
    go true k o = inl (refl, refl)
    go false (inr f) o = inr (later T t ts (settle T ts (offer T t s)) f)
    go false (inl k) (inl o) = inl (k.0 ∙ o.0, k.1 ∙ o.1)
    go false (inl k) (inr o) = inr (record { one = t; there = Memᴰ.head refl; counts = k.0 ∙ o.0; dist = k.1 ∙ o.1 })

pub settle-found : (T : ℕ) (ts : List Try) (t : Try) → Memᴰ t ts → From T ts (settle T ts start)
unfolding settle over start offer better Kept
settle-found T [] t m = absurd (Memᴰ.not-nil m)
settle-found T (x ∷ xs) t m = go (settle_kept T xs (offer T x start))
  where
    go : Kept T xs (offer T x start) (settle T xs (offer T x start)) → From T (x ∷ xs) (settle T xs (offer T x start))
    go (inl k) = record { one = x; there = Memᴰ.head refl; counts = k.0; dist = k.1 }
    go (inr f) = later T x xs (settle T xs (offer T x start)) f

-- a candidate of a setting: top hits at a, rest at c, and js at the middles that are still to set
pub record Shape (a c : ℕ) (ms : List Middle) (r p : ℕ) (ks : List ℕ) (t : Try) : Type 0 where
  pub top : ℕ
  pub js : List ℕ
  pub rest : ℕ
  pub counts : t.counts ≡ top ∷ (ks ++ (js ++ (rest ∷ [])))
  pub long : length js ≡ length ms
  pub hits : top + (hits js + rest) ≡ r
  pub points : t.points ≡ p + (a * top + (points (weights ms) js + c * rest))

trial_shape : (a c r p : ℕ) (ks : List ℕ) (j : ℕ) (t : Try) → j ≤ r → t ≡ trial a c r p ks j → Shape a c [] r p ks t
unfolding trial weights points hits
trial_shape a c r p ks j t h e =
    record {
      top = j;
      js = [];
      rest = r - j;
      counts = ap (λ (z : Try). z.counts) e;
      long = refl;
      hits = omega arith;
      points = ap (λ (z : Try). z.points) e ∙ omega arith;
    }

pair_shape : (a c T r p : ℕ) (ks : List ℕ) (t : Try) → Memᴰ t (pair a c T r p ks) → Shape a c [] r p ks t
unfolding pair lowest
pair_shape a c T r p ks t m = ⊎_elim (trial_shape a c r p ks (lowest a c T r p) t (omega arith)) (go (ltb (lowest a c T r p) r) refl) (Memᴰ.cases_cons m)
  where
    go
        : (b : Bool) → ltb (lowest a c T r p) r ≡ b
        → Memᴰ t (cond b (trial a c r p ks (suc (lowest a c T r p)) ∷ []) [])
        → Shape a c [] r p ks t
    go true e m = trial_shape a c r p ks (suc (lowest a c T r p)) t (ltb-true (lowest a c T r p) r e) (Memᴰ.eq_of_singleton m)
    go false e m = absurd (Memᴰ.not-nil m)

rows_cases
    : (n k : ℕ) (f : ℕ → List Try) (t : Try) → Memᴰ t (rows n k f) → (j : ℕ) × (j < k + n) × Memᴰ t (f j)
unfolding rows
rows_cases zero k f t m = absurd (Memᴰ.not-nil m)
rows_cases (suc n) k f t m =
    ⊎_elim
    (λ (h : Memᴰ t (f k)). (k, omega arith, h))
    (λ (h : Memᴰ t (rows n (suc k) f)).
    let i = rows_cases n (suc k) f t h in
    (i.0, omega (arith, i.1), i.2))
    (Memᴰ.append_cases (f k) m)

pub settings_shape
    : (a c T : ℕ) (ms : List Middle) (r p : ℕ) (ks : List ℕ) (t : Try)
    → Memᴰ t (settings a c T ms r p ks) → Shape a c ms r p ks t
unfolding settings weights points hits
settings_shape a c T [] r p ks t m = pair_shape a c T r p ks t m
settings_shape a c T (m ∷ ms) r p ks t h =
    let n = suc (min (m.q - 1) r) in
    let i = rows_cases n 0 (λ k. settings a c T ms (r - k) (p + m.weight * k) (ks ++ (k ∷ []))) t h in
    let k = i.0 in
    let l : k < 0 + n = i.1 in
    let s = settings_shape a c T ms (r - k) (p + m.weight * k) (ks ++ (k ∷ [])) t i.2 in
    record {
      top = s.top;
      js = k ∷ s.js;
      rest = s.rest;
      counts = s.counts ∙ ap (λ (z : List ℕ). s.top ∷ z) (append_assoc ks (k ∷ []) (s.js ++ (s.rest ∷ [])));
      long = ap suc s.long;
      hits = omega (arith, s.hits);
      points = omega (arith, s.points);
    }

append_dot
    : (us js : List ℕ) (c rest : ℕ) → length js ≡ length us → points (us ++ (c ∷ [])) (js ++ (rest ∷ [])) ≡ points us js + c * rest
unfolding points
append_dot [] [] c rest e = omega arith
append_dot [] (j ∷ js) c rest e = absurd (omega arith)
append_dot (u ∷ us) [] c rest e = absurd (omega arith)
append_dot (u ∷ us) (j ∷ js) c rest e = omega (arith, append_dot us js c rest (omega arith))

append-total : (js : List ℕ) (rest : ℕ) → hits (js ++ (rest ∷ [])) ≡ hits js + rest
unfolding hits
append-total [] rest = omega arith
append-total (j ∷ js) rest = omega (arith, append-total js rest)

init_last : (b : ℕ) (bs : List ℕ) → init_of b bs ++ (last_of b bs ∷ []) ≡ b ∷ bs
unfolding init_of last_of
init_last b [] = refl
init_last b (d ∷ ds) = ap (λ (z : List ℕ). b ∷ z) (init_last d ds)

length_init : (b : ℕ) (bs : List ℕ) → length (init_of b bs) ≡ length bs
unfolding init_of
length_init b [] = refl
length_init b (d ∷ ds) = ap suc (length_init d ds)

length-middles : (a c : ℕ) (bs : List ℕ) → length (middles a c bs) ≡ length bs
unfolding middles
length-middles a c [] = refl
length-middles a c (b ∷ bs) = ap suc (length-middles a c bs)

dot_last
    : (b : ℕ) (bs js : List ℕ) (rest : ℕ) → length js ≡ length bs
    → points (b ∷ bs) (js ++ (rest ∷ [])) ≡ points (init_of b bs) js + last_of b bs * rest
dot_last b bs js rest e =
    ap (λ (l : List ℕ). points l (js ++ (rest ∷ []))) (sym (init_last b bs))
    ∙ append_dot (init_of b bs) js (last_of b bs) rest (e ∙ sym (length_init b bs))

pub candidates_split
    : (a : ℕ) (bs : List ℕ) (T R g : ℕ) (t : Try) → Memᴰ t (candidates (a ∷ bs) T R g)
    → Shares (a ∷ bs) R t.counts × (t.points ≡ g + points (a ∷ bs) t.counts)
unfolding candidates middles_of points hits
candidates_split a [] T R g t m =
    rw (Memᴰ.eq_of_singleton m) (record { long = refl; hits = omega arith }, omega arith)
candidates_split a (b ∷ bs) T R g t m =
    let c = last_of b bs in
    let s = settings_shape a c T (middles a c (init_of b bs)) R g [] t m in
    let l : length s.js ≡ length bs = s.long ∙ length-middles a c (init_of b bs) ∙ length_init b bs in
    let p : t.points ≡ g + (a * s.top + (points (init_of b bs) s.js + c * s.rest)) = rw weights-middles at s.points in
    rw s.counts (
      record {
        long = omega (arith, length-append s.js (s.rest ∷ []));
        hits = omega (arith, append-total s.js s.rest, s.hits);
      },
      omega (arith, dot_last b bs s.js s.rest l),
    )

-- ---- The answer.

total_zeros : (n : ℕ) → hits (replicate n 0) ≡ 0
unfolding hits
total_zeros zero = refl
total_zeros (suc n) = omega (arith, total_zeros n)

all-top : (a : ℕ) (bs : List ℕ) (R : ℕ) → Shares (a ∷ bs) R (R ∷ replicate (length bs) 0)
unfolding hits
all-top a bs R = record { long = ap suc (length-replicate (length bs) 0); hits = omega (arith, total_zeros (length bs)) }

module _ (a : ℕ) (bs : List ℕ) (f : Falling a bs) (T R g : ℕ) where
  answer : From T (candidates (a ∷ bs) T R g) (walk (a ∷ bs) T R g)
  unfolding walk
  answer =
      let n = candidates-near a bs f T R g (R ∷ replicate (length bs) 0) (all-top a bs R) in
      settle-found T (candidates (a ∷ bs) T R g) n.0 n.1

  -- it is a split, at the distance that is said
  pub walk_split : Shares (a ∷ bs) R (walk (a ∷ bs) T R g).counts
  walk_split = rw answer.counts (candidates_split a bs T R g answer.one answer.there).0

  pub walk-dist : (walk (a ∷ bs) T R g).dist ≡ gap (g + points (a ∷ bs) (walk (a ∷ bs) T R g).counts) T
  walk-dist =
      rw answer.counts
      (answer.dist ∙ ap (λ (z : ℕ). gap z T) (candidates_split a bs T R g answer.one answer.there).1)

  -- and every split is at least as far
  pub walk-near : (xs : List ℕ) → Shares (a ∷ bs) R xs → (walk (a ∷ bs) T R g).dist ≤ gap (g + points (a ∷ bs) xs) T
  unfolding walk
  walk-near xs s =
      let n = candidates-near a bs f T R g xs s in
      le_trans (settle-near T (candidates (a ∷ bs) T R g) start n.0 n.1) n.2
