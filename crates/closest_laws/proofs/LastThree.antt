-- optimize_last_three: its loop over the first two values, its hits, and its points where the target is passed already. Assumes nothing.
use Prim.Native.Nat.{ℕ, suc, ◌+◌, ◌-◌, ◌*◌, ◌/◌, ◌<◌, ◌≤◌, min}
use mathlib.Core.Path.{◌≡◌, refl, sym, ap, ◌∙◌, subst}
use mathlib.Core.Bool.{Bool, true, false, cond, false≢true}
use mathlib.Core.Option.{Option, none, some}
use mathlib.Core.List.Memᴰ
use mathlib.Core.List.{[], ◌∷◌}
use native.Mathlib.Nat.{le_refl, lt_of_le_of_lt, lt_trans}
use native.Mathlib.Decide.{dec_le}
use native.Mathlib.Omega.{arith}
use borrow.Author.Tests.{lt-ltb, le-ltb, ltb-true}
use lib.Ieee.Nearest.{closest}
use Rattle.units.specs.Gap.{gap}
use Rattle.score_state.specs.Given.{or}
use Rattle.closest_laws.specs.Loops.{Kept, from, range, first_two, each, offer, scan, nearer}
use Rattle.rounding.specs.Quotient.{rounded_up}
use Rattle.closest_laws.specs.Closest.{Last, last_at, plain_optimize_last_three}
use Rattle.rounding.proofs.Floats.{closest_by}
use Rattle.closest_laws.proofs.Scan.{mem-each, mem_two, scan-all, two_enough}

-- ---- the order of whole distances
pub nearer_self : (d : Option ℕ) → nearer d d ≡ false
unfolding nearer
nearer_self none = refl
nearer_self (some d) = le-ltb d d (le_refl d)

pub nearer_trans : (d e f : Option ℕ) → nearer d e ≡ true → nearer e f ≡ true → nearer d f ≡ true
unfolding nearer
nearer_trans none e f h k = h
nearer_trans (some d) none f h k = absurd (false≢true k)
nearer_trans (some d) (some e) none h k = refl
nearer_trans (some d) (some e) (some f) h k = lt-ltb d f (lt_trans (ltb-true d e h) (ltb-true e f k))

nearer-le : (d e : ℕ) (z : Option ℕ) → d ≤ e → nearer (some e) z ≡ true → nearer (some d) z ≡ true
unfolding nearer
nearer-le d e none h k = refl
nearer-le d e (some z) h k = lt-ltb d z (lt_of_le_of_lt h (ltb-true e z k))

-- ---- rounding by 10
abbrev Near : ℕ → ℕ → Type 0
Near c v = (10 * c ≤ v + 5) × (v ≤ 10 * c + 5)

near : (v : ℕ) → Near (closest v 10) v
near v = go (dec_le (v * 2) ((2 * (v / 10) + 1) * 10)) (dec_le ((2 * (v / 10) + 1) * 10) (v * 2))
  where
    go : Dec (v * 2 ≤ (2 * (v / 10) + 1) * 10) → Dec ((2 * (v / 10) + 1) * 10 ≤ v * 2) → Near (closest v 10) v
    go (yes h) (yes k) = let e = (closest_by v 10).2 (omega arith) in omega arith
    go (yes h) (no k) = let e = (closest_by v 10).0 (omega arith) in omega arith
    go (no h) k = let e = (closest_by v 10).1 (omega arith) in omega arith

-- ---- the loop over n200
-- n of r hits are n200, and c of the rest n100 by rounding
abbrev pub sum_of : ℕ → ℕ → ℕ → ℕ → ℕ
sum_of A r n c = A + (40 * n + 20 * min (r - n) c + 10 * (r - n - min (r - n) c))

-- from the second value on the room does not cut c
fits : (A T r n c : ℕ) → n ≤ r → T < A + 20 * r + 20 * n → Near c (T - (A + 40 * n + 10 * (r - n))) → c ≤ r - n
fits A T r n c l h k = omega arith

sum_is : (A r n c : ℕ) → n ≤ r → c ≤ r - n → sum_of A r n c ≡ A + 10 * r + 30 * n + 10 * c
sum_is A r n c l h = let e : min (r - n) c ≡ c = omega arith in rw e (omega arith)

base_is : (A r n : ℕ) → n ≤ r → A + 40 * n + 10 * (r - n) ≡ A + 10 * r + 30 * n
base_is A r n l = omega arith

-- B and B + 30 d are two bases, v and v' what is missing of the target, c and c' the tens that are added
rise_below : (B T c e d : ℕ) → T < B → Near c (T - B) → gap (B + 10 * c) T ≤ gap (B + 30 * d + 10 * e) T
unfolding gap
rise_below B T c e d h n =
    let z : c ≡ 0 = omega arith in
    omega arith

ten_best : (c k v : ℕ) → Near c v → gap (10 * c) v ≤ gap (10 * k) v
unfolding gap
ten_best c k v n = go (dec_le k c) (dec_le c k)
  where
    go : Dec (k ≤ c) → Dec (c ≤ k) → (10 * c - v) + (v - 10 * c) ≤ (10 * k - v) + (v - 10 * k)
    go (yes h) (yes l) = let e : c ≡ k = omega arith in rw e (le_refl ((10 * k - v) + (v - 10 * k)))
    go (yes h) (no l) = omega arith
    go (no h) l = omega arith

gap_shift : (B x v : ℕ) → gap (B + x) (B + v) ≡ gap x v
unfolding gap
gap_shift B x v = omega arith

rise_above : (B T c e d : ℕ) → B ≤ T → Near c (T - B) → gap (B + 10 * c) T ≤ gap (B + 30 * d + 10 * e) T
rise_above B T c e d h n =
    let t : T ≡ B + (T - B) = omega arith in
    let k : B + 30 * d + 10 * e ≡ B + 10 * (3 * d + e) = omega arith in
    let q : gap (B + 10 * c) (B + (T - B)) ≤ gap (B + 10 * (3 * d + e)) (B + (T - B)) =
    rw (gap_shift B (10 * c) (T - B), gap_shift B (10 * (3 * d + e)) (T - B)) (ten_best c (3 * d + e) (T - B) n) in
    rw k (subst (λ (z : ℕ). gap (B + 10 * c) z ≤ gap (B + 10 * (3 * d + e)) z) (sym t) q)

rise : (B T c e d : ℕ) → Near c (T - B) → gap (B + 10 * c) T ≤ gap (B + 30 * d + 10 * e) T
rise B T c e d n = go (dec_le B T)
  where
    go : Dec (B ≤ T) → gap (B + 10 * c) T ≤ gap (B + 30 * d + 10 * e) T
    go (yes h) = rise_above B T c e d h n
    go (no h) = rise_below B T c e d (omega arith) n

-- the third value and later ones are no nearer than the second
later
    : (A T r m n c e : ℕ) → m < n → n ≤ r → T < A + 20 * r + 20 * m
    → Near c (T - (A + 40 * m + 10 * (r - m))) → Near e (T - (A + 40 * n + 10 * (r - n)))
    → gap (sum_of A r m c) T ≤ gap (sum_of A r n e) T
later A T r m n c e mn nr h nc ne =
    let fc : c ≤ r - m = fits A T r m c (omega arith) h nc in
    let fe : e ≤ r - n = fits A T r n e nr (omega arith) ne in
    let b : A + 40 * m + 10 * (r - m) ≡ A + 10 * r + 30 * m = base_is A r m (omega arith) in
    let q : A + 10 * r + 30 * n ≡ A + 10 * r + 30 * m + 30 * (n - m) = omega arith in
    rw (sum_is A r m c (omega arith) fc, sum_is A r n e nr fe, q)
    (rise (A + 10 * r + 30 * m) T c e (n - m) (subst (λ (z : ℕ). Near c (T - z)) b nc))

abbrev low200 : ℕ → ℕ → ℕ → ℕ
low200 r A T = (T - (A + 20 * r)) / 20

abbrev high200 : ℕ → ℕ → ℕ → ℕ
high200 r A T = min r (rounded_up (T - A) 40 + 1)

abbrev none200 : ℕ → Kept (Option ℕ) Last
none200 r = record { dist = none; result = record { n200 = 0; n100 = 0; n50 = r } }

second-passes : (A T r : ℕ) → T < A + 20 * r + 20 * suc (low200 r A T)
second-passes A T r = omega arith

loop_same
    : (r A T : ℕ)
    → scan nearer (each (range (low200 r A T) (high200 r A T)) (λ n. last_at r A T n ∷ [])) (none200 r)
    ≡ scan nearer (each (first_two (low200 r A T) (high200 r A T)) (λ n. last_at r A T n ∷ [])) (none200 r)
unfolding last_at
loop_same r A T =
    two_enough nearer nearer_self nearer_trans (λ n. last_at r A T n ∷ []) (low200 r A T) (high200 r A T)
    (λ l. (
      last_at r A T (suc (low200 r A T)),
      Memᴰ.head refl,
      λ n ln nh u m z k.
          let e : u ≡ last_at r A T n = Memᴰ.eq_of_singleton m in
          nearer-le (gap (sum_of A r (suc (low200 r A T)) (closest (T - (A + 40 * suc (low200 r A T) + 10 * (r - suc (low200 r A T)))) 10)) T)
          (gap (sum_of A r n (closest (T - (A + 40 * n + 10 * (r - n))) 10)) T) z
          (later A T r (suc (low200 r A T)) n (closest (T - (A + 40 * suc (low200 r A T) + 10 * (r - suc (low200 r A T)))) 10) (closest (T - (A + 40 * n + 10 * (r - n))) 10)
          ln (omega arith) (second-passes A T r) (near _) (near _))
          (subst (λ (x : Kept (Option ℕ) Last). nearer x.dist z ≡ true) e k),
    ))
    (none200 r)

pub last_same : (a b c : Option ℕ) (r A T : ℕ) → plain_optimize_last_three range a b c r A T ≡ plain_optimize_last_three first_two a b c r A T
unfolding plain_optimize_last_three
last_same (some a) (some b) (some c) r A T = refl
last_same (some a) (some b) none r A T = refl
last_same (some a) none (some c) r A T = refl
last_same none (some b) (some c) r A T = refl
last_same (some a) none none r A T = refl
last_same none (some b) none r A T = refl
last_same none none (some c) r A T = refl
last_same none none none r A T = ap (λ (x : Kept (Option ℕ) Last). x.result) (loop_same r A T)

-- ---- its hits: all that are left, where one of the three is missing
abbrev pub Open : Option ℕ → Option ℕ → Option ℕ → Type 0
Open none b c = Unit {0}
Open (some a) none c = Unit {0}
Open (some a) (some b) none = Unit {0}
Open (some a) (some b) (some c) = ⊥

abbrev pub sized : Last → ℕ
sized l = l.n200 + l.n100 + l.n50

abbrev pub space_of : Option ℕ → Option ℕ → Option ℕ → ℕ
space_of a b c = or a 0 + or b 0 + or c 0

last_whole : (r A T n : ℕ) → n ≤ r → sized (last_at r A T n).result ≡ r
unfolding last_at
last_whole r A T n l = omega arith

pub last_hits : (a b c : Option ℕ) (r A T : ℕ) → Open a b c → space_of a b c ≤ r → sized (plain_optimize_last_three first_two a b c r A T) ≡ r
unfolding plain_optimize_last_three or
last_hits (some a) (some b) (some c) r A T o h = absurd o
last_hits (some a) (some b) none r A T o h = omega arith
last_hits (some a) none (some c) r A T o h = omega arith
last_hits none (some b) (some c) r A T o h = omega arith
last_hits (some a) none none r A T o h = omega arith
last_hits none (some b) none r A T o h = omega arith
last_hits none none (some c) r A T o h = omega arith
last_hits none none none r A T o h =
    scan-all nearer (λ x. sized x.result ≡ r) (each (first_two (low200 r A T) (high200 r A T)) (λ n. last_at r A T n ∷ [])) (none200 r) (omega arith)
    (λ t m.
    let i = mem-each (first_two (low200 r A T) (high200 r A T)) (λ n. last_at r A T n ∷ []) t m in
    let j = mem_two (low200 r A T) (high200 r A T) i.0 i.1 in
    let e : t ≡ last_at r A T i.0 = Memᴰ.eq_of_singleton i.2 in
    subst (λ (x : Kept (Option ℕ) Last). sized x.result ≡ r) (sym e) (last_whole r A T i.0 (omega arith)))

-- ---- its points where even the lightest filling passes the target
abbrev pub lightest : Option ℕ → Option ℕ → ℕ
lightest b none = 10
lightest none (some c) = 20
lightest (some b) (some c) = 40

abbrev pub worth : Last → ℕ
worth l = 40 * l.n200 + 20 * l.n100 + 10 * l.n50

abbrev pub given_worth : Option ℕ → Option ℕ → Option ℕ → ℕ
given_worth a b c = 40 * or a 0 + 20 * or b 0 + 10 * or c 0

nothing : (b : ℕ) (T B : ℕ) → T ≤ B → closest (T - B) b ≡ closest 0 b
nothing b T B h = let e : T - B ≡ 0 = omega arith in rw e

pub gap_rises : (x y T : ℕ) → T ≤ x → x ≤ y → gap x T ≤ gap y T
unfolding gap
gap_rises x y T h k = omega arith

-- with no n100 the points only rise with n200
passed : (A T r n : ℕ) → n ≤ r → T < A + 10 * r → gap (sum_of A r 0 (closest (T - (A + 40 * 0 + 10 * (r - 0))) 10)) T ≤ gap (sum_of A r n (closest (T - (A + 40 * n + 10 * (r - n))) 10)) T
passed A T r n h l =
    rw (nothing 10 T (A + 40 * 0 + 10 * (r - 0)) (omega arith), nothing 10 T (A + 40 * n + 10 * (r - n)) (omega arith), sum_is A r 0 0 (omega arith) (omega arith), sum_is A r n 0 h (omega arith))
    (gap_rises (A + 10 * r + 30 * 0 + 10 * 0) (A + 10 * r + 30 * n + 10 * 0) T (omega arith) (omega arith))

first_stays
    : (r A T h : ℕ) → T < A + 10 * r
    → scan nearer (each (first_two 0 (min r h)) (λ n. last_at r A T n ∷ [])) (none200 r) ≡ last_at r A T 0
unfolding first_two range from each scan offer nearer last_at
first_stays r A T h l = go (dec_le 1 (min r h))
  where
    go
        : Dec (1 ≤ min r h)
        → scan nearer (each (from 0 (suc (min (min r h) 1) - 0)) (λ n. last_at r A T n ∷ [])) (none200 r) ≡ last_at r A T 0
    go (yes k) =
        let e : min (min r h) 1 ≡ 1 = omega arith in
        ap (λ (z : ℕ). scan nearer (each (from 0 (suc z - 0)) (λ n. last_at r A T n ∷ [])) (none200 r)) e
        ∙ ap (λ (z : Bool). cond z (last_at r A T 1) (last_at r A T 0)) (le-ltb _ _ (passed A T r 1 (omega arith) l))
    go (no k) =
        let e : min (min r h) 1 ≡ 0 = omega arith in
        ap (λ (z : ℕ). scan nearer (each (from 0 (suc z - 0)) (λ n. last_at r A T n ∷ [])) (none200 r)) e

light-first : (r A T : ℕ) → T < A + 10 * r → worth (last_at r A T 0).result ≡ 10 * r
unfolding last_at
light-first r A T l = rw (nothing 10 T (A + 40 * 0 + 10 * (r - 0)) (omega arith)) (omega arith)

pub light
    : (a b c : Option ℕ) (r A T : ℕ) → Open a b c → space_of a b c ≤ r → T < A + 10 * r
    → worth (plain_optimize_last_three first_two a b c r A T) ≡ given_worth a b c + lightest b c * (r - space_of a b c)
unfolding plain_optimize_last_three or
light (some a) (some b) (some c) r A T o h l = absurd o
light (some a) (some b) none r A T o h l = omega arith
light (some a) none (some c) r A T o h l = omega arith
light none (some b) (some c) r A T o h l = omega arith
light (some a) none none r A T o h l = let e = nothing 10 T (A + 40 * a + 10 * (r - a)) (omega arith) in rw e (omega arith)
light none (some b) none r A T o h l = let e = nothing 30 T (A + 20 * b + 10 * (r - b)) (omega arith) in rw e (omega arith)
light none none (some c) r A T o h l = let e = nothing 20 T (A + 10 * c + 20 * (r - c)) (omega arith) in rw e (omega arith)
light none none none r A T o h l =
    let z : (T - (A + 20 * r)) / 20 ≡ 0 = omega arith in
    ap (λ (m : ℕ). worth (scan nearer (each (first_two m (high200 r A T)) (λ n. last_at r A T n ∷ [])) (none200 r)).result) z
    ∙ (ap (λ (x : Kept (Option ℕ) Last). worth x.result) (first_stays r A T (rounded_up (T - A) 40 + 1) l) ∙ light-first r A T l ∙ omega arith)
