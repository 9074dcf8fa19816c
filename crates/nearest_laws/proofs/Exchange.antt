-- The exchange behind q, for all weights a > b > c: q hits at b are worth (b - c) / g hits at a and (a - b) / g at c.
use Prim.Native.Nat.{ℕ, zero, suc, ◌+◌, ◌-◌, ◌*◌, ◌/◌, ◌%◌, ◌<◌, ◌≤◌, ◌∣◌}
use mathlib.Core.Path.{◌≡◌, refl, sym, ap, ap₂, ◌∙◌, subst₂}
use lib.Dec.{eqb-suc-zero}
use native.Mathlib.Nat.{dvd_refl, dvd-zero, dvd-mod_iff, mod-lt, mul-div_cancel', dvd-sub, mul-add, add-mul, mul_comm, mul_assoc, mul_left_comm, eq_of_mul-eq-mul_left, mul-zero, mul-suc, zero-mul, div-add-mod', div-le_self}
use native.Mathlib.Omega.{arith}
use Rattle.nearest_laws.specs.Walk.{gcd_in, gcd, stride, Middle}

-- `gcd` divides both numbers, and every number that divides both divides it
pub gcd_in_divides : (n x y : ℕ) → y < n → (gcd_in n x y ∣ x) × (gcd_in n x y ∣ y)
unfolding gcd_in
gcd_in_divides zero x y h = absurd (omega arith)
gcd_in_divides (suc n) x zero h = (dvd_refl x, dvd-zero x)
gcd_in_divides (suc n) x (suc y) h =
    let m : x % suc y < suc y = mod-lt x (omega arith) in
    let i = gcd_in_divides n (suc y) (x % suc y) (omega arith) in
    rw eqb-suc-zero ((dvd-mod_iff (gcd_in n (suc y) (x % suc y)) i.0).0 i.1, i.0)

pub gcd_in_greatest : (n x y d : ℕ) → y < n → d ∣ x → d ∣ y → d ∣ gcd_in n x y
unfolding gcd_in
gcd_in_greatest zero x y d h p q = absurd (omega arith)
gcd_in_greatest (suc n) x zero d h p q = p
gcd_in_greatest (suc n) x (suc y) d h p q =
    let m : x % suc y < suc y = mod-lt x (omega arith) in
    rw eqb-suc-zero (gcd_in_greatest n (suc y) (x % suc y) d (omega arith) q ((dvd-mod_iff d q).1 p))

-- more turns than the second number change nothing
pub gcd_in_enough : (n m x y : ℕ) → y < n → y < m → gcd_in n x y ≡ gcd_in m x y
unfolding gcd_in
gcd_in_enough zero m x y h l = absurd (omega arith)
gcd_in_enough (suc n) zero x y h l = absurd (omega arith)
gcd_in_enough (suc n) (suc m) x zero h l = refl
gcd_in_enough (suc n) (suc m) x (suc y) h l =
    let z : x % suc y < suc y = mod-lt x (omega arith) in
    rw eqb-suc-zero (gcd_in_enough n m (suc y) (x % suc y) (omega arith) (omega arith))

-- a turn of Euclid's loop
pub gcd_step : (x y : ℕ) → (y ≡ 0 → ⊥) → gcd x y ≡ gcd y (x % y)
unfolding gcd gcd_in
gcd_step x zero h = absurd (h refl)
gcd_step x (suc y) h =
    let z : x % suc y < suc y = mod-lt x (omega arith) in
    rw eqb-suc-zero (gcd_in_enough (suc y) (suc (x % suc y)) (suc y) (x % suc y) z (omega arith))

pub gcd_end : (x y : ℕ) → y ≡ 0 → gcd x y ≡ x
unfolding gcd gcd_in
gcd_end x zero h = refl
gcd_end x (suc y) h = absurd (omega arith)

-- q hits at b, as `up` at a and `down` at c
pub record Exchange (a c b q : ℕ) : Type 0 where
  pub up : ℕ
  pub down : ℕ
  pub hits : up + down ≡ q
  pub points : a * up + c * down ≡ b * q

-- the numbers alone: up is v / g, q is w / g, with v = b - c and w = a - c
swap : (c v w g up down q : ℕ) → up + down ≡ q → g * up ≡ v → g * q ≡ w → (c + w) * up + c * down ≡ (c + v) * q
swap c v w g up down q h eu eq =
    let m : w * up ≡ v * q = rw (← eu, ← eq) (mul_assoc g q up ∙ ap (λ (z : ℕ). g * z) (mul_comm q up) ∙ sym (mul_assoc g up q)) in
    let n : c * (up + down) ≡ c * q = ap (λ (z : ℕ). c * z) h in
    omega (arith, add-mul c w up, add-mul c v q, mul-add c up down)

factors_pos : (g q w : ℕ) → g * q ≡ w → 0 < w → (0 < g) × (0 < q)
factors_pos zero q w e h = absurd (omega (arith, zero-mul q))
factors_pos (suc g) zero w e h = absurd (omega (arith, mul-zero (suc g)))
factors_pos (suc g) (suc q) w e h = omega arith

module _ (a c b : ℕ) (cb : c < b) (ba : b < a) where
  both : (gcd (a - c) (b - c) ∣ (a - c)) × (gcd (a - c) (b - c) ∣ (b - c))
  unfolding gcd
  both = gcd_in_divides (suc (b - c)) (a - c) (b - c) (omega arith)

  div_down : gcd (a - c) (b - c) * ((a - b) / gcd (a - c) (b - c)) ≡ a - b
  div_down =
      let e : a - c - (b - c) ≡ a - b = omega arith in
      mul-div_cancel' _ (rw e at (dvd-sub (gcd (a - c) (b - c)) both.0 both.1))

  pub gcd_pos : 0 < gcd (a - c) (b - c)
  gcd_pos = (factors_pos _ _ (a - c) (mul-div_cancel' _ both.0) (omega arith)).0

  pub stride_pos : 0 < stride a c b
  unfolding stride
  stride_pos = (factors_pos _ _ (a - c) (mul-div_cancel' _ both.0) (omega arith)).1

  pub exchange : Exchange a c b (stride a c b)
  unfolding stride
  exchange =
      let g = gcd (a - c) (b - c) in
      let up = (b - c) / g in
      let down = (a - b) / g in
      let q = (a - c) / g in
      let eu : g * up ≡ b - c = mul-div_cancel' _ both.1 in
      let eq : g * q ≡ a - c = mul-div_cancel' _ both.0 in
      let h : up + down ≡ q = eq_of_mul-eq-mul_left g gcd_pos (up + down) q (omega (arith, mul-add g up down, div_down)) in
      let ea : c + (a - c) ≡ a = omega arith in
      let eb : c + (b - c) ≡ b = omega arith in
      record {
        up = up;
        down = down;
        hits = h;
        points = subst₂ (λ (x y : ℕ). x * up + c * down ≡ y * q) ea eb (swap c (b - c) (a - c) g up down q h eu eq);
      }

-- x hits at b, as fewer than q of them and the rest moved to a and c
pub record Reduced (a c : ℕ) (m : Middle) (x : ℕ) : Type 0 where
  pub kept : ℕ
  pub up : ℕ
  pub down : ℕ
  pub few : kept < m.q
  pub hits : kept + (up + down) ≡ x
  pub points : m.weight * kept + (a * up + c * down) ≡ m.weight * x

pub reduced : (a c : ℕ) (m : Middle) → Exchange a c m.weight m.q → 0 < m.q → (x : ℕ) → Reduced a c m x
reduced a c m e pos x =
    let b = m.weight in
    let q = m.q in
    let n = x / q in
    let k = x % q in
    let h : n * q + k ≡ x = div-add-mod' x q in
    let u : n * e.up + n * e.down ≡ n * q = sym (mul-add n e.up e.down) ∙ ap (λ (z : ℕ). n * z) e.hits in
    let v : a * (n * e.up) + c * (n * e.down) ≡ b * (n * q) =
    ap₂ (λ (y z : ℕ). y + z) (mul_left_comm a n e.up) (mul_left_comm c n e.down)
    ∙ sym (mul-add n (a * e.up) (c * e.down))
    ∙ ap (λ (z : ℕ). n * z) e.points
    ∙ mul_left_comm n b q in
    let w : b * (n * q + k) ≡ b * x = ap (λ (z : ℕ). b * z) h in
    record {
      kept = k;
      up = n * e.up;
      down = n * e.down;
      few = mod-lt x pos;
      hits = omega arith;
      points = omega (arith, mul-add b (n * q) k);
    }

-- a q is at most a − c
pub stride-le : (a c b : ℕ) → stride a c b ≤ a - c
unfolding stride
stride-le a c b = div-le_self (a - c) (gcd (a - c) (b - c))

two : (g q u x y : ℕ) → g * q ≡ x → g * u ≡ y → 0 < y → y < x → 1 < q
two g zero u x y eq eu pos less = absurd (omega (arith, mul-zero g))
two g (suc zero) zero x y eq eu pos less = absurd (omega (arith, mul-zero g))
two g (suc zero) (suc u) x y eq eu pos less = absurd (omega (arith, mul-suc g u))
two g (suc (suc q)) u x y eq eu pos less = omega arith

-- a middle's q is at least 2
pub stride_two : (a c b : ℕ) → c < b → b < a → 1 < stride a c b
unfolding stride
stride_two a c b cb ba =
    let d = both a c b cb ba in
    two (gcd (a - c) (b - c)) _ _ (a - c) (b - c) (mul-div_cancel' _ d.0) (mul-div_cancel' _ d.1) (omega arith) (omega arith)
