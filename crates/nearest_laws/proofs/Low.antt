-- Document 02, L1: what a whole division's remainder tells of the two candidates of a setting.
use Prim.Native.Nat.{ℕ, ◌+◌, ◌-◌, ◌*◌, ◌/◌, ◌%◌, ◌<◌, ◌≤◌}
use mathlib.Core.Path.{◌≡◌, ap}
use mathlib.Core.List.{List}
use native.Mathlib.Nat.{sub_self, mul-add, div-add-mod, mod-lt}
use native.Mathlib.Omega.{arith}
use Rattle.units.specs.Gap.{gap}
use Rattle.nearest_laws.specs.Walk.{lowest, trial}
use Rattle.nearest_laws.proofs.Near.{trial-points}
use Rattle.nearest_laws.proofs.Steps.{lowest-below, fits-top}

-- how far x lies below T and how far above it: one of the two is 0, and their sum is the distance
pub sides_gap : (x T below above : ℕ) → below ≡ T - x → above ≡ x - T → below + above ≡ gap x T
unfolding gap
sides_gap x T below above eb ea = omega arith

-- all hits at a
pub all-points : (a c r p : ℕ) (ks : List ℕ) → (trial a c r p ks r).points ≡ p + a * r
unfolding trial
all-points a c r p ks = rw (sub_self r) (omega arith)

module _ (a c T r p : ℕ) (ks : List ℕ) (ca : c < a) where
  -- D < 0
  pub low_over
      : T < p + c * r
      → (0 ≡ lowest a c T r p) × (0 ≡ T - (trial a c r p ks 0).points) × (p + c * r - T ≡ (trial a c r p ks 0).points - T)
  low_over h =
      let e = trial-points a c r p ks 0 ca (omega arith) in
      (lowest-below a c T r p h, omega (arith, e), omega (arith, e))

  -- lo + 1 has a − c points more
  module _ (lo above : ℕ) (l : lo < r) (ea : above ≡ (trial a c r p ks lo).points - T) where
    next_points : (trial a c r p ks (lo + 1)).points ≡ (trial a c r p ks lo).points + (a - c)
    next_points =
        omega (arith, trial-points a c r p ks lo ca (omega arith), trial-points a c r p ks (lo + 1) ca (omega arith), mul-add (a - c) lo 1)

    pub next_gap
        : (below : ℕ) → below ≡ T - (trial a c r p ks lo).points → below < a - c
        → above + (a - c) - below ≡ gap (trial a c r p ks (lo + 1)).points T
    unfolding gap
    next_gap below eb u = omega (arith, next_points)

    pub next_fits : (M : ℕ) → p + a * r ≤ M → above + (a - c) ≤ M
    unfolding trial
    next_fits M f = omega (arith, next_points, fits-top a c r p M (lo + 1) (omega arith) f (omega arith))

-- D is not below 0: n is D div (a − c), and k what is left over
pub record Divided (a c T r p n k : ℕ) : Type 0 where
  pub order : c < a
  pub base : p + c * r ≤ T
  pub quotient : n ≡ (T - (p + c * r)) / (a - c)
  pub rest : k ≡ (T - (p + c * r)) % (a - c)

module _ {a c T r p n k : ℕ} (d : Divided a c T r p n k) where
  whole : p + c * r + ((a - c) * n + k) ≡ T
  whole = rw (d.quotient, d.rest) (omega (arith, div-add-mod (T - (p + c * r)) (a - c), d.base))

  -- lo is n: what is left over is its distance, less than a − c
  pub low_rest
      : (ks : List ℕ) → n < r
      → (n ≡ lowest a c T r p) × (k ≡ T - (trial a c r p ks n).points) × (0 ≡ (trial a c r p ks n).points - T) × (k < a - c)
  unfolding lowest
  low_rest ks l =
      let e = trial-points a c r p ks n d.order (omega arith) in (
        omega (arith, d.quotient),
        omega (arith, e, whole),
        omega (arith, e, whole),
        rw d.rest (mod-lt (T - (p + c * r)) (omega (arith, d.order))),
      )

  -- lo is r: the hits that are cut off lie below the target too
  pub low_cut
      : (ks : List ℕ) → r ≤ n
      → (r ≡ lowest a c T r p) × ((a - c) * (n - r) + k ≡ T - (trial a c r p ks r).points) × (0 ≡ (trial a c r p ks r).points - T)
  unfolding lowest
  low_cut ks l =
      let e = trial-points a c r p ks r d.order (omega arith) in
      let z : (a - c) * (r + (n - r)) ≡ (a - c) * n = ap (λ (x : ℕ). (a - c) * x) (omega arith) in
      let m = mul-add (a - c) r (n - r) in
      (omega (arith, d.quotient), omega (arith, e, z, m, whole), omega (arith, e, z, m, whole))
