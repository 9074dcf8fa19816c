-- The whole walk over three places: how many candidates it tries, and that its start may hold any counts.
use Prim.Native.Nat.{ℕ, ◌*◌, ◌<◌, ◌≤◌}
use mathlib.Core.Path.{◌≡◌, refl}
use mathlib.Core.List.{[], ◌∷◌}
use native.Mathlib.Nat.{mul-le-mul}
use native.Mathlib.Omega.{arith}
use Rattle.units.specs.Limits.{most32, most_weight}
use Rattle.nearest_laws.specs.Walk.{Middle, Best, start, settle, settings, product}
use Rattle.nearest_laws.specs.Places.{Slot}
use Rattle.nearest_laws.proofs.Near.{settings-some}
use Rattle.nearest_laws.proofs.Bound.{settle-tried, settings-length}
use Rattle.nearest_laws.proofs.Steps.{settle-fresh}

module _ (a c T : ℕ) (x y z : Middle) (r g : ℕ) (s : Best) (fresh : s.tried ≡ 0) where
  three_product : a ≤ most_weight → Slot a x → Slot a y → Slot a z → product (x ∷ y ∷ z ∷ []) ≤ 101 * (101 * (101 * 1))
  unfolding product
  three_product h i j k =
      let e : x.q ≤ 101 = omega (arith, i.few) in
      let f : y.q ≤ 101 = omega (arith, j.few) in
      let g : z.q ≤ 101 = omega (arith, k.few) in
      let l : z.q * 1 ≤ 101 * 1 = omega arith in
      mul-le-mul e (mul-le-mul f l)

  pub three_count
      : a ≤ most_weight → Slot a x → Slot a y → Slot a z
      → (settle T (settings a c T (x ∷ y ∷ z ∷ []) r g []) s).tried < most32
  three_count h i j k =
      omega (
        arith,
        three_product h i j k,
        settle-tried T (settings a c T (x ∷ y ∷ z ∷ []) r g []) s,
        settings-length a c T (x ∷ y ∷ z ∷ []) (i.some, (j.some, (k.some, tt))) r g [],
      )

  pub three_fresh : settle T (settings a c T (x ∷ y ∷ z ∷ []) r g []) s ≡ settle T (settings a c T (x ∷ y ∷ z ∷ []) r g []) start
  unfolding start
  three_fresh =
      let i = settings-some a c T (x ∷ y ∷ z ∷ []) r g [] in
      settle-fresh T i.0 (settings a c T (x ∷ y ∷ z ∷ []) r g []) s start i.1 fresh refl
