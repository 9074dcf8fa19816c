-- "Middles: missing weights b between them": with fewer than three missing there is none, and each stride is 1.
use Prim.Native.Nat.{ℕ, ◌<◌}
use mathlib.Core.Bool.{Bool, true, false, cond, ◌&&◌}
use mathlib.Core.List.{List, [], ◌∷◌, map}
use mathlib.Core.Logic.{◌⊎◌, inl, inr}
use mathlib.Core.Option.{Option, none, some}
use mathlib.Core.Path.{◌≡◌, refl, sym, ap, ap₂}
use lib.Dec.{ltb}
use lib.ListN.{length}
use native.Mathlib.Omega.{arith}
use borrow.Author.Tests.{ltb-true}
use Rattle.score_state.specs.Points.{weights_of}
use Rattle.score_state.specs.Given.{missing}
use Rattle.score_state.specs.declared.Weights.{Weights}
use Rattle.inspect.specs.Presence.{lacking}
use Rattle.nearest_laws.specs.Walk.{Middle, last_of, stride}
use Rattle.nearest_laws.specs.Places.{idle, slot_of, slots}
use Rattle.stride_rows.specs.Strides.{first_of, strides_of, pattern_of}
use Rattle.plan.specs.Planned.{folded_of}
use Rattle.plan.proofs.Missing.{missing-length}
use Rattle.plan.proofs.Fold.{folded_five}
use Rattle.plan.proofs.Strides.{nothing, missing_at}

-- each of the weights is a or c
abbrev AtEnds : ℕ → ℕ → List ℕ → Type 0
AtEnds a c [] = Unit {0}
AtEnds a c (u ∷ us) = ((u ≡ a) ⊎ (u ≡ c)) × AtEnds a c us

two_ends : (us : List ℕ) → length us < 3 → AtEnds (first_of 0 us) (last_of 0 us) us
unfolding first_of last_of
two_ends [] h = tt
two_ends (u ∷ []) h = (inl refl, tt)
two_ends (u ∷ (v ∷ [])) h = (inl refl, (inr refl, tt))
two_ends (u ∷ (v ∷ (t ∷ us))) h = absurd (omega arith)

slot_end : (a c w : ℕ) → (w ≡ a) ⊎ (w ≡ c) → (slot_of a c w none).q ≡ 1
unfolding slot_of
slot_end a c w e = go (ltb w a) refl (ltb c w) refl e
  where
    go : (x : Bool) → ltb w a ≡ x → (y : Bool) → ltb c w ≡ y → (w ≡ a) ⊎ (w ≡ c) → (cond (x && y) (record { weight = w; q = stride a c w }) idle).q ≡ 1
    go true l true m (inl z) = absurd (omega (arith, ltb-true w a l))
    go true l true m (inr z) = absurd (omega (arith, ltb-true c w m))
    go true l false m z = refl
    go false l true m z = refl
    go false l false m z = refl

ones : (a c : ℕ) (ws : List ℕ) (gs : List (Option ℕ)) → AtEnds a c (missing ws gs)
    → map (λ (m : Middle). m.q) (slots a c ws gs) ≡ map (λ (m : Middle). 1) (slots a c ws gs)
unfolding slots slot_of missing
ones a c [] gs e = refl
ones a c (w ∷ ws) [] e = refl
ones a c (w ∷ ws) (none ∷ gs) e = ap₂ (λ (n : ℕ) (l : List ℕ). n ∷ l) (slot_end a c w e.0) (ones a c ws gs e.1)
ones a c (w ∷ ws) (some n ∷ gs) e = ap (λ (l : List ℕ). 1 ∷ l) (ones a c ws gs e)

pub strides_few : (w : Weights) (p : ℕ) → lacking (folded_of w p) < 3 → strides_of (weights_of w) (pattern_of p) ≡ 1 ∷ 1 ∷ 1 ∷ 1 ∷ 1 ∷ []
unfolding strides_of slots
strides_few w p h =
    let f = folded_of w p in
    let us = missing_at w f in
    rw (sym (folded_five w p 0 0 0 0 0 (λ e. refl)))
    (ones (first_of 0 us) (last_of 0 us) (weights_of w) (pattern_of f) (two_ends us (omega (arith, missing-length w f nothing))))
