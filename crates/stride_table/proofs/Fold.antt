-- The fold is not seen in a stride: n300 is a middle neither with it nor without, where it weighs what n320 does.
-- Assumes nothing.
use Prim.Native.Nat.{ℕ}
use mathlib.Core.Bool.{Bool, true, false, cond}
use mathlib.Core.List.{List, [], ◌∷◌, map}
use mathlib.Core.Option.{Option, none, some}
use mathlib.Core.Path.{◌≡◌, refl, sym, ap, ◌∙◌}
use native.Mathlib.Nat.{le_refl}
use lib.Dec.{eqb}
use borrow.Author.Tests.{eqb-true, le-ltb}
use Rattle.score_state.specs.Given.{missing}
use Rattle.nearest_laws.specs.Walk.{Middle, last_of}
use Rattle.nearest_laws.specs.Places.{slot_of, slots}
use Rattle.nearest_laws.specs.Nearest.{fold}
use Rattle.stride_rows.specs.Strides.{first_of, strides_of}

-- the strides where the counts hs are given, and nothing is folded
abbrev pub plain_of : List ℕ → List (Option ℕ) → List ℕ
plain_of ws hs =
    let us = missing ws hs in
    map (λ (m : Middle). m.q) (slots (first_of 0 us) (last_of 0 us) ws hs)

last_twice : (w : ℕ) (us : List ℕ) → last_of 0 (w ∷ us) ≡ last_of 0 (w ∷ (w ∷ us))
unfolding last_of
last_twice w us = refl

slot-top : (a c : ℕ) (n : ℕ) → slot_of a c a (some n) ≡ slot_of a c a none
unfolding slot_of
slot-top a c n = sym (rw (le-ltb a a (le_refl a)))

equal-pair : (w : ℕ) (ws : List ℕ) (gs : List (Option ℕ)) → plain_of (w ∷ (w ∷ ws)) (none ∷ (some 0 ∷ gs)) ≡ plain_of (w ∷ (w ∷ ws)) (none ∷ (none ∷ gs))
unfolding missing slots first_of
equal-pair w ws gs =
    let us = missing ws gs in
    let l = last_of 0 (w ∷ (w ∷ us)) in
    ap (λ (e : ℕ). (slot_of w e w none).q ∷ ((slot_of w e w (some 0)).q ∷ map (λ (m : Middle). m.q) (slots w e ws gs))) (last_twice w us)
    ∙ ap (λ (n : Middle). (slot_of w l w none).q ∷ (n.q ∷ map (λ (m : Middle). m.q) (slots w l ws gs))) (slot-top w l 0)

pub fold_unseen : (ws : List ℕ) (gs : List (Option ℕ)) → strides_of ws gs ≡ plain_of ws gs
unfolding strides_of fold
fold_unseen [] gs = refl
fold_unseen (w ∷ []) gs = refl
fold_unseen (w ∷ (v ∷ ws)) [] = refl
fold_unseen (w ∷ (v ∷ ws)) (some n ∷ gs) = refl
fold_unseen (w ∷ (v ∷ ws)) (none ∷ []) = refl
fold_unseen (w ∷ (v ∷ ws)) (none ∷ (some n ∷ gs)) = refl
fold_unseen (w ∷ (v ∷ ws)) (none ∷ (none ∷ gs)) = go (eqb w v) refl
  where
    go : (b : Bool) → eqb w v ≡ b → plain_of (w ∷ (v ∷ ws)) (cond b (none ∷ (some 0 ∷ gs)) (none ∷ (none ∷ gs))) ≡ plain_of (w ∷ (v ∷ ws)) (none ∷ (none ∷ gs))
    go false e = refl
    go true e = rw (← eqb-true w v e) (equal-pair w ws gs)
