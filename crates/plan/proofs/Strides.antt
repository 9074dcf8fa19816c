-- The strides of a presence number, a place after the other.
use Prim.Native.Nat.{ℕ}
use mathlib.Core.Bool.{Bool, true, false, cond}
use mathlib.Core.List.{List, [], ◌∷◌}
use mathlib.Core.Option.{none}
use mathlib.Core.Path.{◌≡◌, refl, sym, ◌∙◌}
use lib.Dec.{eqb}
use Rattle.score_state.specs.Points.{weights_of}
use Rattle.score_state.specs.Given.{missing}
use Rattle.score_state.specs.declared.HitResults.{HitResults}
use Rattle.score_state.specs.declared.Weights.{Weights}
use Rattle.inspect.specs.Presence.{has, given}
use Rattle.nearest_laws.specs.Walk.{last_of}
use Rattle.nearest_laws.specs.Places.{slot_of, slots}
use Rattle.nearest_laws.proofs.Places.{slot_by_q}
use Rattle.stride_rows.specs.Strides.{first_of, strides_of, pattern_of}
use Rattle.plan.specs.Planned.{folded_of, Ends}
use Rattle.plan.proofs.Fold.{folded_five}

-- five counts of 0: which numbers are given plays no part
abbrev pub nothing : HitResults
nothing = record { n320 = 0; n300 = 0; n200 = 0; n100 = 0; n50 = 0; misses = 0 }

-- the strides at five places, with a and c
abbrev pub strides_at : ℕ → ℕ → Weights → ℕ → List ℕ
strides_at a c w p =
    (slot_of a c w.n320 (given (has p 1) 0)).q
    ∷ (slot_of a c w.n300 (given (has p 2) 0)).q
    ∷ (slot_of a c w.n200 (given (has p 4) 0)).q
    ∷ (slot_of a c w.n100 (given (has p 8) 0)).q
    ∷ (slot_of a c w.n50 (given (has p 16) 0)).q
    ∷ []

abbrev pub missing_at : Weights → ℕ → List ℕ
missing_at w p = missing (weights_of w) (pattern_of p)

-- step 1 on the presence number, then a place after the other
pub strides-at
    : (w : Weights) (p : ℕ)
    → strides_of (weights_of w) (pattern_of p)
    ≡ strides_at (first_of 0 (missing_at w (folded_of w p))) (last_of 0 (missing_at w (folded_of w p))) w (folded_of w p)
unfolding strides_of slots
strides-at w p = rw (sym (folded_five w p 0 0 0 0 0 (λ h. refl)))

-- the strides with a and c as they were found
pub strides_ends : (w : Weights) (p a c : ℕ) → Ends w (folded_of w p) a c → strides_of (weights_of w) (pattern_of p) ≡ strides_at a c w (folded_of w p)
strides_ends w p a c e = strides-at w p ∙ sym (rw (e.heaviest nothing, e.lightest nothing))

-- a stride and the weight that is walked with it are what stands at the place
pub slot-made
    : (a c w : ℕ) (b : Bool) (q : ℕ) → q ≡ (slot_of a c w (given b 0)).q → (v : ℕ) → v ≡ cond (eqb q 1) 0 w
    → (n : ℕ) → record { weight = v; q = q } ≡ slot_of a c w (given b n)
unfolding slot_of
slot-made a c w true q e v h n = rw (h, e)
slot-made a c w false q e v h n = rw (h, e) (slot_by_q a c w none)
