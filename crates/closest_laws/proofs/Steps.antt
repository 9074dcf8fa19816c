-- The steps of the code, each over plain numbers: an offer, a loop, the ends of a loop, a rounding. Assumes nothing.
use Prim.Native.Nat.{ℕ, zero, suc, ◌+◌, ◌-◌, min}
use mathlib.Core.Path.{◌≡◌, refl, sym, ap, ◌∙◌}
use mathlib.Core.Bool.{Bool, true, false, cond}
use mathlib.Core.Option.{Option, none, some}
use mathlib.Core.List.{List, [], ◌∷◌}
use native.Mathlib.Numerals.{add-one}
use native.Mathlib.Omega.{arith}
use Rattle.score_state.specs.Given.{or}
use Rattle.inspect.specs.Presence.{given}
use Rattle.closest_laws.specs.Loops.{Kept, from, range, first_two, each, offer, scan, nearer}
use Rattle.closest_laws.specs.Closest.{Last, last_at, values200, plain_optimize_last_three, values}
use Rattle.closest_laws.proofs.Scan.{scan-append}

-- ---- an offer of what is read of the candidates
abbrev pub read_by : {K A B : Type 0} → (A → B) → Kept K A → Kept K B
read_by f k = record { dist = k.dist; result = f k.result }

pub offer_by : {K A B : Type 0} (less : K → K → Bool) (f : A → B) (t b r : Kept K A) → r ≡ offer less t b → read_by f r ≡ offer less (read_by f t) (read_by f b)
unfolding offer
offer_by {K} {A} {B} less f t b r e = ap (λ (k : Kept K A). read_by f k) e ∙ go (less t.dist b.dist)
  where
    go : (x : Bool) → read_by f (cond x t b) ≡ cond x (read_by f t) (read_by f b)
    go true = refl
    go false = refl

-- ---- a loop with the items ys left: a turn takes the first, and the end has none
module _ {A K B : Type 0} (less : K → K → Bool) (f : A → List (Kept K B)) where
  pub each_turn
      : (xs ys : List A) (x : A) (b d z : Kept K B) → ys ≡ x ∷ xs → d ≡ scan less (f x) b
      → scan less (each ys f) b ≡ z → scan less (each xs f) d ≡ z
  unfolding each
  each_turn xs ys x b d z ey ed e = rw ed (sym (ap (λ (l : List A). scan less (each l f) b) ey ∙ scan-append less (f x) (each xs f) b) ∙ e)

  pub each_done : (ys : List A) (b z : Kept K B) → ys ≡ [] → scan less (each ys f) b ≡ z → b ≡ z
  unfolding each scan
  each_done ys b z ey e = sym (ap (λ (l : List A). scan less (each l f) b) ey) ∙ e

-- ---- all of the last three missing
pub all-is
    : (r A T : ℕ) (vs : List ℕ) (b : Kept (Option ℕ) Last) → vs ≡ values200 first_two r A T
    → b ≡ scan nearer (each vs (λ n. last_at r A T n ∷ [])) (record { dist = none; result = record { n200 = 0; n100 = 0; n50 = r } })
    → b.result ≡ plain_optimize_last_three first_two none none none r A T
unfolding plain_optimize_last_three
all-is r A T vs b e eb = ap (λ (x : Kept (Option ℕ) Last). x.result) eb ∙ rw e

-- ---- the ends of the loops
pub values_one : (n room lo hi m : ℕ) → m ≡ min n room → range m m ≡ values first_two (some n) room lo hi
unfolding values range from
values_one n room lo hi m em =
    let z : suc m - m ≡ suc zero = omega arith in
    ap (λ (k : ℕ). from m k) z ∙ rw em

pub two_values : {lo hi l t u : ℕ} → l ≡ lo → t ≡ hi → u ≡ min t (l + 1) → range l u ≡ first_two lo hi
unfolding first_two
two_values {lo} {hi} {l} el et eu = rw (eu, add-one l, et, el)

pub values_two
    : (room lo hi l t u : ℕ) → l ≡ min room lo → t ≡ min room hi → u ≡ min t (l + 1)
    → range l u ≡ values first_two none room lo hi
unfolding values
values_two room lo hi l t u el et eu = two_values el et eu

-- `unwrap_or` of a count
pub or_given : (h : Bool) (n d : ℕ) → or (given h n) d ≡ cond h n d
unfolding or
or_given true n d = refl
or_given false n d = refl
