-- Lists of computed numbers all of which lie within their type, and the first of a list that does not. Assumes nothing.
use Prim.Native.Nat.{ℕ, suc, ◌+◌, ◌-◌, ◌*◌, ◌^◌, ◌≤◌, ◌<◌, min}
use mathlib.Core.Path.{◌≡◌, refl, sym, ap, ◌∙◌, subst}
use mathlib.Core.Bool.{Bool, true, false, cond}
use mathlib.Core.List.{List, [], ◌∷◌, ◌++◌, Memᴰ}
use mathlib.Core.Option.{Option, none, some}
use native.Mathlib.Nat.{lt_of_le_of_lt, sub-le}
use native.Mathlib.Omega.{arith}
use lib.Dec.{T, lt→ltb, lit<}
use lib.IntN.{ℤ, pos, negsuc, nat_abs, ◌-ℤ◌}
use Rattle.score_state.specs.Points.{hits}
use Rattle.score_state.specs.Given.{or, given_hits, given_points}
use Rattle.closest_laws.specs.Loops.{each}
use Rattle.closest_f64.specs.Sizes.{Step, u32, i64, fits, first_over, sums, differences, weighted, flatten, clamped}
use Rattle.closest_f64.proofs.Signed.{sub-le as pos-sub, sub_gt}

pub record Fits (s : Step) : Type 0 where
  pub ok : T (fits s)

abbrev pub Fit : List Step → Type 0
Fit [] = T true
Fit (s ∷ ss) = Fits s × Fit ss

-- ---- one number
pub u32-is : {line n : ℕ} → n < 2 ^ 32 → Fits (u32 line (pos n))
unfolding fits
u32-is {line} {n} h = record { ok = lt→ltb n (2 ^ 32) h }

pub u32_minus : {line : ℕ} (a b : ℕ) → b ≤ a → a < 2 ^ 32 → Fits (u32 line (pos a -ℤ pos b))
u32_minus {line} a b h k = subst (λ (i : ℤ). Fits (u32 line i)) (sym (pos-sub a b h)) (u32-is (lt_of_le_of_lt (sub-le a b) k))

pub i64-is : {line : ℕ} {i : ℤ} → nat_abs i ≤ 2 ^ 40 → Fits (i64 line i)
unfolding fits
i64-is {line} {i = pos n} h = record { ok = lt→ltb n (2 ^ 63) (lt_of_le_of_lt h (lit< tt)) }
i64-is {line} {i = negsuc n} h = let l : n ≤ 2 ^ 40 = omega arith in record { ok = lt→ltb n (2 ^ 63) (lt_of_le_of_lt l (lit< tt)) }

-- ---- several
pub fit_append : (xs ys : List Step) → Fit xs → Fit ys → Fit (xs ++ ys)
fit_append [] ys h k = k
fit_append (x ∷ xs) ys h k = (h.0, fit_append xs ys h.1 k)

pub fit_each : (xs : List ℕ) (f : ℕ → List Step) → ((x : ℕ) → Memᴰ x xs → Fit (f x)) → Fit (each xs f)
unfolding each
fit_each [] f h = tt
fit_each (x ∷ xs) f h = fit_append (f x) (each xs f) (h x (Memᴰ.head refl)) (fit_each xs f (λ y m. h y (Memᴰ.tail m)))

pub fit_cond : (t : Bool) (xs ys : List Step) → Fit xs → Fit ys → Fit (cond t xs ys)
fit_cond true xs ys h k = h
fit_cond false xs ys h k = k

-- what fits is passed by; where all fit, there is none that does not
passed : (t : Bool) (a b : Option Step) → T t → cond t a b ≡ a
passed true a b h = refl
passed false a b h = absurd h

pub past : (xs ys : List Step) → Fit xs → first_over (xs ++ ys) ≡ first_over ys
unfolding first_over
past [] ys h = refl
past (x ∷ xs) ys h = passed (fits x) (first_over (xs ++ ys)) (some x) h.0.ok ∙ past xs ys h.1

pub none_over : (xs : List Step) → Fit xs → first_over xs ≡ none
unfolding first_over
none_over [] h = refl
none_over (x ∷ xs) h = passed (fits x) (first_over xs) (some x) h.0.ok ∙ none_over xs h.1

-- a negative difference of two u32s stops
pub stops : (line a b : ℕ) (ss : List Step) → a < b → let s = u32 line (pos a -ℤ pos b) in first_over (s ∷ ss) ≡ some s
unfolding first_over fits
stops line a b ss h =
    let s = u32 line (pos a -ℤ pos b) in
    ap (λ (t : Bool). cond t (first_over ss) (some s)) (ap (λ (i : ℤ). fits (u32 line i)) (sub_gt a b h))

-- ---- sums, weighted sums, differences
pub sums_fit : (line a : ℕ) (xs : List ℕ) → a + hits xs < 2 ^ 32 → Fit (sums line a xs)
unfolding sums hits
sums_fit line a [] h = tt
sums_fit line a (x ∷ xs) h = (u32-is (omega arith), sums_fit line (a + x) xs (omega arith))

pub flatten-hits : (gs : List (Option ℕ)) → hits (flatten gs) ≡ given_hits gs
unfolding hits flatten given_hits or
flatten-hits [] = refl
flatten-hits (none ∷ gs) = flatten-hits gs ∙ omega arith
flatten-hits (some n ∷ gs) = ap (λ (x : ℕ). n + x) (flatten-hits gs)

pub weighted_fit : (line a : ℕ) (ws : List ℕ) (gs : List (Option ℕ)) → a + given_points ws gs < 2 ^ 32 → Fit (weighted line a ws gs)
unfolding weighted given_points or
weighted_fit line a [] gs h = tt
weighted_fit line a (w ∷ ws) [] h = tt
weighted_fit line a (w ∷ ws) (none ∷ gs) h = weighted_fit line a ws gs (omega arith)
weighted_fit line a (w ∷ ws) (some n ∷ gs) h = (u32-is (omega arith), (u32-is (omega arith), weighted_fit line (a + w * n) ws gs (omega arith)))

differences_fit : (line a : ℕ) (xs : List ℕ) → hits xs ≤ a → a < 2 ^ 32 → Fit (differences line a xs)
unfolding differences hits
differences_fit line a [] h k = tt
differences_fit line a (x ∷ xs) h k = (u32_minus a x (omega arith) k, differences_fit line (a - x) xs (omega arith) (omega arith))

hits-append : (xs : List ℕ) (y : ℕ) → hits (xs ++ (y ∷ [])) ≡ hits xs + y
unfolding hits
hits-append [] y = omega arith
hits-append (x ∷ xs) y = ap (λ (z : ℕ). x + z) (hits-append xs y) ∙ omega arith

pub clamped_fit : (line remain : ℕ) (used gs : List ℕ) → hits used ≤ remain → remain < 2 ^ 32 → Fit (clamped line remain used gs)
unfolding clamped
clamped_fit line remain used [] h k = differences_fit line remain used h k
clamped_fit line remain used (g ∷ gs) h k =
    let n = min g (remain - hits used) in
    fit_append (differences line remain used) (clamped (suc line) remain (used ++ (n ∷ [])) gs) (differences_fit line remain used h k)
    (clamped_fit (suc line) remain (used ++ (n ∷ [])) gs (omega (arith, hits-append used n)) k)
