-- The steps of the code with two, one or none missing. Assumes nothing.
use Prim.Native.Nat.{ℕ, zero, suc, ◌+◌, ◌-◌, ◌*◌, ◌/◌, ◌≤◌, min}
use mathlib.Core.Path.{◌≡◌, refl, sym, ap, ◌∙◌}
use mathlib.Core.Bool.{Bool, true, false}
use mathlib.Core.Option.{Option, none, some}
use mathlib.Core.List.{List, [], ◌∷◌, ◌++◌}
use native.Mathlib.Nat.{mul-le-mul_right, le_trans}
use native.Mathlib.Omega.{arith}
use borrow.Author.Tests.{ne_eqb}
use lib.Dec.{eqb}
use lib.ListN.{length}
use lib.Ieee.{Float}
use Rattle.units.specs.Limits.{most_hits, most_points}
use Rattle.score_state.specs.Points.{points, counts_of, perfect_weight}
use Rattle.score_state.specs.Given.{or, missing, given_hits, given_points, fill}
use Rattle.score_state.specs.declared.HitResults.{HitResults}
use Rattle.inspect.specs.Inspect.{Inspect, remain}
use Rattle.score_state.specs.Answer.{Answer, worked}
use Rattle.closest_laws.specs.Loops.{Kept, each, offer, scan, nearer}
use Rattle.rounding.specs.Quotient.{rounded_up}
use Rattle.closest_laws.specs.Closest.{Play, provided, weights, result_of, split_at, best_split, solve_two, solve, plain_optimize_two_missing, plain_optimize_three_plus_missing, clamp, clamp_and_fill, six, by_missing, play_of, closest_at}
use Rattle.inspect.specs.Presence.{has, given, five_given, lacking}
use Rattle.closest_laws.proofs.Bits.{missing-count}

-- ---- filling
-- a 0 more at the end fills nothing else
pub fill_zero : (gs : List (Option ℕ)) (xs : List ℕ) → fill gs (xs ++ (0 ∷ [])) ≡ fill gs xs
unfolding fill
fill_zero [] xs = refl
fill_zero (none ∷ gs) [] = refl
fill_zero (none ∷ gs) (x ∷ xs) = ap (λ (ys : List ℕ). x ∷ ys) (fill_zero gs xs)
fill_zero (some n ∷ gs) xs = ap (λ (ys : List ℕ). n ∷ ys) (fill_zero gs xs)

-- the next of a pair where a count is missing
pub next_missing : (x y : ℕ) (gs : List (Option ℕ)) → x ∷ fill gs (y ∷ 0 ∷ []) ≡ fill (none ∷ gs) (x ∷ y ∷ [])
unfolding fill
next_missing x y gs = ap (λ (ys : List ℕ). x ∷ ys) (fill_zero gs (y ∷ []))

-- missing weights fall as all weights do
abbrev pub Falls : ℕ → List ℕ → Type 0
Falls w [] = Unit {0}
Falls w (v ∷ vs) = (v ≤ w) × Falls v vs

falls_from : (u w : ℕ) (vs : List ℕ) → w ≤ u → Falls w vs → Falls u vs
falls_from u w [] h f = tt
falls_from u w (v ∷ vs) h f = (le_trans f.0 h, f.1)

pub falls_missing : (u : ℕ) (ws : List ℕ) (gs : List (Option ℕ)) → Falls u ws → Falls u (missing ws gs)
unfolding missing
falls_missing u [] gs f = tt
falls_missing u (w ∷ ws) [] f = tt
falls_missing u (w ∷ ws) (none ∷ gs) f = (f.0, falls_missing w ws gs f.1)
falls_missing u (w ∷ ws) (some n ∷ gs) f = falls_from u w (missing ws gs) f.0 (falls_missing w ws gs f.1)

result-is : (r : HitResults) (xs : List ℕ) (m : ℕ) → counts_of r ≡ xs → r.misses ≡ m → r ≡ result_of xs m
unfolding result_of
result-is r xs m e f = ap (λ (n : ℕ). result_of (counts_of r) n) f ∙ ap (λ (ys : List ℕ). result_of ys m) e

-- ---- clamping counts that are 0 where they are missing
clamp_step : (h : Bool) (n left : ℕ) (gs : List (Option ℕ)) → or (given h n) 0 ≡ n → clamp (given h n ∷ gs) left ≡ given h (min n left) ∷ clamp gs (left - min n left)
unfolding clamp or
clamp_step true n left gs z = refl
clamp_step false n left gs z = ap (λ (l : ℕ). none ∷ clamp gs l) (omega arith)

or-clamped : (h : Bool) (n m left : ℕ) → or (given h n) 0 ≡ n → m ≡ min n left → or (given h m) 0 ≡ m
unfolding or
or-clamped true n m left z e = refl
or-clamped false n m left z e = omega arith

pub minus_two : (r a b : ℕ) → r - a - b ≡ r - (a + b)
minus_two r a b = omega arith

minus_five : (r a b c d e : ℕ) → r - a - b - c - d - e ≡ r - (a + (b + (c + (d + (e + 0)))))
minus_five r a b c d e =
    rw (minus_two r a b, minus_two r (a + b) c, minus_two r (a + b + c) d, minus_two r (a + b + c + d) e) (ap (λ (n : ℕ). r - n) (omega arith))

module _
    (k a b c d e r : ℕ)
    (za : or (given (has k 1) a) 0 ≡ a) (zb : or (given (has k 2) b) 0 ≡ b) (zc : or (given (has k 4) c) 0 ≡ c)
    (zd : or (given (has k 8) d) 0 ≡ d) (ze : or (given (has k 16) e) 0 ≡ e)
    {a' b' c' d' e' r1 r2 r3 r4 r5 : ℕ}
    (ea : a' ≡ min a r) (e1 : r1 ≡ r - a') (eb : b' ≡ min b r1) (e2 : r2 ≡ r1 - b') (ec : c' ≡ min c r2) (e3 : r3 ≡ r2 - c')
    (ed : d' ≡ min d r3) (e4 : r4 ≡ r3 - d') (ee : e' ≡ min e r4) (e5 : r5 ≡ r4 - e')
  where
    clamped : clamp (five_given k a b c d e) r ≡ five_given k a' b' c' d' e'
    unfolding clamp
    clamped =
        rw (
          clamp_step (has k 1) a r (given (has k 2) b ∷ given (has k 4) c ∷ given (has k 8) d ∷ given (has k 16) e ∷ []) za,
          ← ea,
          ← e1,
          clamp_step (has k 2) b r1 (given (has k 4) c ∷ given (has k 8) d ∷ given (has k 16) e ∷ []) zb,
          ← eb,
          ← e2,
          clamp_step (has k 4) c r2 (given (has k 8) d ∷ given (has k 16) e ∷ []) zc,
          ← ec,
          ← e3,
          clamp_step (has k 8) d r3 (given (has k 16) e ∷ []) zd,
          ← ed,
          ← e4,
          clamp_step (has k 16) e r4 [] ze,
          ← ee,
        )

    rest_is : r5 ≡ r - given_hits (five_given k a' b' c' d' e')
    unfolding given_hits
    rest_is =
        rw (e5, e4, e3, e2, e1)
        (minus_five r a' b' c' d' e'
        ∙ rw (
          or-clamped (has k 1) a a' r za ea,
          or-clamped (has k 2) b b' r1 zb eb,
          or-clamped (has k 4) c c' r2 zc ec,
          or-clamped (has k 8) d d' r3 zd ed,
          or-clamped (has k 16) e e' r4 ze ee,
        ))

    pub clamp-is
        : (p : Play) (f : HitResults) → provided p ≡ five_given k a b c d e → p.remain ≡ r
        → counts_of f ≡ fill (five_given k a' b' c' d' e') (r5 ∷ []) → f.misses ≡ p.misses → f ≡ clamp_and_fill p
    unfolding clamp_and_fill
    clamp-is p f ep er ef em =
        result-is f (fill (five_given k a' b' c' d' e') (r5 ∷ [])) p.misses ef em
        ∙ rw (er, ep, clamped, ← rest_is)

-- ---- two missing
pub four
    : (w1 w2 T h P down up : ℕ) {b1 b2 b3 b4 : Kept (Option ℕ) (List ℕ)}
    → b1 ≡ offer nearer (split_at w1 w2 T h P 0) (record { dist = none; result = 0 ∷ h ∷ [] }) → b2 ≡ offer nearer (split_at w1 w2 T h P down) b1
    → b3 ≡ offer nearer (split_at w1 w2 T h P up) b2 → b4 ≡ offer nearer (split_at w1 w2 T h P h) b3
    → b4.result ≡ best_split w1 w2 T h P (0 ∷ down ∷ up ∷ h ∷ [])
unfolding scan each
four w1 w2 T h P down up e1 e2 e3 e4 = ap (λ (b : Kept (Option ℕ) (List ℕ)). b.result) e4 ∙ rw (e3, e2, e1)

pub solved_by_four
    : (w1 w2 T h P : ℕ) {v down up : ℕ} {xs : List ℕ} → (w1 ≡ w2 → ⊥)
    → v ≡ T - (P + w2 * h) → down ≡ min h (v / (w1 - w2)) → up ≡ min h (rounded_up v (w1 - w2))
    → xs ≡ best_split w1 w2 T h P (0 ∷ down ∷ up ∷ h ∷ []) → xs ≡ solve_two w1 w2 T h P
unfolding solve_two
solved_by_four w1 w2 T h P n ev ed eu e = e ∙ rw (eu, ed, ev, ne_eqb w1 w2 n)

pub two_is
    : (p : Play) {w1 w2 h g : ℕ} {xs : List ℕ} {f : HitResults} → missing (weights p) (provided p) ≡ w1 ∷ w2 ∷ [] → h ≡ p.remain - given_hits (provided p)
    → g ≡ given_points (weights p) (provided p) → xs ≡ solve_two w1 w2 p.target h g
    → counts_of f ≡ fill (provided p) xs → f.misses ≡ p.misses → f ≡ plain_optimize_two_missing p
unfolding plain_optimize_two_missing solve
two_is p {f = f} em eh eg es ef en =
    result-is f _ p.misses ef en
    ∙ ap (λ (ys : List ℕ). result_of (fill (provided p) ys) p.misses) (es ∙ rw (eh, eg, em))

-- counts that are at most the hits of a chart have at most its points
pub sum_within
    : (w a b c d e : ℕ) → w ≤ 61 → a + b + c + d + e ≤ most_hits → points (w ∷ 60 ∷ 40 ∷ 20 ∷ 10 ∷ []) (a ∷ b ∷ c ∷ d ∷ e ∷ []) ≤ most_points
unfolding points
sum_within w a b c d e h l = omega (arith, mul-le-mul_right a h)

pub perfect-heavy : (classic : Bool) → 60 ≤ perfect_weight classic
perfect-heavy true = omega arith
perfect-heavy false = omega arith

-- ---- by the number of missing counts
module _ (n : ℕ) (p : Play) where
  pub clamps : n ≤ 1 → (f : HitResults) → f ≡ clamp_and_fill p → worked (six f) ≡ by_missing n p
  unfolding by_missing
  clamps h f e = ap (λ (g : HitResults). worked (six g)) e ∙ go n h
    where
      go : (m : ℕ) → m ≤ 1 → worked (six (clamp_and_fill p)) ≡ by_missing m p
      go zero l = refl
      go (suc zero) l = refl
      go (suc (suc m)) l = absurd (omega arith)

  pub three_plus : 3 ≤ n → (f : HitResults) → f ≡ plain_optimize_three_plus_missing p → worked (six f) ≡ by_missing n p
  unfolding by_missing
  three_plus h f e = ap (λ (g : HitResults). worked (six g)) e ∙ go n h
    where
      go : (m : ℕ) → 3 ≤ m → worked (six (plain_optimize_three_plus_missing p)) ≡ by_missing m p
      go zero l = absurd (omega arith)
      go (suc zero) l = absurd (omega arith)
      go (suc (suc zero)) l = absurd (omega arith)
      go (suc (suc (suc m))) l = refl

-- ---- the whole
module _ (i : Inspect) (acc : Float) (p : Play) (ep : p ≡ play_of i acc) where
  remain_of : (b : Bool) → eqb p.remain 0 ≡ b → eqb (remain i) 0 ≡ b
  unfolding play_of
  remain_of b t = sym (ap (λ (q : Play). eqb q.remain 0) ep) ∙ t

  pub none-remain : eqb p.remain 0 ≡ true → worked (0 ∷ 0 ∷ 0 ∷ 0 ∷ 0 ∷ p.misses ∷ []) ≡ closest_at i acc
  unfolding closest_at play_of
  none-remain t = ap (λ (q : Play). worked (0 ∷ 0 ∷ 0 ∷ 0 ∷ 0 ∷ q.misses ∷ [])) ep ∙ rw (remain_of true t)

  pub some-remain : (k a b c d e : ℕ) → eqb p.remain 0 ≡ false → provided p ≡ five_given k a b c d e → (r : Answer (List ℕ)) → r ≡ by_missing (lacking k) p → r ≡ closest_at i acc
  unfolding closest_at
  some-remain k a b c d e t h r f =
      f
      ∙ ap (λ (m : ℕ). by_missing m p) (sym (ap (λ (gs : List (Option ℕ)). length (missing (weights p) gs)) h ∙ missing-count k a b c d e p.w320 60 40 20 10))
      ∙ ap (λ (q : Play). by_missing (length (missing (weights q) (provided q))) q) ep
      ∙ rw (remain_of false t)
