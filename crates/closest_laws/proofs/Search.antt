-- The steps of the code's search with three or more missing. Assumes nothing.
use Prim.Native.Nat.{ℕ, ◌+◌, ◌-◌, ◌*◌, ◌^◌, ◌<◌, ◌≤◌}
use mathlib.Core.Path.{◌≡◌, sym, ap, ◌∙◌}
use mathlib.Core.Bool.{false}
use mathlib.Core.List.{List}
use native.Mathlib.Nat.{mul-le-mul_right}
use native.Mathlib.Omega.{arith}
use lib.Dec.{ltb}
use lib.Ieee.{Float, lt}
use Rattle.units.specs.Limits.{most_hits}
use Rattle.score_state.specs.declared.HitResults.{HitResults}
use Rattle.closest_laws.specs.Loops.{Kept, first_two, each, offer, scan}
use Rattle.closest_laws.specs.Closest.{Play, Last, plain_optimize_last_three, space, values320, values300, plain_result_at, try_at, inner, outer, start, search, capped_search, plain_optimize_three_plus_missing}
use Rattle.closest_laws.proofs.LastThree.{Open, sized, last_hits}
use Rattle.closest_laws.proofs.Capped.{capped_is}

-- the last three are all that is left
pub last_few : (p : Play) (r A : ℕ) (l : Last) → Open p.n200 p.n100 p.n50 → space p ≤ r → l ≡ plain_optimize_last_three first_two p.n200 p.n100 p.n50 r A p.target → sized l ≡ r
unfolding space
last_few p r A l o h e = ap (λ (x : Last). sized x) e ∙ last_hits p.n200 p.n100 p.n50 r A p.target o h

module _ (span : ℕ → ℕ → List ℕ) (p : Play) (x : ℕ) where
  -- the body of the inner loop, where the given counts have room
  pub inner-take
      : (y : ℕ) {l : Last} {h : HitResults} {d : Float} {r : Kept Float HitResults} (b : Kept Float HitResults) → ltb (p.remain - (x + y)) (space p) ≡ false
      → l ≡ plain_optimize_last_three span p.n200 p.n100 p.n50 (p.remain - (x + y)) (p.w320 * x + 60 * y) p.target
      → h ≡ record { n320 = x; n300 = y; n200 = l.n200; n100 = l.n100; n50 = l.n50; misses = p.misses }
      → d ≡ (try_at p h).dist → r ≡ offer lt (record { dist = d; result = h }) b → r ≡ scan lt (inner span p x y) b
  unfolding inner scan try_at plain_result_at
  inner-take y b t el eh ed er = er ∙ rw (ed, eh, el, t)

  -- and that of the outer
  pub outer-take
      : (vs : List ℕ) (b r : Kept Float HitResults) → ltb (p.remain - x) (space p) ≡ false → vs ≡ values300 span p x
      → r ≡ scan lt (each vs (inner span p x)) b → r ≡ scan lt (outer span p x) b
  unfolding outer
  outer-take vs b r t ev er = er ∙ rw (ev, t)

fits : (w R M : ℕ) → w ≤ 61 → R + M ≤ most_hits → w * (R + M) < 2 ^ 31
fits w R M h l = omega (arith, mul-le-mul_right (R + M) h)

pub search_is
    : (p : Play) → 60 ≤ p.w320 → p.w320 ≤ 61 → p.remain + p.misses ≤ most_hits → Open p.n200 p.n100 p.n50
    → (vs : List ℕ) (b c : Kept Float HitResults) → vs ≡ values320 first_two p → b ≡ start p
    → c ≡ scan lt (each vs (outer first_two p)) b → c.result ≡ plain_optimize_three_plus_missing p
unfolding capped_search search
search_is p h t l o vs b c ev eb ec =
    ap (λ (k : Kept Float HitResults). k.result)
    (ec ∙ ap (λ (xs : List ℕ). scan lt (each xs (outer first_two p)) b) ev ∙ ap (λ (k : Kept Float HitResults). scan lt (each (values320 first_two p) (outer first_two p)) k) eb)
    ∙ sym (capped_is p (record { heavy = h; top = t; lacks = o; fits = fits p.w320 p.remain p.misses t l }))
