-- The test of a weighting tells exactly the weightings; no weight of one is over 100.
use Prim.Native.Nat.{ℕ}
use mathlib.Core.Path.{◌≡◌, refl, sym}
use mathlib.Core.Bool.{true, ◌&&◌, true≢false}
use mathlib.Core.List.{List, [], ◌∷◌}
use mathlib.Core.Logic.{◌↔◌}
use lib.Dec.{ltb, leb}
use native.Mathlib.Omega.{arith}
use borrow.Author.Tests.{ltb-true, leb-true, lt-ltb, le-leb}
use Rattle.score_state.specs.Points.{weights_of, Light}
use Rattle.score_state.specs.declared.Weights.{Weights}
use Rattle.nearest_laws.specs.Nearest.{Weighting, weighs}
use Rattle.nearest_laws.proofs.Near.{both_true}
use Rattle.nearest_laws.proofs.Nearest.{and-true}

pub weighed : (ws : List ℕ) → Weighting ws → weighs ws ≡ true
unfolding weighs
weighed ws w =
    rw w.five
    (rw (le-leb w.n320 100 w.most, le-leb w.n300 w.n320 w.perfect, lt-ltb w.n200 w.n300 w.great, lt-ltb w.n100 w.n200 w.good, lt-ltb w.n50 w.n100 w.ok, le-leb 1 w.n50 w.meh))

-- five weights that pass
passed : (a b c d e : ℕ) → weighs (a ∷ b ∷ c ∷ d ∷ e ∷ []) ≡ true → Weighting (a ∷ b ∷ c ∷ d ∷ e ∷ [])
unfolding weighs
passed a b c d e h =
    let t₂ = leb a 100 && leb b a in
    let t₃ = t₂ && ltb c b in
    let t₄ = t₃ && ltb d c in
    let t₅ = t₄ && ltb e d in
    let h₅ = and-true t₅ (leb 1 e) h in
    let h₄ = and-true t₄ (ltb e d) h₅ in
    let h₃ = and-true t₃ (ltb d c) h₄ in
    let h₂ = and-true t₂ (ltb c b) h₃ in
    record {
      n320 = a;
      n300 = b;
      n200 = c;
      n100 = d;
      n50 = e;
      five = refl;
      perfect = leb-true b a (both_true (leb a 100) (leb b a) h₂);
      great = ltb-true c b (both_true t₂ (ltb c b) h₃);
      good = ltb-true d c (both_true t₃ (ltb d c) h₄);
      ok = ltb-true e d (both_true t₄ (ltb e d) h₅);
      meh = leb-true 1 e (both_true t₅ (leb 1 e) h);
      most = leb-true a 100 (and-true (leb a 100) (leb b a) h₂);
    }

pub weighting : (ws : List ℕ) → weighs ws ≡ true → Weighting ws
unfolding weighs
weighting [] h = absurd (true≢false (sym h))
weighting (a ∷ []) h = absurd (true≢false (sym h))
weighting (a ∷ (b ∷ [])) h = absurd (true≢false (sym h))
weighting (a ∷ (b ∷ (c ∷ []))) h = absurd (true≢false (sym h))
weighting (a ∷ (b ∷ (c ∷ (d ∷ [])))) h = absurd (true≢false (sym h))
weighting (a ∷ (b ∷ (c ∷ (d ∷ (e ∷ []))))) h = passed a b c d e h
weighting (a ∷ (b ∷ (c ∷ (d ∷ (e ∷ (f ∷ ws)))))) h = absurd (true≢false (sym h))

pub weighs-right : (ws : List ℕ) → (weighs ws ≡ true) ↔ Weighting ws
weighs-right ws = (weighting ws, weighed ws)

pub weighting-light : (w : Weights) → Weighting (weights_of w) → Light w
weighting-light w h =
    let e1 : w.n320 ≡ h.n320 = cc h.five in
    let e2 : w.n300 ≡ h.n300 = cc h.five in
    let e3 : w.n200 ≡ h.n200 = cc h.five in
    let e4 : w.n100 ≡ h.n100 = cc h.five in
    let e5 : w.n50 ≡ h.n50 = cc h.five in
    record {
      n320 = omega (arith, h.most);
      n300 = omega (arith, h.most, h.perfect);
      n200 = omega (arith, h.most, h.perfect, h.great);
      n100 = omega (arith, h.most, h.perfect, h.great, h.good);
      n50 = omega (arith, h.most, h.perfect, h.great, h.good, h.ok);
    }
