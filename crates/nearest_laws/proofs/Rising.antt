-- Document 02, L8: a higher target never earns fewer points, over the walk's result, for every weighting and every presence pattern.
-- Each answer is a split for both targets, and neither is farther from its own target than the other is. Assumes nothing.
use Prim.Native.Nat.{ℕ, ◌+◌, ◌≤◌, ◌<◌}
use mathlib.Core.Path.{◌≡◌, sym, ap, ◌∙◌}
use mathlib.Core.List.{List}
use mathlib.Core.Logic.{⊎_elim}
use mathlib.Core.Option.{Option, some, some-injective}
use lib.ListN.{length}
use native.Mathlib.Nat.{eq-or-lt_of_le, le_refl}
use native.Mathlib.Decide.{dec_le}
use native.Mathlib.Omega.{arith}
use Rattle.score_state.specs.Points.{points}
use Rattle.units.specs.Gap.{gap}
use Rattle.nearest_laws.specs.Nearest.{Weighting, Found, nearest}
use Rattle.nearest_laws.specs.Rising.{Rising}
use Rattle.nearest_laws.proofs.Nearest.{nearest_split, nearest-near}

-- the larger of two numbers is no farther from T only where T is not below their middle, the smaller only where it is not above
upper : (P Q T : ℕ) → Q < P → gap P T ≤ gap Q T → P + Q ≤ T + T
unfolding gap
upper P Q T l h = omega arith

lower : (P Q U : ℕ) → Q < P → gap Q U ≤ gap P U → U + U ≤ P + Q
unfolding gap
lower P Q U l h = omega arith

between : (P Q T U : ℕ) → gap P T ≤ gap Q T → gap Q U ≤ gap P U → T < U → P ≤ Q
between P Q T U h k l = go (dec_le P Q)
  where
    go : Dec (P ≤ Q) → P ≤ Q
    go (yes y) = y
    go (no n) = let m : Q < P = omega arith in absurd (omega (arith, upper P Q T m h, lower P Q U m k))

module _ (ws : List ℕ) (gs : List (Option ℕ)) (remain : ℕ) (w : Weighting ws) (five : length gs ≡ 5) where
  same : (T U : ℕ) (f g : Found) → nearest ws gs T remain ≡ some f → nearest ws gs U remain ≡ some g → T ≡ U → f.counts ≡ g.counts
  same T U f g e d t = ap (λ (x : Found). x.counts) (some-injective f g (sym e ∙ ap (λ (z : ℕ). nearest ws gs z remain) t ∙ d))

  pub rising : Rising ws gs remain
  rising =
      record {
        raised = λ T U f g e d l.
            ⊎_elim
            (λ (t : T ≡ U). rw (same T U f g e d t) (le_refl (points ws g.counts)))
            (λ (t : T < U).
            between (points ws f.counts) (points ws g.counts) T U
            (nearest-near ws gs T remain f w five e g.counts (nearest_split ws gs U remain g w five d))
            (nearest-near ws gs U remain g w five d f.counts (nearest_split ws gs T remain f w five e)) t)
            (eq-or-lt_of_le l);
        same = same;
      }
