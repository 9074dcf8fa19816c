-- What `ignores_acc` tells of the method's answer. Assumes nothing.
use Prim.Native.Nat.{ℕ, zero, suc, ◌<◌}
use mathlib.Core.Path.{◌≡◌, refl, sym, subst}
use mathlib.Core.Bool.{true, false}
use mathlib.Core.List.{List}
use mathlib.Core.Option.{Option, none, some}
use native.Mathlib.Omega.{arith}
use borrow.Author.Tests.{ltb-true, ltb-false, eqb-true, eqb-false}
use lib.Ieee.{Float}
use Rattle.inspect.specs.Inspect.{Inspect}
use Rattle.score_state.specs.Answer.{refused}
use Rattle.ignore_acc.specs.IgnoreAcc.{ignore_acc}
use Rattle.generate_laws.specs.Generate.{counted, by_method}
use Rattle.generate_laws.proofs.Answered.{ignored, acc-missing}
use Rattle.methods.specs.Code.{ignores_acc}

pub by_ignore_acc : (ws : List ℕ) (method : ℕ) (i : Inspect) → ignores_acc method i.acc ≡ true → counted (ignore_acc i) ≡ by_method ws method i
unfolding ignores_acc by_method
by_ignore_acc ws method i h = go i.acc refl h
  where
    go : (o : Option Float) → i.acc ≡ o → ignores_acc method o ≡ true → counted (ignore_acc i) ≡ by_method ws method i
    go none e h = ignored ws method i (ltb-true method 3 h) e
    go (some acc) e h = subst (λ (m : ℕ). counted (ignore_acc i) ≡ by_method ws m i) (sym (eqb-true method 0 h)) refl

pub above_zero : (method : ℕ) (acc : Float) → ignores_acc method (some acc) ≡ false → 0 < method
unfolding ignores_acc
above_zero zero acc h = absurd (eqb-false 0 0 h refl)
above_zero (suc m) acc h = omega arith

pub without_acc : (ws : List ℕ) (method : ℕ) (i : Inspect) → i.acc ≡ none → ignores_acc method none ≡ false → refused 13 ≡ by_method ws method i
unfolding ignores_acc
without_acc ws method i e h = acc-missing ws method i (ltb-false method 3 h) e
