-- `handed` from its parts: an output too short, a refusal, and values stored one after the other. Assumes nothing.
use mathlib.Core.Path.{◌≡◌, sym, ap, ◌∙◌}
use mathlib.Core.Bool.{Bool}
use mathlib.Core.List.{List, ◌++◌}
use Prim.Native.Nat.{ℕ, ◌+◌, ◌≤◌, ◌<◌}
use native.Mathlib.Nat.{zero-add}
use native.Mathlib.Omega.{arith}
use borrow.Author.Tests.{lt-ltb, le-ltb}
use lib.ListN.{length, drop}
use lib.Seq.{sets, sets-eq}
use Rattle.score_state.specs.Answer.{Answer, refused, worked}
use Rattle.score_state.specs.Lent.{lent, either, answered, handed}

pub handed_short : (n : ℕ) (a : Answer (List ℕ)) (out : List ℕ) → length out < n → lent 5 out ≡ handed n a out
unfolding handed
handed_short n a out h = rw (lt-ltb (length out) n h)

pub handed-refused : (n k : ℕ) (a : Answer (List ℕ)) (out : List ℕ) → n ≤ length out → refused k ≡ a → lent k out ≡ handed n a out
unfolding handed
handed-refused n k a out h e =
    ap (λ (y : Answer (List ℕ)). answered y out) e ∙ sym (ap (λ (b : Bool). either b (lent 5 out) (answered a out)) (le-ltb (length out) n h))

pub handed-worked : (n : ℕ) (vs : List ℕ) (a : Answer (List ℕ)) (out : List ℕ) → n ≤ length out → length vs ≤ n → worked vs ≡ a → lent 0 (sets out 0 vs) ≡ handed n a out
unfolding handed
handed-worked n vs a out h k e =
    let room : 0 + length vs ≤ length out = omega arith in
    ap (lent 0) (sets-eq vs out 0 room ∙ ap (λ (m : ℕ). vs ++ drop m out) (zero-add (length vs)))
    ∙ ap (λ (y : Answer (List ℕ)). answered y out) e
    ∙ sym (ap (λ (b : Bool). either b (lent 5 out) (answered a out)) (le-ltb (length out) n h))
