-- What the output of a direct call tells. Assumes nothing.
use mathlib.Core.Path.{◌≡◌, refl, ap, ◌∙◌}
use mathlib.Core.Bool.{Bool}
use mathlib.Core.List.{List}
use Prim.Native.Nat.{ℕ, ◌+◌, ◌≤◌, ◌<◌}
use native.Mathlib.Omega.{arith}
use borrow.Author.Tests.{ne_eqb}
use lib.ListN.{length, drop, take}
use lib.Seq.{sets, sets-eq, take_at}
use Rattle.score_state.specs.Answer.{refused, worked, unless, answer_in}

-- the answer that stands in the output
pub told-refused : (n : ℕ) (vs : List ℕ) → 0 < n → answer_in n vs ≡ refused n
told-refused n vs h = ap (λ (b : Bool). unless b n (worked vs)) (ne_eqb n 0 (λ (z : n ≡ 0). omega arith))

pub told-worked : (vs out : List ℕ) → length vs ≤ length out → answer_in 0 (take (length vs) (sets out 0 vs)) ≡ worked vs
told-worked vs out h =
    let room : 0 + length vs ≤ length out = omega arith in
    ap worked (ap (take (length vs)) (sets-eq vs out 0 room) ∙ take_at vs (drop (0 + length vs) out) (length vs) refl)
