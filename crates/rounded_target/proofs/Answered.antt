-- What `rounded_target` answers, from the facts that the code has of its calls. Assumes nothing.
use mathlib.Core.Path.{◌≡◌, sym, ap, ◌∙◌}
use mathlib.Core.List.{[], ◌∷◌}
use mathlib.Core.Option.{Option, some}
use Prim.Native.Nat.{ℕ, ◌<◌}
use native.Mathlib.Omega.{arith}
use borrow.Author.Tests.{ne_eqb}
use lib.Dec.{eqb}
use lib.Ieee.{Float}
use Rattle.score_state.specs.Points.{perfect_weight}
use Rattle.score_state.specs.Answer.{refused, worked, unless}
use Rattle.inspect.specs.Inspect.{inspect_of, acc_of, total_hits, misses, remain}
use Rattle.inspect.specs.Target.{target}
use Rattle.inspect.specs.Checks.{stop_of}
use Rattle.inspect.specs.declared.Accuracy.TheVariants.{Given, Absent}
use Rattle.inspect.specs.declared.Query.{Query}
use Rattle.rounded_target.specs.Answers.{target_values, target_answer}

pub target-refused : (q : Query) (n : ℕ) → n ≡ stop_of q → 0 < n → refused n ≡ target_answer q
unfolding target_answer
target-refused q n e h = rw (← e, ne_eqb n 0 (λ (z : n ≡ 0). omega arith))

pub target-missing : (q : Query) → 0 ≡ stop_of q → q.acc ≡ Absent → refused 13 ≡ target_answer q
unfolding target_answer
target-missing q e a = rw (← e, a)

pub target-worked
    : (q : Query) (acc : Float) (t m r w p : ℕ) → 0 ≡ stop_of q → q.acc ≡ Given acc
    → t ≡ total_hits (inspect_of q) → m ≡ misses (inspect_of q) → r ≡ remain (inspect_of q) → w ≡ perfect_weight q.classic → p ≡ target acc w t
    → worked (t ∷ m ∷ r ∷ p ∷ []) ≡ target_answer q
unfolding target_answer
target-worked q acc t m r w p e a et em er ew ep =
    let i = inspect_of q in
    let v : worked (t ∷ m ∷ r ∷ p ∷ []) ≡ target_values i (some acc) = rw (ep, ew, et, em, er) in
    v ∙ ap (λ (o : Option Float). target_values i o) (sym (ap acc_of a)) ∙ ap (λ (n : ℕ). unless (eqb n 0) n (target_values i i.acc)) e
