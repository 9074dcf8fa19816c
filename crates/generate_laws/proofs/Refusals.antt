-- No refusal of a query has the number 0, under whatever weights: an answer with status 0 has values. Assumes nothing.
use Prim.Native.Nat.{ℕ, zero, suc, ◌<◌}
use mathlib.Core.Path.{◌≡◌, refl, sym, subst}
use mathlib.Core.List.{List}
use native.Mathlib.Omega.{arith}
use lib.ListN.{length, length-append}
use Rattle.score_state.specs.Answer.{Answer, worked, refused, status_of, values_of}
use Rattle.inspect.specs.declared.Query.{Query}
use Rattle.generate_laws.specs.Generate.{untried, found_of, scored_answer}
use Rattle.generate_laws.proofs.Method3.{SixOr12, every_answer}

abbrev Full : Answer (List ℕ) → Type 0
Full a = status_of a ≡ 0 → 0 < length (values_of a)

untried_full : (a : Answer (List ℕ)) → SixOr12 a → Full (untried a)
untried_full (worked xs) h e = let l = h.1 e in simp length-append (omega arith)
untried_full (refused n) h e = let l : ◌≡◌ {A = ℕ} 0 6 = h.1 e in absurd (omega arith)

answer_full : (ws : List ℕ) (q : Query) → Full (scored_answer ws q)
unfolding found_of
answer_full ws q = every_answer ws q Full (λ r e. omega arith) untried_full (λ n p l e. absurd (omega arith)) (λ m acc f e. simp length-append (omega arith))

pub numbered : (ws : List ℕ) (q : Query) (n : ℕ) → refused n ≡ scored_answer ws q → 0 < n
numbered ws q zero e = absurd (let l : 0 < length (values_of (refused 0)) = subst Full (sym e) (answer_full ws q) refl in omega arith)
numbered ws q (suc n) e = omega arith
