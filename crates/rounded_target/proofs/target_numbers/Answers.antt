-- `rounded_target::target_numbers` meets its contract. Assumes nothing.
use mathlib.Core.Path.{◌≡◌, sym, ap, ◌∙◌}
use mathlib.Core.List.{List, [], ◌∷◌, ◌++◌}
use lib.ListN.{drop}
use lib.Seq.{sets, sets-eq}
use Prim.Native.Nat.{ℕ}
use native.Mathlib.Omega.{arith}
use Rattle.score_state.specs.Lent.{lent}
use Rattle.rounded_target.specs.Answers.{answer_of, target_answer, target_query}
use Rattle.score_state.specs.Answer.{refused}
use Rattle.score_state.proofs.Lent.{handed_short, handed-refused, handed-worked}
use Rattle.rounded_target.proofs.target_numbers.Goals as goal

pub returns-then-out-lt4 : goal.returns-then-out-lt4
returns-then-out-lt4 c =
    let x = c.args in
    ap (λ (n : ℕ). lent n x.out.now) c.into.ensures
    ∙ handed_short 4 (target_answer (target_query x.objects x.holds x.classic x.presence x.misses x.passed x.holds_given x.holds_passed x.acc)) x.out.now (omega arith)

pub returns-in-Ok : goal.returns-in-Ok
returns-in-Ok c =
    let x = c.args in
    let t = c.in-Ok.t in
    let four = t.total_hits.0 ∷ t.misses.0 ∷ t.remain.0 ∷ t.target.0 ∷ [] in
    let stores : sets x.out.now 0 four ≡ four ++ drop 4 x.out.now = sets-eq four x.out.now 0 (omega arith) in
    ap (λ (w : List ℕ). lent 0 (w ++ drop 4 x.out.now)) c.copy_from_slice.ensures.after
    ∙ ap (lent 0) (sym stores)
    ∙ handed-worked 4 four (target_answer (target_query x.objects x.holds x.classic x.presence x.misses x.passed x.holds_given x.holds_passed x.acc)) x.out.now
    c.if-out-lt4.false (omega arith) (sym (ap answer_of c.in-Ok.is) ∙ c.rounded_target.ensures ∙ ap target_answer c.target_query-q.ensures)

pub returns-in-Err : goal.returns-in-Err
returns-in-Err c =
    let x = c.args in
    handed-refused 4 c.into-in-Err.result (target_answer (target_query x.objects x.holds x.classic x.presence x.misses x.passed x.holds_given x.holds_passed x.acc)) x.out.now
    c.if-out-lt4.false (ap refused c.into-in-Err.ensures ∙ sym (ap answer_of c.in-Err.is) ∙ c.rounded_target.ensures ∙ ap target_answer c.target_query-q.ensures)
