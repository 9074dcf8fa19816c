-- `direct::scored` meets its contract. Assumes nothing.
use Prim.Native.Nat.{ℕ, ◌≤◌}
use mathlib.Core.List.{List}
use native.Mathlib.Omega.{arith}
use native.Mathlib.Nat.{not-le_of_lt}
use mathlib.Core.Path.{◌≡◌, sym, ap, subst, ◌∙◌}
use lib.ListN.{length}
use Rattle.generated.specs.Generated.{generated_of}
use Rattle.score_state.specs.Answer.{Answer}
use Rattle.nearest_laws.specs.Nearest.{Weighting}
use Rattle.generate_laws.specs.Generate.{scored_answer}
use Rattle.score_state.specs.Lent.{six_counts, handed}
use Rattle.direct.specs.Direct.{classic_in, weights_in, query_by}
use Rattle.score_state.proofs.Lent.{handed_short}
use Rattle.direct.proofs.scored.Goals as goal

pub returns-then-out-lt8 : goal.returns-then-out-lt8
returns-then-out-lt8 c =
    let x = c.args in
    let q = query_by x.objects x.holds x.method x.priority (classic_in x.kind) x.presence (six_counts x.n320 x.n300 x.n200 x.n100 x.n50 x.misses) x.passed x.holds_given x.holds_passed x.acc in
    record { out_after = handed_short 8 (scored_answer (weights_in x.kind x.out.now) q) x.out.now c.if-out-lt8.true; out_after_2 = λ (h : 8 ≤ length x.out.now). absurd (not-le_of_lt c.if-out-lt8.true h) }

pub scored_by-requires : goal.scored_by-requires
scored_by-requires c = subst Weighting (sym c.weights_of-weights.ensures) c.requires

pub hand-requires : goal.hand-requires
hand-requires c = omega arith

-- the weights and the query that are handed over are those of these numbers
pub returns : goal.returns
returns c =
    let x = c.args in
    let q = query_by x.objects x.holds x.method x.priority (classic_in x.kind) x.presence (six_counts x.n320 x.n300 x.n200 x.n100 x.n50 x.misses) x.passed x.holds_given x.holds_passed x.acc in
    let e : generated_of c.scored_by.result ≡ scored_answer (weights_in x.kind x.out.now) q =
    c.scored_by.ensures ∙ rw (c.weights_of-weights.ensures, c.acc_of-accuracy.ensures, c.holds_of-reached.ensures) in
    record { out_after = c.hand.ensures.out_after ∙ ap (λ (a : Answer (List ℕ)). handed 8 a x.out.now) e; out_after_2 = λ (h : 8 ≤ length x.out.now). c.hand.ensures.out_after_2 ∙ e }
