-- `direct::generate` meets its contract: the weights are the standard ones. Assumes nothing.
use mathlib.Core.Path.{◌≡◌, sym, ap, subst, ◌∙◌}
use mathlib.Core.Bool.{Bool}
use mathlib.Core.List.{List}
use Prim.Native.Nat.{ℕ}
use Rattle.score_state.specs.Points.{standard}
use Rattle.nearest_laws.specs.Nearest.{Weighting, standard-weighting}
use Rattle.generate_laws.specs.Generate.{answer_by, generate_answer}
use Rattle.std.specs.Prelude.{Result}
use Rattle.refusals.specs.declared.Refusal.{Refusal}
use Rattle.score_state.specs.Answer.{answer_of, status_of}
use Rattle.score_state.specs.Lent.{lent}
use Rattle.direct.specs.Direct.{kind_by, classic_in, weights_in}
use Rattle.direct.proofs.HandedOver.{kind_classic, kind_standard}
use Rattle.weighting.specs.declared.Scoring.TheVariants.{Standard}
use Rattle.direct.proofs.generate.Goals as goal

weights_are : (classic : Bool) (kind : ℕ) (out : List ℕ) → kind ≡ kind_by Standard classic → weights_in kind out ≡ standard classic
weights_are classic kind out e = ap (λ (k : ℕ). weights_in k out) e ∙ kind_standard classic out

pub scored-requires : goal.scored-requires
scored-requires c = subst Weighting (sym (weights_are c.args.classic c.kind_of.result c.args.out.now c.kind_of.ensures)) (standard-weighting c.args.classic)

pub returns-in-Ok : goal.returns-in-Ok
unfolding generate_answer answer_by
returns-in-Ok c =
    let x = c.args in
    let flag = ap classic_in c.kind_of.ensures ∙ kind_classic Standard x.classic in
    sym (ap (λ (r : Result (Unit {0}) Refusal). lent (status_of (answer_of r)) c.scored.new.out) c.in-Ok.is)
    ∙ (rw (weights_are x.classic c.kind_of.result x.out.now c.kind_of.ensures, flag) at c.scored.ensures.out_after)

pub returns-in-Err : goal.returns-in-Err
unfolding generate_answer answer_by
returns-in-Err c =
    let x = c.args in
    let flag = ap classic_in c.kind_of.ensures ∙ kind_classic Standard x.classic in
    ap (λ (n : ℕ). lent n c.scored.new.out) c.into.ensures
    ∙ sym (ap (λ (r : Result (Unit {0}) Refusal). lent (status_of (answer_of r)) c.scored.new.out) c.in-Err.is)
    ∙ (rw (weights_are x.classic c.kind_of.result x.out.now c.kind_of.ensures, flag) at c.scored.ensures.out_after)
