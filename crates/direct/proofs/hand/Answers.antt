-- `direct::hand` meets its contract. Assumes nothing.
use mathlib.Core.Path.{◌≡◌, sym, ap, ◌∙◌}
use mathlib.Core.List.{List, ◌++◌}
use Prim.Native.Nat.{ℕ}
use native.Mathlib.Omega.{arith}
use lib.ListN.{take, drop}
use lib.Seq.{sets, sets-eq}
use mir.Syntax.{w32}
use mir.ValLaws.{to_z-of_z}
use Rattle.std.specs.Prelude.{Result}
use Rattle.refusals.specs.declared.Refusal.{Refusal}
use Rattle.refusals.specs.Refusal.{number_of}
use Rattle.refusals.proofs.Numbers.{never_zero}
use Rattle.points_left.specs.Left.{bits_of}
use Rattle.generated.specs.Generated.{generated_of, values}
use Rattle.score_state.specs.Answer.{worked, answer_in, answer_of, status_of}
use Rattle.score_state.specs.Lent.{lent}
use Rattle.score_state.proofs.Handed.{err_handed}
use Rattle.score_state.proofs.Lent.{handed-refused, handed-worked}
use Rattle.direct.proofs.Handed.{told-refused, told-worked}
use Rattle.direct.proofs.hand.Goals as goal

pub returns-in_err-g : goal.returns-in_err-g
returns-in_err-g c =
    let x = c.args in
    let f = c.in_err-g.field-0.0 in
    let r = err_handed c.from_residual.result f c.from_residual.ensures.1 in
    let e = sym (ap generated_of c.in_err-g.was) in record {
      out_after = ap (λ (y : Result (Unit {0}) Refusal). lent (status_of (answer_of y)) x.out.now) r ∙ handed-refused 8 (number_of f) (generated_of x.answer) x.out.now c.requires e;
      out_after_2 = ap (λ (y : Result (Unit {0}) Refusal). answer_in (status_of (answer_of y)) (take 8 x.out.now)) r ∙ told-refused (number_of f) (take 8 x.out.now) (never_zero f) ∙ e;
    }

pub returns : goal.returns
returns c =
    let x = c.args in
    let g = c.in_ok-g.g in
    let e = sym (ap generated_of c.in_ok-g.was) in
    let back = to_z-of_z w32 g.left (record { sfits = omega arith }) in
    let b : c.bits_of-left.result ≡ bits_of g.left = c.bits_of-left.ensures ∙ ap bits_of back in
    let stores : sets x.out.now 0 (values g) ≡ values g ++ drop 8 x.out.now = sets-eq (values g) x.out.now 0 (omega arith) in
    let written : c.copy_from_slice.new.self ++ drop 8 x.out.now ≡ sets x.out.now 0 (values g) =
    ap (λ (w : List ℕ). w ++ drop 8 x.out.now) (rw b at c.copy_from_slice.ensures.after) ∙ sym stores in record {
      out_after = ap (lent 0) written ∙ handed-worked 8 (values g) (generated_of x.answer) x.out.now c.requires (omega arith) e;
      out_after_2 = ap (λ (w : List ℕ). worked (take 8 w)) written ∙ told-worked (values g) x.out.now c.requires ∙ e;
    }
