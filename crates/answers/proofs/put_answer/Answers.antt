-- `answers::put_answer` meets its contract. Assumes nothing.
use mathlib.Core.Path.{ap, ◌∙◌}
use mir.Syntax.{w32}
use native.Mathlib.Omega.{arith}
use mir.ValLaws.{to_z-of_z}
use Rattle.points_left.specs.Left.{bits_of}
use Rattle.answers.proofs.Written.{put-counts, Put-refused}
use Rattle.answers.proofs.put_answer.Goals as goal

pub returns-in-Ok : goal.returns-in-Ok
returns-in-Ok c =
    let x = c.args in
    let back = to_z-of_z w32 c.in-Ok.g.left (record { sfits = omega arith }) in
    put-counts x.out.now x.at x.answer c.in-Ok.g _ _ c.in-Ok.is (c.bits_of.ensures ∙ ap bits_of back) c.put_fields.ensures

pub returns-in-Err : goal.returns-in-Err
returns-in-Err c =
    let x = c.args in
    let d = c.default.ensures in
    Put-refused x.out.now x.at x.answer c.in-Err.refusal c.into.result _ c.in-Err.is c.into.ensures
    (c.put_fields-in-Err.ensures ∙ rw (d.0, d.1.0, d.1.1.0, d.1.1.1.0, d.1.1.1.1.0, d.1.1.1.1.1))
