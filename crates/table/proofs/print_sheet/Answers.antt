-- `table::print_sheet` meets its contract. Assumes nothing.
use mathlib.Core.Path.{ap, ◌∙◌}
use borrow.Author.Rules.{rules}
use native.Mathlib.Omega.{arith}
use Rattle.sheets.proofs.Laws.{queries_fit}
use Rattle.text.specs.Text.{refused_text}
use Rattle.text.proofs.Written.{restated, front, beyond}
use Rattle.text.specs.Written.{Gained}
use Rattle.table.specs.Table.{answer_text, room, printed_of}
use Rattle.table.proofs.Printed.{by_case}
use Rattle.table.proofs.print_sheet.Goals as goal
use Rattle.table.proofs.print_sheet.Goals.{in-Ok, in-Err}

pub put_table-requires-clause-n_bound : goal.put_table-requires-clause-n_bound
put_table-requires-clause-n_bound c =
    let fits = queries_fit _ _ _ _ _ _ c.in-Ok.is c.work_sheet.ensures.equation in
    (omega arith, fits)

pub returns : goal.returns
unfolding answer_text room
returns c =
    let w = c.work_sheet in
    let text = c.match-work_sheet in
    let p : Gained c.new-text.result text.text (printed_of c.args.sheet.now) =
    elim text.branch [
      | in-Ok a ↦ rw a.text-is (restated a.put_table.ensures (by_case c.args.sheet.now w.new.out w.result _ a.in-Ok.is w.ensures.equation))
      | in-Err a ↦ rw a.text-is (restated a.put_refused.ensures (ap refused_text a.into.ensures ∙ by_case c.args.sheet.now w.new.out w.result _ a.in-Err.is w.ensures.equation))
    ] in
    record {
      counted = search rules;
      printed = front p c.new-text.ensures.empty c.new-text.ensures.bytes c.len.ensures;
      beyond = beyond p c.new-text.ensures.empty c.new-text.ensures.bytes c.len.ensures;
    }
