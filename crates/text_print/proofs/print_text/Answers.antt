-- The bytes that `text_print::print_text` writes are the text. Assumes nothing.
use Rattle.std.proofs.Common.{List, ℕ, subst}
use Rattle.std.specs.Bool.{OnTrue}
use Rattle.std.specs.Io.KnownBytes.{Appends}
use Rattle.text_print.proofs.Whole.{text_written}
use Rattle.text_print.proofs.print_text.Goals as goal

pub returns-in-Ok : goal.returns-in-Ok
returns-in-Ok g c =
    subst (λ (t : List ℕ). OnTrue c.write_text.result (Appends (g.O.Write.contents c.args.output.now) (g.O.Write.contents c.write_text.new.output) t))
    (text_written c.args.sheet.now _ c.text_of.new.out c.in-Ok.end c.in-Ok.ensures.outcome) c.write_text.ensures
