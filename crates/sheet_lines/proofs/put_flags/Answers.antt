-- `sheet_lines::put_flags` meets its contract. Assumes nothing.
use Rattle.accuracy_text.proofs.Pieces.{words}
use Rattle.typed_line.specs.Keywords.{worst, classic}
use Rattle.sheet_lines.specs.Lines.{flag_words}
use Rattle.sheet_lines.proofs.put_flags.Goals as goal

pub returns-clause-gained : goal.returns-clause-gained
unfolding flag_words worst classic
returns-clause-gained c = words _ _ c.put_flag.ensures.gained c.put_flag-2.ensures.gained
