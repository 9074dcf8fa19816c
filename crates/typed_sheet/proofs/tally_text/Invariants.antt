use mathlib.Core.Path.{◌≡◌}
use lib.ListN.{length}
use Rattle.std.specs.Prelude.{Ok}
use Rattle.std.specs.Iterator.Adapters.{enumerate_source, enumerate_count}
use Rattle.words.specs.Walk.{lines_left}
use Rattle.typed_sheet.specs.Typed.{tally_all, tally_of}
use Rattle.typed_sheet.proofs.Within.{Inside}
use Rattle.typed_sheet.proofs.tally_text.Given as goal

abbrev pub invariant-loop-i : goal.invariant-loop-i
invariant-loop-i l = record {
  judged : tally_all (Ok l.t) (enumerate_count l.i-iterator) (lines_left (enumerate_source l.i-iterator)) ≡ tally_of l.text;
  inside : Inside (length l.text) (lines_left (enumerate_source l.i-iterator));
}
