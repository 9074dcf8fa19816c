use mathlib.Core.Path.{◌≡◌}
use Prim.Native.Nat.{◌-◌}
use Rattle.typed_text.specs.SheetText.{fault_at, first_from, first_stopped}
use Rattle.typed_text.proofs.check_rows.Given as goal

abbrev pub invariant-loop-index : goal.invariant-loop-index
invariant-loop-index l = first_from (fault_at l.sheet) l.index (l.p.queries - l.index) ≡ first_stopped l.sheet
