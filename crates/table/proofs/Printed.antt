-- What is printed of a sheet, from the facts that the code has of its calls.
-- Assumes nothing.
use mathlib.Core.Path.{◌≡◌, ap, sym, ◌∙◌}
use mathlib.Core.List.{List}
use Prim.Native.Nat.{ℕ}
use Rattle.sheets_laws.specs.Sheets.{sheet_of}
use Rattle.sheets.specs.Worked.{worked_of}
use Rattle.std.specs.Prelude.{Result}
use Rattle.refusals.specs.declared.Refusal.{Refusal}
use Rattle.sheets.specs.declared.Worked.{Worked}
use Rattle.table.specs.Table.{sheet_text, room, printed_of}

-- the text of the answer's case is the text of the sheet
pub by_case : (s o : List ℕ) (r a : Result Worked Refusal) → r ≡ a → worked_of r o ≡ sheet_of s room → sheet_text (worked_of a o) ≡ printed_of s
unfolding printed_of
by_case s o r a e says = ap (λ (x : Result Worked Refusal). sheet_text (worked_of x o)) (sym e) ∙ ap sheet_text says
