use mathlib.Core.Path.{◌≡◌}
use mathlib.Core.List.{[]}
use Prim.Native.Nat.{◌-◌}
use lib.ListN.{length, drop}
use Rattle.accuracy_text.specs.AccuracyText.{last_digits}
use Rattle.accuracy_text.proofs.digits_of.Given as goal

abbrev pub invariant-loop-i : goal.invariant-loop-i
invariant-loop-i l = (length l.digits ≡ 16) × (last_digits l.base (16 - l.i) l.left (drop (16 - l.i) l.digits) ≡ last_digits l.base 16 l.n [])
