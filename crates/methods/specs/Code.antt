-- Document 01, Closest: "Without acc: method 0."; fast.rs, lines 14 to 16: the same. Asked by the code before it looks at the accuracy.
use Rattle.std.specs.Prelude.{ℕ, Bool, ltb, eqb, Float}
use Rattle.std.proofs.Math.Option.{Option, none, some}

-- whether the counts are IgnoreAccuracy's: by method 0, and without an accuracy by methods 1 and 2
unfoldable pub ignores_acc : ℕ → Option Float → Bool
ignores_acc method none = ltb method 3
ignores_acc method (some acc) = eqb method 0
