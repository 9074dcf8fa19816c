use mathlib.Core.Path.{◌≡◌}
use Prim.Native.Nat.{◌^◌, ◌<◌, ◌≤◌}
use lib.ListN.{length, drop}
use Rattle.words.specs.Values.{hex, hex_of}
use Rattle.words.proofs.hex_bits.Given as goal

abbrev pub invariant-loop-b : goal.invariant-loop-b
invariant-loop-b l = (l.b-index ≤ length l.w) × (length l.w ≡ 16) × (l.v < 16 ^ l.b-index) × (hex (drop l.b-index l.w) l.v ≡ hex_of l.w)
