-- The four low bytes of a number, and how many bytes a record has.
-- Assumes nothing.
use mathlib.Core.Path.{◌≡◌, refl, ap, sym, ◌∙◌}
use Prim.Native.Nat.{ℕ, ◌+◌, ◌*◌, ◌/◌, ◌%◌, ◌<◌}
use native.Mathlib.Nat.{add-mul-div_left, add-mul-mod_self_left}
use native.Mathlib.Omega.{arith}
use lib.ListN.{length}
use Rattle.little_endian.specs.Bytes.{bytes4}
use Rattle.std.specs.Prelude.{Option, Some, None}
use Rattle.typed_line.specs.declared.Kind.{Kind}
use Rattle.typed_line.specs.declared.Kind.TheVariants.{Chart, Weights, Play}
use Rattle.typed_line.specs.declared.Line.{Line}
use Rattle.typed_records.specs.Records.{value_bytes, named_bytes, given_bytes, tail_bytes, play_bytes, bytes_by, record_bytes, record_size}

-- what weighs 256 times w or more does not change the digit of weight w
digit : (n r w z : ℕ) → 0 < w → n ≡ r + w * (256 * z) → r / w % 256 ≡ n / w % 256
digit n r w z h e = rw (e, add-mul-div_left r (256 * z) h) (sym (add-mul-mod_self_left (r / w) 256 z))

pub low_four : (n : ℕ) → bytes4 (n % 4294967296) ≡ bytes4 n
unfolding bytes4
low_four n =
    let r = n % 4294967296 in
    let q = n / 4294967296 in
    let e : n ≡ r + 4294967296 * q = omega arith in
    let f : n ≡ r + 256 * (16777216 * q) = omega arith in
    let a : r % 256 ≡ n % 256 = sym (ap (λ (m : ℕ). m % 256) f ∙ add-mul-mod_self_left r 256 (16777216 * q)) in
    let b : r / 256 % 256 ≡ n / 256 % 256 = digit n r 256 (65536 * q) (omega arith) (omega arith) in
    let c : r / 65536 % 256 ≡ n / 65536 % 256 = digit n r 65536 (256 * q) (omega arith) (omega arith) in
    let d : r / 16777216 % 256 ≡ n / 16777216 % 256 = digit n r 16777216 q (omega arith) (omega arith) in
    rw (a, b, c, d)

length-play : (l : Line) → length (play_bytes l) ≡ 48
unfolding play_bytes named_bytes given_bytes value_bytes tail_bytes bytes4
length-play l = refl

chart_size : (l : Line) → length (value_bytes l 2) ≡ 8
unfolding value_bytes bytes4
chart_size l = refl

weights_size : (l : Line) → length (value_bytes l 5) ≡ 20
unfolding value_bytes bytes4
weights_size l = refl

length_by : (k : Option Kind) (l : Line) → length (bytes_by k l) ≡ record_size k
length_by (Some Chart) l = chart_size l
length_by (Some Weights) l = weights_size l
length_by (Some Play) l = length-play l
length_by None l = length-play l

pub length_record : (l : Line) → length (record_bytes l) ≡ record_size l.kind
length_record l = length_by l.kind l
