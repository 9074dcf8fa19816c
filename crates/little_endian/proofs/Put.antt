-- A law of `bytes4`: read back.
-- Assumes nothing.
use mathlib.Core.Path.{◌≡◌}
use Prim.Native.Nat.{ℕ, ◌+◌, ◌*◌, ◌/◌, ◌%◌, ◌<◌}
use native.Mathlib.Omega.{arith}
use Rattle.little_endian.specs.Bytes.{u32_at, bytes4}

-- the four bytes of a number hold it, where it fits
digits : (n a b c x y z w : ℕ) → n ≡ x + 256 * a → a ≡ y + 256 * b → b ≡ z + 256 * c → w ≡ c → x + 256 * y + 65536 * z + 16777216 * w ≡ n
digits n a b c x y z w p q r e = omega arith

pub bytes4_back : (n : ℕ) → n < 4294967296 → u32_at (bytes4 n) 0 ≡ n
unfolding bytes4
bytes4_back n h =
    let e2 : n / 65536 ≡ n / 256 / 256 = omega arith in
    let e3 : n / 16777216 ≡ n / 256 / 256 / 256 = omega arith in
    let c : n / 256 / 256 / 256 % 256 ≡ n / 256 / 256 / 256 = omega arith in
    rw (e2, e3) (digits n (n / 256) (n / 256 / 256) (n / 256 / 256 / 256) (n % 256) (n / 256 % 256) (n / 256 / 256 % 256) (n / 256 / 256 / 256 % 256) (omega arith) (omega arith) (omega arith) c)
