-- Document 02, L1: "Each answer gains `left`, an i32 after tried". An i32 and the u32 that has the same 32 bits: a number below zero
-- stands for itself plus 2^32.
use Rattle.std.specs.Prelude.{ℕ, ◌-◌, cond, ltb, ℤ, pos, negsuc}

-- the largest i32
abbrev pub most31 : ℕ
most31 = 2_147_483_647

-- `negsuc n` is −1 − n
abbrev pub bits_of : ℤ → ℕ
bits_of (pos n) = n
bits_of (negsuc n) = 4_294_967_295 - n

abbrev pub signed_of : ℕ → ℤ
signed_of n = cond (ltb n 2_147_483_648) (pos n) (negsuc (4_294_967_295 - n))
