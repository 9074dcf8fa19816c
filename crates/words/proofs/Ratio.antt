-- A rounded fraction is no NaN, and an f64 holds the whole numbers that a percentage divides.
-- Assumes nothing.
use mathlib.Core.Bool.{Bool, true, false, not, cond}
use Prim.Native.Nat.{ℕ, zero, suc, ◌+◌, ◌*◌, ◌≤◌, ◌^◌}
use lib.Dec.{T, ltb, le→leb}
use lib.IntN.{pos}
use lib.Ieee.{Float, inf, Format, binary64, odd, units, round, in_float, is_nan, low, prec, emax}

pub in-float : (n : ℕ) → n ≤ 9007199254740992 → T (in_float binary64 (pos n))
unfolding in_float
in-float n h = le→leb n 9007199254740992 h

odd_no_nan : (d : ℕ) (s : Bool) (q k l : ℕ) → T (not (is_nan (odd d s q k l)))
unfolding odd is_nan
odd_no_nan d s zero k l = tt
odd_no_nan d s (suc q) k l = tt

cond_no_nan : (b : Bool) (x y : Float) → T (not (is_nan x)) → T (not (is_nan y)) → T (not (is_nan (cond b x y)))
cond_no_nan true x y h k = h
cond_no_nan false x y h k = k

units_no_nan : (f : Format) (s : Bool) (q k : ℕ) → T (not (is_nan (units f s q k)))
unfolding units is_nan
units_no_nan f s q k =
    cond_no_nan (ltb (q * 2 ^ k) (2 ^ (low f + suc (emax f)))) (odd (suc (prec f)) s q k (low f)) (inf s) (odd_no_nan (suc (prec f)) s q k (low f)) tt

pub round_no_nan : (f : Format) (s : Bool) (n d : ℕ) → T (not (is_nan (round f s n d)))
unfolding round
round_no_nan f s n d = units_no_nan f s _ _
