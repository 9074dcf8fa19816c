-- Document 01, Records: "presence u8, bits 0 to 7 for n320, n300, n200, n100, n50, misses, acc, passed". A presence bit and a
-- number stand for the Rust's `Option<u32>`. A missing field's number is not looked at.
use Rattle.std.specs.Prelude.{ℕ, zero, suc, ◌+◌, ◌/◌, ◌%◌, Bool, true, false, cond, List, [], ◌∷◌, eqb}
use Rattle.std.proofs.Math.Option.{Option, none, some}
use Rattle.score_state.specs.declared.HitResults.{HitResults}
use Rattle.inspect.specs.declared.Missing.{Missing}
use Rattle.inspect.specs.declared.Missing.TheVariants.{Nothing, One, Two, ThreePlus}

-- the bit that has this place value: 1 for n320, 2, 4, 8, 16 for n50, 32 for misses, 128 for passed
abbrev pub has : ℕ → ℕ → Bool
has presence place = eqb (presence / place % 2) 1

-- a number that is given, or missing
abbrev pub given : Bool → ℕ → Option ℕ
given true n = some n
given false n = none

-- ---- five counts by a presence number: 1 for n320, 2, 4, 8, 16 for n50; higher bits are not looked at

-- the given ones among five numbers
abbrev pub five_given : ℕ → ℕ → ℕ → ℕ → ℕ → ℕ → List (Option ℕ)
five_given k a b c d e = given (has k 1) a ∷ given (has k 2) b ∷ given (has k 4) c ∷ given (has k 8) d ∷ given (has k 16) e ∷ []

-- the given ones among five counts
abbrev pub givens_of : ℕ → HitResults → List (Option ℕ)
givens_of k c = five_given k c.n320 c.n300 c.n200 c.n100 c.n50

-- 1 where the bit is not set
abbrev pub lacks : Bool → ℕ
lacks h = cond h 0 1

-- how many of the five are missing
unfoldable pub lacking : ℕ → ℕ
lacking k = lacks (has k 1) + (lacks (has k 2) + (lacks (has k 4) + (lacks (has k 8) + (lacks (has k 16) + 0))))

-- so many of them as the code's enum
abbrev pub missing_of : ℕ → Missing
missing_of zero = Nothing
missing_of (suc zero) = One
missing_of (suc (suc zero)) = Two
missing_of (suc (suc (suc n))) = ThreePlus

-- `unwrap_or(0)` of the five; the misses are as they were
unfoldable pub unwrap_or_zero : ℕ → HitResults → HitResults
unwrap_or_zero k c =
    record {
      n320 = cond (has k 1) c.n320 0;
      n300 = cond (has k 2) c.n300 0;
      n200 = cond (has k 4) c.n200 0;
      n100 = cond (has k 8) c.n100 0;
      n50 = cond (has k 16) c.n50 0;
      misses = c.misses;
    }
