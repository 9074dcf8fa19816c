-- target_numerator, an f64 cast to i64, is the rounded target of crate `inspect`. Assumes nothing.
use Prim.Native.Nat.{ℕ, ◌*◌, ◌^◌, ◌≤◌, ◌<◌}
use mathlib.Core.Path.{◌≡◌, refl, sym, ap, ◌∙◌}
use mathlib.Core.Bool.{true, false}
use native.Mathlib.Nat.{zero-mul, le_of_lt, le_trans, lt_of_le_of_lt, lt_of_lt_of_le}
use lib.Dec.{T, le→leb, lit<, lit≤}
use lib.IntN.{pos}
use lib.Ieee.{Float, nan, inf, fin, binary64, up, down, round, lt, le, of_int, in_float, to_signed}
use lib.Ieee.Fits.{down_pos}
use lib.Ieee.Back.{positive_back}
use lib.Ieee.Nearest.{closest, closest_same}
use Rattle.rounding.specs.Round.{round_even, product, zero64, one64}
use Rattle.rounding.proofs.Floats.{Within, minus_zero, zero_is, product_within}
use Rattle.inspect.specs.Target.{target}
use Rattle.quotients.specs.Steps.{round_ties_even}
use Rattle.closest_f64.specs.Rust.{target_numerator}

signed_back : (w : ℕ) → w ≤ 2 ^ 53 → to_signed 63 (round binary64 false w 1) ≡ pos w
signed_back w h = unfold of_int in (positive_back binary64 63 w (unfold in_float in le→leb w (2 ^ 53) h) (lt_of_le_of_lt h (lit< tt))).1

minus_signed : to_signed 63 (fin true 0 (pos 0)) ≡ pos 0
unfolding to_signed
minus_signed = refl

nothing : (a d : ℕ) → 0 < d → a * 1 ≡ 0 → closest a d ≡ 0
nothing a d D h = closest_same a d 0 1 D (lit< tt) (h ∙ sym (zero-mul d))

rounded_signed : (z : Float) (n : ℕ) → n < 2 ^ 31 → Within z n → to_signed 63 (round_ties_even z) ≡ pos (round_even z)
unfolding round_ties_even round_even
rounded_signed nan n N h = absurd (unfold le in h.0)
rounded_signed (inf true) n N h = absurd (unfold le in h.0)
rounded_signed (inf false) n N h = absurd (unfold lt in h.1)
rounded_signed (fin false m e) n N h = signed_back (closest (m * up e) (down e)) (le_trans h.2 (le_of_lt (lt_of_lt_of_le N (lit≤ tt))))
rounded_signed (fin true m e) n N h =
    ap (λ (w : ℕ). to_signed 63 (round binary64 true w 1)) (nothing (m * up e) (down e) (down_pos e) (minus_zero m e h.0))
    ∙ ap (to_signed 63) (zero_is true) ∙ minus_signed

pub target-same : (acc : Float) (w total : ℕ) → w * total < 2 ^ 31 → T (le zero64 acc) → T (le acc one64) → target_numerator acc w total ≡ pos (target acc w total)
unfolding target_numerator target
target-same acc w total N h k = rounded_signed (product acc (w * total)) (w * total) N (product_within acc (w * total) N h k)

pub target-le : (acc : Float) (w total : ℕ) → w * total < 2 ^ 31 → T (le zero64 acc) → T (le acc one64) → target acc w total ≤ w * total
unfolding target
target-le acc w total N h k = (product_within acc (w * total) N h k).2
