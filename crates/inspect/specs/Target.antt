-- Document 01, Target: "The rounded target is T = acc times (w times total), one f64 product, taken to the nearest whole number,
-- a half to even." `rounded target` is the document's own term.
use Rattle.std.specs.Prelude.{ℕ, ◌*◌, Float}
use Rattle.rounding.specs.Round.{round_even, product}

-- acc, w, total hits (misses among them)
unfoldable pub target : Float → ℕ → ℕ → ℕ
target acc w total = round_even (product acc (w * total))
