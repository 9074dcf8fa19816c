-- Document 01, Target: "Counts of any method lie as far from it as the size of points − T".
use Rattle.std.specs.Prelude.{ℕ, ◌+◌, ◌-◌}

-- how far x lies from y
unfoldable pub gap : ℕ → ℕ → ℕ
gap x y = (x - y) + (y - x)
