-- Document 01, Records: "'Given' means present, 'missing' the opposite". Five counts some of which are given, from n320 to n50,
-- as the Rust's `Option<u32>`s.
use Rattle.std.specs.Prelude.{ℕ, ◌+◌, ◌*◌, List, [], ◌∷◌}
use Rattle.std.specs.Prelude.{Some, None}
use Rattle.std.specs.declared.option.Option as Code
use Rattle.std.proofs.Math.Option.{Option, none, some}

-- the code's `Option` as the definitions have it
abbrev pub option_of : {A : Type 0} → Code.Option A → Option A
option_of None = none
option_of (Some x) = some x

-- `unwrap_or`
unfoldable pub or : Option ℕ → ℕ → ℕ
or none d = d
or (some n) d = n

-- the weights whose counts are missing
unfoldable pub missing : List ℕ → List (Option ℕ) → List ℕ
missing [] gs = []
missing (w ∷ ws) [] = []
missing (w ∷ ws) (none ∷ gs) = w ∷ missing ws gs
missing (w ∷ ws) (some n ∷ gs) = missing ws gs

-- the hits of the given counts
unfoldable pub given_hits : List (Option ℕ) → ℕ
given_hits [] = 0
given_hits (g ∷ gs) = or g 0 + given_hits gs

-- the points of the given counts
unfoldable pub given_points : List ℕ → List (Option ℕ) → ℕ
given_points [] gs = 0
given_points (w ∷ ws) [] = 0
given_points (w ∷ ws) (g ∷ gs) = w * or g 0 + given_points ws gs

-- all counts: the given ones, and xs at the missing places
unfoldable pub fill : List (Option ℕ) → List ℕ → List ℕ
fill [] xs = []
fill (none ∷ gs) [] = 0 ∷ fill gs []
fill (none ∷ gs) (x ∷ xs) = x ∷ fill gs xs
fill (some n ∷ gs) xs = n ∷ fill gs xs
