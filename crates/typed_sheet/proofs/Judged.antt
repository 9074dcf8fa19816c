-- A line more of a text, and what is judged of all lines.
-- Assumes nothing.
use mathlib.Core.Path.{◌≡◌, refl}
use mathlib.Core.List.{List, [], ◌∷◌}
use Prim.Native.Nat.{ℕ, ◌+◌}
use Rattle.std.specs.Prelude.{Result, Err}
use Rattle.words.specs.Lines.{Part}
use Rattle.typed_line.specs.declared.Line.{Line}
use Rattle.typed_line.specs.Line.{line_of}
use Rattle.typed_sheet.specs.declared.LineFault.{LineFault}
use Rattle.typed_sheet.specs.declared.Tally.{Tally}
use Rattle.typed_sheet.specs.Typed.{tallies, tally_all}

pub one_more : (t : Result Tally LineFault) (n i m : ℕ) (p : Part) (ps qs : List Part) (l : Line) (r : Result Tally LineFault)
    → qs ≡ p ∷ ps → i ≡ n → m ≡ n + 1 → l ≡ line_of p → r ≡ tallies t (i + 1) l → tally_all t n qs ≡ tally_all r m ps
unfolding tally_all
one_more t n i m p ps qs l r q j k e h = rw (q, k, h, e, j)

-- after a fault all stays as it is
pub stays : (ps : List Part) (n : ℕ) (told : LineFault) → tally_all (Err told) n ps ≡ Err told
unfolding tally_all tallies
stays [] n told = refl
stays (p ∷ ps) n told = stays ps (n + 1) told

pub no_more : (t : Result Tally LineFault) (n : ℕ) (ps : List Part) → ps ≡ [] → tally_all t n ps ≡ t
unfolding tally_all
no_more t n ps e = rw e
