-- Document 01, Nearest: "A split gives nonnegative counts to the missing judgements so that all five sum to remain. Here 'missing'
-- is read from the query, before step 1, so where step 1 sets n300 to 0 a split may still hold any n300. Five given counts are the
-- only split if they sum to remain, and otherwise there is none." `split` is the document's own term.
use Rattle.std.specs.Prelude.{ℕ, List, [], ◌∷◌, ◌≡◌, length}
use Rattle.std.proofs.Math.Option.{Option, none, some}
use Rattle.score_state.specs.Points.{hits}

-- a given count stands where it was given
abbrev pub Keeps : List (Option ℕ) → List ℕ → Type 0
Keeps [] xs = Unit {0}
Keeps (g ∷ gs) [] = Unit {0}
Keeps (none ∷ gs) (x ∷ xs) = Keeps gs xs
Keeps (some n ∷ gs) (x ∷ xs) = (x ≡ n) × Keeps gs xs

-- xs is a split for the counts gs of the query, some of them given, and the remaining hits
pub record IsSplit (gs : List (Option ℕ)) (remain : ℕ) (xs : List ℕ) : Type 0 where
  pub long : length xs ≡ length gs
  pub keeps : Keeps gs xs
  pub sums : hits xs ≡ remain
