-- Lists of numbers, as document 01's answers in an output and document 02's rows of a table make them: a list with others put in place of
-- some of its numbers, and pieces one after the other.
use Rattle.std.specs.Prelude.{List, [], ◌++◌, ℕ, zero, suc, ◌+◌, length, take, drop}

-- s with vs in place of what stood from i on
unfoldable pub put : List ℕ → ℕ → List ℕ → List ℕ
put s i vs = take i s ++ vs ++ drop (i + length vs) s

-- f 0 ++ .. ++ f (n - 1)
abbrev pub joined : (ℕ → List ℕ) → ℕ → List ℕ
joined f zero = []
joined f (suc n) = joined f n ++ f n
