-- Document 01, Program `sheet`: it "reads standard input (.. bytes at most ..)"; document 02, L2: "the program reads 51,209", L6: "reads the
-- ten weights .. from standard input". What can be said of a read, and of a program that
-- reads all and writes once.
use Rattle.std.specs.Prelude.{List, ℕ, ◌<◌, ◌≤◌, ◌≡◌, length, take, Option, Bool}
use Rattle.std.specs.Fn.{Once, FnOnceReturns}
use Rattle.std.specs.Borrow.{Bor, MutBor}
use Rattle.std.specs.Io.KnownBytes.{Appends, Consumes, IsAtEnd}

-- what the reader had left, where that is known, began with the n bytes that were read; if there was room for more, none is left
abbrev pub Took : Option (List ℕ) → Option (List ℕ) → List ℕ → ℕ → Type 0
Took old new buf n = Consumes old new (take n buf) × (n < length buf → IsAtEnd new)

-- f was handed these bytes and an output, left the output as `new` and answered r
pub record Answers {F O E : Type 0} (g : Once F (Bor (List ℕ) × (MutBor O × (MutBor E × Unit {0}))) (Bool × (MutBor O × (MutBor E × Unit {0})))) (f : F) (bytes : List ℕ) (old new : O) (r : Bool) : Type 0 where
  pub shown : Bor (List ℕ)
  pub shows : shown.now ≡ bytes
  pub output : MutBor O
  pub holds : output.now ≡ old
  pub errors : MutBor E
  pub left : MutBor O
  pub told : MutBor E
  pub met : FnOnceReturns g f (shown, (output, (errors, tt))) (r, (left, (told, tt)))
  pub leaves : left.now ≡ new

-- the input had at its front some bytes, at most so many, and all that it had if they are fewer; and this is so of them
abbrev pub Gives : ℕ → (List ℕ → Type 0) → Option (List ℕ) → Option (List ℕ) → Type 0
Gives most Holds had left = (bs : List ℕ) × (length bs ≤ most) × Consumes had left bs × (length bs < most → IsAtEnd left) × Holds bs

-- the input had at its front some bytes, at most so many, and all that it had if they are fewer; and the output got an answer to them
abbrev pub Passes : ℕ → (List ℕ → List ℕ → Type 0) → Option (List ℕ) → Option (List ℕ) → Option (List ℕ) → Option (List ℕ) → Type 0
Passes most Answers had left held now = (bs answer : List ℕ) × (length bs ≤ most) × Consumes had left bs × (length bs < most → IsAtEnd left) × Answers bs answer × Appends held now answer
