-- Document 01, Records: "Status is 0 for a row that was worked, else the number that stopped it", and Language forms: "For every
-- answer that is an enum, a definition gives this paper's number and values for each case of the enum." An answer tells by its case
-- whether the input was worked or refused, so that no refusal, whatever its number, is the answer of an input that was worked.
use Rattle.std.specs.Prelude.{ℕ, Bool, true, false, List, [], eqb, Result, Ok, Err}
use Rattle.refusals.specs.declared.Refusal.{Refusal}
use Rattle.refusals.specs.Refusal.{number_of}

pub data Answer (A : Type 0) : Type 0 where
  -- worked, with these values
  worked : A → Answer A
  -- stopped by the check with this number
  refused : ℕ → Answer A

-- an answer of the code: its value, or the refusal's number
abbrev pub answer_of : {A : Type 0} → Result A Refusal → Answer A
answer_of (Ok x) = worked x
answer_of (Err r) = refused (number_of r)

abbrev pub status_of : {A : Type 0} → Answer A → ℕ
status_of (worked x) = 0
status_of (refused n) = n

-- the values of an answer that has a list of them: none where it is refused
abbrev pub values_of : Answer (List ℕ) → List ℕ
values_of (worked xs) = xs
values_of (refused n) = []

-- the answer a where the test says that nothing stops it, else stopped by n
abbrev pub unless : {A : Type 0} → Bool → ℕ → Answer A → Answer A
unless true n a = a
unless false n a = refused n

-- the answer that a status and values beside it tell
abbrev pub answer_in : ℕ → List ℕ → Answer (List ℕ)
answer_in status values = unless (eqb status 0) status (worked values)
