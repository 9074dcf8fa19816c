-- What `typed_sheet::sheet_of` answers, case by case.
-- Assumes nothing.
use mathlib.Core.Path.{◌≡◌, refl, sym, ap, ◌∙◌, subst}
use mathlib.Core.List.{List, ◌++◌}
use mathlib.Core.Bool.{Bool, true, false}
use Prim.Native.Nat.{ℕ, ◌+◌, ◌≤◌}
use native.Mathlib.Omega.{arith}
use lib.Dec.{ltb}
use lib.ListN.{length, take, drop, length-append}
use lib.Seq.{take_at}
use borrow.Author.Tests.{ltb-true}
use Rattle.std.specs.Prelude.{Result, Ok, Err}
use Rattle.words.specs.Faults.{fault_number}
use Rattle.io.specs.Counts.{IsPrefixLen}
use Rattle.io.proofs.Counting.{prefix_len_of_le}
use Rattle.fault_text.specs.FaultText.{fault_text}
use Rattle.table.specs.Table.{printed_of}
use Rattle.typed_sheet.specs.declared.Tally.{Tally}
use Rattle.typed_sheet.specs.declared.LineFault.{LineFault}
use Rattle.typed_sheet.specs.declared.TypedError.{TypedError}
use Rattle.typed_sheet.specs.declared.TypedError.TheVariants.{Faulty, Short}
use Rattle.typed_sheet.specs.Typed.{tally_of, sheet_size, sheet_bytes, outcome_of, typed_sheet, Says}
use Rattle.typed_sheet.proofs.Tallies.{Fine, fine}
use Rattle.typed_sheet.proofs.Whole.{sheet-length}
use Rattle.typed_sheet.proofs.Inside.{Inside, inside}
use Rattle.typed_answer.specs.declared.Told.{Told}
use Rattle.typed_answer.specs.Answers.{Answer, made, told, answer_of, sheet_answer, printed, table_answer, answered, Held, Makes}

-- ---- answers that are not the same
no_fault : {n : ℕ} {e : TypedError} → ◌≡◌ {A = Result ℕ TypedError} (Ok n) (Err e) → ⊥
no_fault e = cc

told_one : {f g : LineFault} → ◌≡◌ {A = Result ℕ TypedError} (Err (Faulty f)) (Err (Faulty g)) → f ≡ g
told_one e = cc

not_short : {f : LineFault} → ◌≡◌ {A = Result ℕ TypedError} (Err (Faulty f)) (Err Short) → ⊥
not_short e = cc

module _ (text out : List ℕ) where
  -- the sheet
  module _ (t : Tally) (e : tally_of text ≡ Ok t) where
    abbrev sheet : List ℕ
    sheet = sheet_bytes text t.charts t.weights t.plays

    full_by : (n : ℕ) (out' message : List ℕ) (q : Bool) → ltb (length out) (sheet_size t) ≡ q → Says (typed_sheet text out) (Ok n) out'
        → Makes (sheet_answer text) (Ok n) out' message
    unfolding typed_sheet outcome_of sheet_answer answer_of
    full_by n out' message true k s = absurd (no_fault (rw (e, k) at s.answers))
    full_by n out' message false k s =
        let a = rw (e, k) at s.answers in
        let z : n ≡ sheet_size t = cc in
        let w : out' ≡ sheet ++ drop (sheet_size t) out = rw (e, k) at s.holds in
        let l : length sheet ≡ sheet_size t = sheet-length text t (fine text t e) in
        let m : length out' ≡ length sheet + length (drop (sheet_size t) out) = ap length w ∙ length-append sheet (drop (sheet_size t) out) in
        let f : take n out' ≡ sheet = rw (z, w) (take_at sheet (drop (sheet_size t) out) (sheet_size t) l) in
        record { held = prefix_len_of_le n out' (omega arith); is = rw e (ap made f) }

    -- no sheet is longer than 51,232 bytes
    short_by : (out' : List ℕ) (q : Bool) → ltb (length out) (sheet_size t) ≡ q → length out ≡ 51232 → Says (typed_sheet text out) (Err Short) out' → ⊥
    unfolding typed_sheet outcome_of
    short_by out' true k l s =
        let f : Fine text t = fine text t e in
        let m = ltb-true (length out) (sheet_size t) k in
        omega (arith, f.charts_cap, f.weights-cap, f.plays-cap)
    short_by out' false k l s = no_fault (sym (rw (e, k) at s.answers))

    no_told : (f : LineFault) (out' : List ℕ) (q : Bool) → ltb (length out) (sheet_size t) ≡ q → Says (typed_sheet text out) (Err (Faulty f)) out' → ⊥
    unfolding typed_sheet outcome_of
    no_told f out' true k s = not_short (rw (e, k) at s.answers)
    no_told f out' false k s = no_fault (sym (rw (e, k) at s.answers))

  -- a fault
  module _ (g : LineFault) (e : tally_of text ≡ Err g) where
    no_sheet : (n : ℕ) (out' : List ℕ) → Says (typed_sheet text out) (Ok n) out' → ⊥
    unfolding typed_sheet outcome_of
    no_sheet n out' s = no_fault (rw e at s.answers)

    no_short : (out' : List ℕ) → Says (typed_sheet text out) (Err Short) out' → ⊥
    unfolding typed_sheet outcome_of
    no_short out' s = not_short (sym (rw e at s.answers))

    fault_by : (f : LineFault) (out' : List ℕ) → Says (typed_sheet text out) (Err (Faulty f)) out'
        → told (fault_text f.line (fault_number f.fault) (take f.word.size (drop f.word.at text))) ≡ sheet_answer text
    unfolding typed_sheet outcome_of sheet_answer answer_of
    fault_by f out' s = let z : f ≡ g = told_one (rw e at s.answers) in rw (e, z)

  pub in_full : (r : Result ℕ TypedError) (n : ℕ) (out' message : List ℕ) → r ≡ Ok n → Says (typed_sheet text out) r out' → Makes (sheet_answer text) (Ok n) out' message
  in_full r n out' message e s = go (tally_of text) refl (subst (λ (x : Result ℕ TypedError). Says (typed_sheet text out) x out') e s)
    where
      go : (x : Result Tally LineFault) → tally_of text ≡ x → Says (typed_sheet text out) (Ok n) out' → Makes (sheet_answer text) (Ok n) out' message
      go (Ok t) h w = full_by t h n out' message (ltb (length out) (sheet_size t)) refl w
      go (Err g) h w = absurd (no_sheet g h n out' w)

  pub at_fault : (r : Result ℕ TypedError) (f : LineFault) (out' : List ℕ) → r ≡ Err (Faulty f) → Says (typed_sheet text out) r out'
      → told (fault_text f.line (fault_number f.fault) (take f.word.size (drop f.word.at text))) ≡ sheet_answer text
  at_fault r f out' e s = go (tally_of text) refl (subst (λ (x : Result ℕ TypedError). Says (typed_sheet text out) x out') e s)
    where
      go : (x : Result Tally LineFault) → tally_of text ≡ x → Says (typed_sheet text out) (Err (Faulty f)) out'
          → told (fault_text f.line (fault_number f.fault) (take f.word.size (drop f.word.at text))) ≡ sheet_answer text
      go (Ok t) h w = absurd (no_told t h f out' (ltb (length out) (sheet_size t)) refl w)
      go (Err g) h w = fault_by g h f out' w

  pub word_inside : (r : Result ℕ TypedError) (f : LineFault) (out' : List ℕ) → r ≡ Err (Faulty f) → Says (typed_sheet text out) r out' → f.word.at + f.word.size ≤ length text
  word_inside r f out' e s = subst (Inside (length text)) (sym s.answers ∙ e) (inside text out)

  pub never_short : (r : Result ℕ TypedError) (out' : List ℕ) → r ≡ Err Short → length out ≡ 51232 → Says (typed_sheet text out) r out' → ⊥
  never_short r out' e l s = go (tally_of text) refl (subst (λ (x : Result ℕ TypedError). Says (typed_sheet text out) x out') e s)
    where
      go : (x : Result Tally LineFault) → tally_of text ≡ x → Says (typed_sheet text out) (Err Short) out' → ⊥
      go (Ok t) h w = short_by t h out' (ltb (length out) (sheet_size t)) refl l w
      go (Err g) h w = no_short g h out' w

-- ---- the bytes that a call answers
pub held_bytes : (a : Answer) (r : Result ℕ Told) (n : ℕ) (out message : List ℕ) → r ≡ Ok n → Makes a r out message → IsPrefixLen n out
held_bytes a r n out message e s = subst (λ (x : Result ℕ Told). Held x out message) e s.held

pub held_fault : (a : Answer) (r : Result ℕ Told) (n : ℕ) (out message : List ℕ) → r ≡ Err (record { 0 = n }) → Makes a r out message → IsPrefixLen n message
held_fault a r n out message e s = subst (λ (x : Result ℕ Told). Held x out message) e s.held

-- ---- what is printed of the sheet
module _ (text : List ℕ) (r : Result ℕ Told) (n : ℕ) (sheet message : List ℕ) (s : Makes (sheet_answer text) r sheet message) where
  pub printed-is : r ≡ Ok n → made (printed_of (take n sheet)) ≡ table_answer text
  unfolding table_answer
  printed-is e = ap printed (subst (λ (x : Result ℕ Told). answered x sheet message ≡ sheet_answer text) e s.is)

  pub same_fault : r ≡ Err (record { 0 = n }) → (table : List ℕ) → Makes (table_answer text) (Err (record { 0 = n })) table message
  unfolding table_answer
  same_fault e table =
      record {
        held = held_fault (sheet_answer text) r n sheet message e s;
        is = ap printed (subst (λ (x : Result ℕ Told). answered x sheet message ≡ sheet_answer text) e s.is);
      }
