-- The whole sheet: the three outcomes of a text, and the six parts of a sheet one after the other.
-- Assumes nothing.
use mathlib.Core.Path.{◌≡◌, refl, ap, ◌∙◌}
use mathlib.Core.List.{List, ◌++◌}
use Prim.Native.Nat.{ℕ, ◌+◌, ◌<◌, ◌≤◌}
use native.Mathlib.Omega.{arith}
use lib.ListN.{length, drop, length-append}
use borrow.Author.Tests.{lt-ltb, le-ltb}
use Rattle.std.specs.Prelude.{Ok, Err}
use Rattle.little_endian.specs.Bytes.{bytes4}
use Rattle.words.specs.Lines.{lines}
use Rattle.typed_line.specs.declared.Kind.TheVariants.{Chart, Weights, Play}
use Rattle.typed_sheet.specs.declared.LineFault.{LineFault}
use Rattle.typed_sheet.specs.declared.Tally.{Tally}
use Rattle.typed_sheet.specs.declared.TypedError.TheVariants.{Faulty, Short}
use Rattle.typed_sheet.specs.Typed.{records, tally_of, sheet_size, sheet_bytes, outcome_of, typed_sheet, Says}
use Rattle.typed_sheet.proofs.Tallies.{Fine}

pub length_four : (n : ℕ) → length (bytes4 n) ≡ 4
unfolding bytes4
length_four n = refl

pub length_sections : (text : List ℕ) (c w p : ℕ)
    → length (sheet_bytes text c w p) ≡ 12 + length (records Chart (lines text)) + length (records Weights (lines text)) + length (records Play (lines text))
unfolding sheet_bytes
length_sections text c w p = simp (length-append, length_four c, length_four w, length_four p) (omega arith)

pub at_fault : (text out : List ℕ) (told : LineFault) → tally_of text ≡ Err told → Says (typed_sheet text out) (Err (Faulty told)) out
unfolding typed_sheet outcome_of
at_fault text out told e = rw e (record { answers = refl; holds = refl })

module _ (text out : List ℕ) (t : Tally) (e : tally_of text ≡ Ok t) where
  pub too_short : length out < sheet_size t → Says (typed_sheet text out) (Err Short) out
  unfolding typed_sheet outcome_of
  too_short k = rw (e, lt-ltb (length out) (sheet_size t) k) (record { answers = refl; holds = refl })

  -- the sheet's bytes at the front of the output
  pub in_full : sheet_size t ≤ length out → (size : ℕ) (out' : List ℕ) → size ≡ sheet_size t → out' ≡ sheet_bytes text t.charts t.weights t.plays ++ drop size out
      → Says (typed_sheet text out) (Ok size) out'
  unfolding typed_sheet outcome_of
  in_full k size out' z a =
      rw (e, le-ltb (length out) (sheet_size t) k) (record { answers = ap Ok z; holds = a ∙ ap (λ (m : ℕ). sheet_bytes text t.charts t.weights t.plays ++ drop m out) z })

pub sheet-length : (text : List ℕ) (t : Tally) → Fine text t → length (sheet_bytes text t.charts t.weights t.plays) ≡ sheet_size t
sheet-length text t f = length_sections text t.charts t.weights t.plays ∙ omega (arith, f.charts, f.weights, f.plays)
