-- Document 01, Where a row or sheet stops: "A direct call .. refuses by 7, 8, 10 to 14 with no counts", and Language forms: "For
-- every answer that is an enum, a definition gives this paper's number and values for each case of the enum."
use Rattle.std.specs.Prelude.{ℕ, ◌*◌, ◌/◌, Bool, List, [], ◌∷◌, eqb, Float, Result, Ok, Err}
use Rattle.std.proofs.Math.Option.{Option, none, some}
use Rattle.score_state.specs.Points.{perfect_weight}
use Rattle.score_state.specs.Answer.{Answer, worked, refused, unless}
use Rattle.inspect.specs.Inspect.{Inspect, inspect_of, holds_by, total_hits, misses, remain}
use Rattle.inspect.specs.Target.{target}
use Rattle.inspect.specs.Checks.{stop_of}
use Rattle.inspect.specs.declared.Accuracy.TheVariants.{Given}
use Rattle.inspect.specs.declared.Query.{Query}
use Rattle.refusals.specs.declared.Refusal.{Refusal}
use Rattle.refusals.specs.Refusal.{number_of}
use Rattle.rounded_target.specs.declared.RoundedTarget.{RoundedTarget}

-- total hits, misses, remain and the rounded target of a query; without an accuracy there is none (13)
abbrev pub target_values : Inspect → Option Float → Answer (List ℕ)
target_values i none = refused 13
target_values i (some acc) = worked (total_hits i ∷ misses i ∷ remain i ∷ target acc (perfect_weight i.classic) (total_hits i) ∷ [])

-- what `rounded_target` answers
unfoldable pub target_answer : Query → Answer (List ℕ)
target_answer q = unless (eqb (stop_of q) 0) (stop_of q) (target_values (inspect_of q) (inspect_of q).acc)

-- each case of its answer
abbrev pub answer_of : Result RoundedTarget Refusal → Answer (List ℕ)
answer_of (Ok t) = worked (t.total_hits.0 ∷ t.misses.0 ∷ t.remain.0 ∷ t.target.0 ∷ [])
answer_of (Err r) = refused (number_of r)

-- the query of `target_numbers`: no count is given but misses and passed, by their own bits of presence, and the holds passed
abbrev pub target_query : ℕ → ℕ → Bool → ℕ → ℕ → ℕ → ℕ → ℕ → Float → Query
target_query objects holds classic presence misses passed holds_given holds_passed acc =
    record {
      chart = record { n_objects = objects; n_hold_notes = holds };
      method = 0;
      priority = 0;
      classic = classic;
      presence = presence / 32 * 32;
      n320 = 0;
      n300 = 0;
      n200 = 0;
      n100 = 0;
      n50 = 0;
      misses = misses;
      passed = passed;
      holds = holds_by holds_given holds_passed;
      acc = Given acc;
    }
