-- Document 02, L8, proved of what a sheet answers: for every accepted sheet the rows written are such. Assumes nothing.
use Prim.Native.Nat.{ℕ, ◌<◌}
use mathlib.Core.Path.{◌≡◌, refl, sym, ap, ◌∙◌, subst}
use mathlib.Core.Bool.{Bool, true, false}
use mathlib.Core.List.{List, [], ◌∷◌, ◌++◌}
use mathlib.Core.Option.{none, some}
use lib.Ieee.{Float, binary64, of_bits}
use lib.ListN.{length}
use Rattle.score_state.specs.Answer.{status_of}
use Rattle.inspect.specs.Presence.{has}
use Rattle.inspect.specs.Inspect.{Inspect, acc_of, acc_by, givens, remain}
use Rattle.records.specs.declared.Row.{Row}
use Rattle.answers.specs.Answers.{written}
use Rattle.rows.specs.Rows.{query_of}
use Rattle.nearest_laws.specs.Nearest.{stops}
use Rattle.weighting.specs.Scoring.{weights_by, most_tried}
use Rattle.generate_laws.specs.Generate.{scored_answer}
use Rattle.generate_laws.specs.Method3.{five_of, misses_of, IsNearest}
use Rattle.generate_laws.proofs.Method3.{passed_0, passed_13, passed_14}
use Rattle.generate_laws.proofs.Rising as Answers
use Rattle.sheets_laws.specs.Sheets.{query_count, scoring_of, sheet_stop, sheet_of}
use Rattle.sheets_laws.specs.Demand3.{row, query, inspected, weights_for}
use Rattle.sheets_laws.specs.RisingRows.{with_acc, six_of, AlikeButForAcc, RisingRows}
use Rattle.sheets_laws.proofs.Demand3.{seen, status_back, values_back, weighting_for, passed-row, answered, demand_3}

-- rows alike but for acc have queries alike but for it
other_acc
    : (s : List ℕ) (j k : ℕ) → with_acc (row s k).acc (row s j) ≡ row s k
    → Answers.with_accuracy (inspected s k).acc (inspected s j) ≡ inspected s k
unfolding query_of
other_acc s j k e = subst (λ (r : Row). Answers.with_accuracy (seen s r).acc (inspected s j) ≡ seen s r) e refl

-- an acc that is not missing is its field's
acc_field : (b : Bool) (x : Float) → (acc_of (acc_by b x) ≡ none → ⊥) → acc_of (acc_by b x) ≡ some x
acc_field true x n = refl
acc_field false x n = absurd (n refl)

module _ (s out : List ℕ) (ok : sheet_stop s (length out) ≡ 0) where
  abbrev bytes : List ℕ
  bytes = (sheet_of s out).bytes

  -- a method 3 row whose status is 0 was stopped by no check, so demand 3 holds of it
  walked
      : (k : ℕ) → k < query_count s → (row s k).method ≡ 3 → status_of (written bytes k) ≡ 0
      → (stops (givens (inspected s k)) (remain (inspected s k)) ≡ false) × IsNearest (weights_for s k) (most_tried (scoring_of s)) (inspected s k) (of_bits binary64 (row s k).acc) (written bytes k)
  unfolding query_of
  walked k l m z =
      let ws = weights_for s k in
      let g : status_of (scored_answer ws (query s k)) ≡ 0 = ap status_of (sym (answered s out ok k l z)) ∙ sym (status_back s out ok k l) ∙ z in
      let t = passed-row s out ok k l z in
      let x = of_bits binary64 (row s k).acc in
      let a : (inspected s k).acc ≡ some x = acc_field (has (row s k).presence 64) x (passed_13 ws (query s k) m g) in
      let p = passed_14 ws (query s k) x m a g in
      (p, (demand_3 s out ok).nearest k x l m (record { chart = t.0; fields = t.1; numbers = passed_0 ws (query s k) g; given = a }) p)

  -- the six counts of a row with status 0 are its five and its misses
  six : (k : ℕ) → k < query_count s → status_of (written bytes k) ≡ 0 → six_of (written bytes k) ≡ five_of (written bytes k) ++ (misses_of (written bytes k) ∷ [])
  six k l z = rw (values_back s out ok k l (sym (status_back s out ok k l) ∙ z)) refl

  -- the walk's law of two such rows, of what is written for them
  answers
      : (j k : ℕ) → AlikeButForAcc s bytes j k
      → Answers.RisingAnswers (weights_for s j) (inspected s j) (inspected s k) (of_bits binary64 (row s j).acc) (of_bits binary64 (row s k).acc) (written bytes j) (written bytes k)
  answers j k c =
      let x = of_bits binary64 (row s j).acc in
      let y = of_bits binary64 (row s k).acc in
      let n = walked j c.first c.method c.first-status in
      let m = walked k c.second (ap (λ (r : Row). r.method) (sym c.alike) ∙ c.method) c.second-status in
      subst
      (λ (i : Inspect). IsNearest (weights_by (scoring_of s) i.classic) (most_tried (scoring_of s)) i y (written bytes k) → Answers.RisingAnswers (weights_for s j) (inspected s j) i x y (written bytes j) (written bytes k))
      (other_acc s j k c.alike)
      (Answers.rising_answers (weights_for s j) (most_tried (scoring_of s)) (inspected s j) (inspected s k).acc x y (written bytes j) (written bytes k) (weighting_for s out ok j) n.0 n.1)
      m.1

  -- alike but for acc, the rows have the same weights
  same-weights : (j k : ℕ) → AlikeButForAcc s bytes j k → weights_for s k ≡ weights_for s j
  same-weights j k c = ap (λ (i : Inspect). weights_by (scoring_of s) i.classic) (sym (other_acc s j k c.alike))

  pub rising_rows : RisingRows s bytes
  rising_rows =
      record {
        raised = λ j k c t. rw (same-weights j k c) ((answers j k c).raised (rw (same-weights j k c) at t));
        same = λ j k c t.
            let e = (answers j k c).same (rw (same-weights j k c) at t) in
            rw (six j c.first c.first-status, six k c.second c.second-status, e.0, e.1) refl;
      }
