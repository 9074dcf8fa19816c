-- Document 02, L4, of a row whose chart is found: "With count 0 nothing differs from earlier sheets but four bytes", and with own weights
-- "method 0 needs none". Assumes nothing.
use mathlib.Core.Path.{◌≡◌, refl, sym, ap, ◌∙◌}
use mathlib.Core.Bool.{Bool, true, false, cond}
use mathlib.Core.List.{List}
use Prim.Native.Nat.{ℕ, ◌<◌}
use native.Mathlib.Nat.{le_of_eq}
use native.Mathlib.Omega.{arith}
use borrow.Author.Tests.{eqb-true, eqb-false}
use lib.Dec.{eqb}
use Rattle.score_state.specs.Answer.{Answer, unless}
use Rattle.inspect.specs.Inspect.{inspect_of}
use Rattle.inspect.specs.Checks.{chart_over, stop_of}
use Rattle.inspect.specs.declared.Chart.{Chart}
use Rattle.inspect.specs.declared.Query.{Query}
use Rattle.weighting.specs.declared.Scoring.{Scoring}
use Rattle.weighting.specs.declared.Scoring.TheVariants.{Standard, Own}
use Rattle.generate_laws.specs.Generate.{by_method, scored_by, scored_answer, answer_by, generate_answer}
use Rattle.records.specs.declared.Row.{Row}
use Rattle.row_checks.specs.RowChecks.{fields_left, unknown_row, own_unfit, row_stop}
use Rattle.rows.specs.Rows.{query_of, found_answer}
use Rattle.rows.proofs.Stops.{found-stopped, found-worked}

-- without own weights: 7, 8, 9, then what the direct call answers
pub without_own
    : (row : Row) (chart : Chart) (n : ℕ) → n ≡ cond (chart_over chart) 7 (cond (unknown_row row) 8 (cond (fields_left row) 9 0))
    → found_answer Standard row chart ≡ unless (eqb n 0) n (generate_answer (query_of row chart))
unfolding found_answer row_stop own_unfit query_of generate_answer answer_by
without_own row chart n e = rw e

-- by method 0 a query is answered alike under any weights
zero_alike : (ws vs : List ℕ) (q : Query) → q.method ≡ 0 → scored_answer ws q ≡ scored_answer vs q
unfolding scored_by by_method
zero_alike ws vs q m =
    ap (λ (a : Answer (List ℕ)). unless (eqb (stop_of q) 0) (stop_of q) a)
    (ap (λ (n : ℕ). by_method ws n (inspect_of q)) m ∙ ap (λ (n : ℕ). by_method vs n (inspect_of q)) (sym m))

-- and 19 does not stop it
zero_fit : (sc : Scoring) (method : ℕ) → method ≡ 0 → own_unfit sc method ≡ own_unfit Standard method
unfolding own_unfit
zero_fit Standard method m = refl
zero_fit (Own w) method m = ap (own_unfit (Own w)) m

-- so a method 0 row is answered as without own weights
pub method_0 : (sc : Scoring) (row : Row) (chart : Chart) → row.method ≡ 0 → found_answer sc row chart ≡ found_answer Standard row chart
method_0 sc row chart m = go (eqb n 0) refl
  where
    n : ℕ
    n = row_stop Standard row chart

    same : n ≡ row_stop sc row chart
    same = unfold row_stop in rw (zero_fit sc row.method m)

    go : (b : Bool) → eqb n 0 ≡ b → found_answer sc row chart ≡ found_answer Standard row chart
    go true b =
        let z : n ≡ 0 = eqb-true n 0 b in
        sym (found-worked sc row chart _ _ n same (le_of_eq z) refl refl)
        ∙ zero_alike _ _ (query_of row chart) (unfold query_of in m)
        ∙ found-worked Standard row chart _ _ n refl (le_of_eq z) refl refl
    go false b =
        let p : 0 < n = (let z = eqb-false n 0 b in omega arith) in
        sym (found-stopped sc row chart n same p) ∙ found-stopped Standard row chart n refl p
