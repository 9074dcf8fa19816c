-- Document 02, L2: a query with holds passed is answered as on the chart that has the smaller number of hold notes. Assumes nothing.
use Prim.Native.Nat.{ℕ, zero, suc}
use mathlib.Core.Path.{◌≡◌, refl, ap, ◌∙◌}
use mathlib.Core.Bool.{false}
use mathlib.Core.List.{List}
use mathlib.Core.Option.{Option, none, some}
use lib.Dec.{eqb}
use lib.Ieee.{Float}
use Rattle.score_state.specs.Answer.{Answer, unless}
use Rattle.score_state.specs.Points.{standard}
use Rattle.score_state.specs.Given.{option_of}
use Rattle.inspect.specs.Inspect.{HitResultPriority, BestCase, WorstCase, inspect_of, givens, shortened, total_hits, misses, remain}
use Rattle.inspect.specs.Checks.{chart_over, count_over, stop_of}
use Rattle.rounded_target.specs.Answers.{target_values, target_answer}
use Rattle.inspect.proofs.Checked.{shortened-le, chart_within}
use Rattle.inspect.specs.declared.Query.{Query}
use Rattle.ignore_acc.specs.IgnoreAcc.{best_case, worst_case, ignore_acc}
use Rattle.fast.specs.Fast.{prelim, one_missing, upgrades, left_place, add_left, three_or_fewer, provide, with_acc, by_acc, fast}
use Rattle.closest_f64.specs.Rust.{args_of, closest_at_f64}
use Rattle.nearest_laws.specs.Nearest.{Found, nearest}
use Rattle.generate_laws.specs.Generate.{counted, closest_of, target_of, found_of, nearest_of, by_method, scored_by, answer_by, generate_answer}
use Rattle.generate_laws.specs.Reached.{reached_chart, on_reached}

-- ---- what the generators see: they take the hold notes by the total hits alone
ignore-alike : (q : Query) → ignore_acc (inspect_of q) ≡ ignore_acc (inspect_of (on_reached q))
unfolding ignore_acc best_case worst_case shortened total_hits misses remain
ignore-alike q = refl

place_alike : (p : HitResultPriority) (q : Query) → left_place p (inspect_of q) ≡ left_place p (inspect_of (on_reached q))
unfolding left_place
place_alike BestCase q = refl
place_alike WorstCase q = refl

fast-alike : (q : Query) (o : Option Float) → by_acc o (inspect_of q) ≡ by_acc o (inspect_of (on_reached q))
unfolding by_acc with_acc provide prelim one_missing three_or_fewer upgrades add_left shortened total_hits misses remain
fast-alike q none = ignore-alike q
fast-alike q (some acc) = rw (place_alike (inspect_of q).priority q)

closest-alike : (q : Query) (o : Option Float) → closest_of (inspect_of q) o ≡ closest_of (inspect_of (on_reached q)) o
unfolding closest_of closest_at_f64 args_of shortened total_hits misses remain
closest-alike q none = ap counted (ignore-alike q)
closest-alike q (some acc) = refl

found_alike : (ws : List ℕ) (q : Query) (acc : Float) (f : Option Found) → found_of ws (inspect_of q) acc f ≡ found_of ws (inspect_of (on_reached q)) acc f
unfolding found_of shortened total_hits misses
found_alike ws q acc none = refl
found_alike ws q acc (some f) = refl

nearest-alike : (ws : List ℕ) (q : Query) (o : Option Float) → nearest_of ws (inspect_of q) o ≡ nearest_of ws (inspect_of (on_reached q)) o
unfolding nearest_of shortened total_hits misses remain
nearest-alike ws q none = refl
nearest-alike ws q (some acc) =
    let i = inspect_of q in
    found_alike ws q acc (nearest ws (givens i) (target_of ws i acc) (remain i))

method-alike : (ws : List ℕ) (m : ℕ) (q : Query) → by_method ws m (inspect_of q) ≡ by_method ws m (inspect_of (on_reached q))
unfolding by_method fast
method-alike ws zero q = ap counted (ignore-alike q)
method-alike ws (suc zero) q = ap counted (fast-alike q (inspect_of q).acc)
method-alike ws (suc (suc zero)) q = closest-alike q (inspect_of q).acc
method-alike ws (suc (suc (suc n))) q = nearest-alike ws q (inspect_of q).acc

-- ---- the checks
stop_alike : (q : Query) → chart_over q.chart ≡ false → stop_of q ≡ stop_of (on_reached q)
unfolding stop_of count_over
stop_alike q e = rw (e, chart_within q.chart (reached_chart q).n_hold_notes (shortened-le (option_of q.holds) q.chart.n_hold_notes) e)

-- ---- the law, by every method and under any weights: check 7 alone is asked of the chart's own hold notes
pub reached_scored : (ws : List ℕ) (m : ℕ) (q : Query) → chart_over q.chart ≡ false → scored_by ws m q ≡ scored_by ws m (on_reached q)
unfolding scored_by
reached_scored ws m q e =
    ap (λ (n : ℕ). unless (eqb n 0) n (by_method ws m (inspect_of q))) (stop_alike q e)
    ∙ ap (λ (a : Answer (List ℕ)). unless (eqb (stop_of (on_reached q)) 0) (stop_of (on_reached q)) a) (method-alike ws m q)

pub reached_by : (m : ℕ) (q : Query) → chart_over q.chart ≡ false → answer_by m q ≡ answer_by m (on_reached q)
unfolding answer_by
reached_by m q = reached_scored (standard q.classic) m q

pub reached_alike : (q : Query) → chart_over q.chart ≡ false → generate_answer q ≡ generate_answer (on_reached q)
unfolding generate_answer
reached_alike q = reached_by q.method q

-- and of the rounded target with the hits it is of
pub reached_target : (q : Query) → chart_over q.chart ≡ false → target_answer q ≡ target_answer (on_reached q)
unfolding target_answer
reached_target q e =
    ap (λ (n : ℕ). unless (eqb n 0) n (target_values (inspect_of q) (inspect_of q).acc)) (stop_alike q e)
    ∙ ap (λ (a : Answer (List ℕ)). unless (eqb (stop_of (on_reached q)) 0) (stop_of (on_reached q)) a) (values-alike (inspect_of q).acc)
  where
    values-alike : (o : Option Float) → target_values (inspect_of q) o ≡ target_values (inspect_of (on_reached q)) o
    values-alike none = refl
    values-alike (some acc) = unfold total_hits misses remain shortened in refl
