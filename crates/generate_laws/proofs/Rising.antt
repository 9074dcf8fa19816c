-- Document 02, L8, of two answers of method 3 to queries alike but for acc: the walk's law, carried to what is answered. Assumes nothing.
use Prim.Native.Nat.{ℕ, ◌≤◌}
use mathlib.Core.Path.{◌≡◌, refl, sym, ◌∙◌}
use mathlib.Core.Bool.{false}
use mathlib.Core.List.{List}
use mathlib.Core.Option.{Option}
use lib.Ieee.{Float}
use Rattle.score_state.specs.Points.{points}
use Rattle.score_state.specs.Answer.{Answer}
use Rattle.inspect.specs.Inspect.{Inspect, givens, total_hits, misses, remain}
use Rattle.nearest_laws.specs.Nearest.{Weighting, stops}
use Rattle.nearest_laws.proofs.Rising.{rising}
use Rattle.generate_laws.specs.Generate.{target_of}
use Rattle.generate_laws.specs.Method3.{five_of, misses_of, walk_of, IsNearest}
use Rattle.generate_laws.proofs.Method3.{walked_is}

-- a query, as the generators see it, with another accuracy
abbrev pub with_accuracy : Option Float → Inspect → Inspect
with_accuracy o i =
    record {
      objects = i.objects;
      holds = i.holds;
      passed = i.passed;
      holds_passed = i.holds_passed;
      classic = i.classic;
      priority = i.priority;
      n320 = i.n320;
      n300 = i.n300;
      n200 = i.n200;
      n100 = i.n100;
      n50 = i.n50;
      misses = i.misses;
      acc = o;
    }

-- what the request says of the answers a and b to the queries i and k, whose accuracies are x and y, "under the same weights"
pub record RisingAnswers (ws : List ℕ) (i k : Inspect) (x y : Float) (a b : Answer (List ℕ)) : Type 0 where
  pub raised : target_of ws i x ≤ target_of ws k y → points ws (five_of a) ≤ points ws (five_of b)
  pub same : target_of ws i x ≡ target_of ws k y → (five_of a ≡ five_of b) × (misses_of a ≡ misses_of b)

pub rising_answers
    : (ws : List ℕ) (most : ℕ) (i : Inspect) (o : Option Float) (x y : Float) (a b : Answer (List ℕ)) → Weighting ws → stops (givens i) (remain i) ≡ false
    → IsNearest ws most i x a → IsNearest ws most (with_accuracy o i) y b → RisingAnswers ws i (with_accuracy o i) x y a b
unfolding total_hits misses remain
rising_answers ws most i o x y a b w s n m =
    let law = rising ws (givens i) (remain i) w refl in
    let f = walked_is ws i x s in
    let g = walked_is ws i y s in
    record {
      raised = λ t. rw (n.counts, m.counts) (law.raised (target_of ws i x) (target_of ws i y) (walk_of ws i x) (walk_of ws i y) f g t);
      same = λ t.
          (n.counts ∙ law.same (target_of ws i x) (target_of ws i y) (walk_of ws i x) (walk_of ws i y) f g t ∙ sym m.counts, n.capped ∙ sym m.capped);
    }
