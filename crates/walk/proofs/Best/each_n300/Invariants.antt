use mathlib.Core.List.{[], ◌∷◌}
use Rattle.walk.specs.Code.{middle_of}
use Rattle.walk.proofs.Level.{Run}
use Rattle.walk.proofs.Best.each_n300.Given as goal

abbrev pub invariant-loop-n100 : goal.invariant-loop-n100
invariant-loop-n100 l = Run l.plan l.inner l.plan.n100 [] (l.inner.n300.0 ∷ l.inner.n200.0 ∷ []) l.initial.best l.n100-end l.n100 l.best

abbrev pub invariant-loop-n200 : goal.invariant-loop-n200
invariant-loop-n200 l = Run l.plan l.outer l.plan.n200 (middle_of l.plan.n100 ∷ []) (l.outer.n300.0 ∷ []) l.initial.best l.n200-end l.n200 l.best

abbrev pub invariant-loop-n300 : goal.invariant-loop-n300
invariant-loop-n300 l = Run l.plan l.at l.plan.n300 (middle_of l.plan.n200 ∷ middle_of l.plan.n100 ∷ []) [] l.initial.best l.n300-end l.n300 l.best
