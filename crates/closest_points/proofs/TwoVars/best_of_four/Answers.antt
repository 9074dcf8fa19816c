-- `closest_points::TwoVars::best_of_four`: the loop offers its four splits in turn. Assumes nothing.
use Prim.Native.Nat.{ℕ}
use mathlib.Core.Path.{ap}
use mathlib.Core.List.{List}
use mathlib.Core.Option.{Option}
use Rattle.std.proofs.Math.ListN.{drop_of_length-le}
use Rattle.std.proofs.lemmas.List.{drop_more}
use Rattle.closest_laws.specs.Loops.{Kept, scan, each, nearer}
use Rattle.closest_laws.proofs.Steps.{each_turn, each_done}
use Rattle.closest_points.proofs.TwoVars.best_of_four.Goals as goal
use Rattle.closest_points.proofs.TwoVars.best_of_four.Invariants.{tries}

pub loop-x-preserved : goal.loop-x-preserved
unfolding scan
loop-x-preserved c = each_turn nearer (tries c.args.self) _ _ _ _ _ _ (drop_more _ c.loop-x.x-index _ c.loop-x-test.true) c.split_at-near.ensures c.loop-x.invariant

pub returns : goal.returns
unfolding each
returns c =
    ap (λ (b : Kept (Option ℕ) (List ℕ)). b.result) (each_done nearer (tries c.args.self) _ _ _ (drop_of_length-le _ c.loop-x-test.false) c.loop-x.invariant)
