-- `inspect::total_hits` meets its contract. Assumes nothing.
use native.Mathlib.Omega.{arith}
use mathlib.Core.Option.{Option}
use Prim.Native.Nat.{ℕ}
use mathlib.Core.Path.{◌≡◌, ap, sym, ◌∙◌}
use Rattle.inspect.specs.Presence.{given}
use Rattle.inspect.specs.Inspect.{shortened, total_hits}
use Rattle.inspect.proofs.Total.{total-classic}
use Rattle.inspect.proofs.total_hits.Goals as goal

pub returns-then-q : goal.returns-then-q
returns-then-q c =
    let q = c.args.q in
    (c.shortened-objects.ensures.0 ∙ ap (λ (p : Option ℕ). shortened p q.chart.n_objects) c.given-passed.ensures ∙ sym (total-classic q c.if-q.true), omega arith)

pub returns-else-q : goal.returns-else-q
unfolding total_hits
returns-else-q c = (rw (c.add.ensures, c.if-q.false, c.shortened-hold_notes.ensures.0, c.shortened-objects.ensures.0, c.given-passed.ensures), omega arith)
