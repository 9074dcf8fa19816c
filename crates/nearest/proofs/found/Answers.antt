-- `found` is the walk's split.
use Prim.Native.Nat.{ℕ}
use mathlib.Core.List.{List}
use mathlib.Core.Path.{◌≡◌, refl, sym, ap₂, ◌∙◌}
use Rattle.score_state.specs.Points.{weights_of}
use Rattle.score_state.specs.Given.{missing}
use Rattle.inspect.specs.Presence.{givens_of}
use Rattle.nearest_laws.specs.Nearest.{Found}
use Rattle.plan.specs.Planned.{folded_of}
use Rattle.nearest.specs.Walked.{places_of, walked_of}
use Rattle.nearest.specs.Outcome.{five_of}
use Rattle.plan.proofs.Missing.{missing-length}
use Rattle.nearest.proofs.Chosen.{walkable, chosen}
use Rattle.nearest.proofs.found.Goals as goal

abbrev made : List ℕ → ℕ → Found
made xs n = record { counts = xs; tried = n }

pub best_of-best-requires : goal.best_of-best-requires
best_of-best-requires c =
    let x = c.args in
    let h = c.requires in
    rw c.folded-folded.ensures (walkable c.plan_of-plan.ensures x.known x.remain_hits.0 x.points.0 h.0 h.1)

pub returns : goal.returns
unfolding walked_of
returns c =
    let x = c.args in
    let p = c.plan_of-plan in
    let f = c.folded-folded.ensures in
    let b = c.best_of-best in
    let q = folded_of x.weights x.presence in
    let r =
    chosen p.ensures x.known x.remain_hits.0 x.points.0 b.result
    (missing (weights_of x.weights) (givens_of q x.known)) refl c.requires.0
    (rw (missing-length x.weights q x.known) (rw f at b.ensures)) in
    let s : five_of c.placed.result ≡ places_of x.weights q x.known p.result b.result.spread = rw f at c.placed.ensures in
    rw (← p.ensures.target) (ap₂ made (s ∙ sym r.1) r.0)
