-- `closest::fill_in` is `fill`, place by place. Assumes nothing.
use Prim.Native.Nat.{ℕ}
use mathlib.Core.Path.{ap}
use mathlib.Core.List.{List, [], ◌∷◌}
use mathlib.Core.Option.{Option}
use Rattle.score_state.specs.Points.{counts_of}
use Rattle.score_state.specs.declared.HitResults.{HitResults}
use Rattle.score_state.specs.Given.{fill}
use Rattle.inspect.specs.Presence.{has, given}
use Rattle.closest.proofs.fill_in.Goals as goal

pub returns : goal.returns
unfolding fill
returns c =
    let x = c.args in
    let g50 : List (Option ℕ) = given (has x.presence 16) x.counts.n50 ∷ [] in
    let g100 : List (Option ℕ) = given (has x.presence 8) x.counts.n100 ∷ g50 in
    let g200 : List (Option ℕ) = given (has x.presence 4) x.counts.n200 ∷ g100 in
    let g300 : List (Option ℕ) = given (has x.presence 2) x.counts.n300 ∷ g200 in (
      rw (← c.given.ensures, ← c.next_of.ensures g300, ← c.given-2.ensures, ← c.next_of-2.ensures g200, ← c.given-3.ensures, ← c.next_of-3.ensures g100, ← c.given-4.ensures, ← c.next_of-4.ensures g50, ← c.given-5.ensures, ← c.next_of-5.ensures []) (ap counts_of c.of.ensures),
      ap (λ (r : HitResults). r.misses) c.of.ensures,
    )
