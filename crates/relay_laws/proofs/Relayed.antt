-- Document 02, L9: "each chart's counts sum to its total, the charts' counts add up to the pool, and every other set of splits with those
-- misses is at least as far from the pooled target", for every weighting; and that a pool always has a split.
-- Assumes nothing.
use Prim.Native.Nat.{ℕ}
use mathlib.Core.Bool.{false}
use mathlib.Core.List.{List}
use mathlib.Core.Option.{some}
use mathlib.Core.Path.{◌≡◌, refl, sym, ap, ◌∙◌}
use native.Mathlib.Omega.{arith}
use borrow.Author.Tests.{le-ltb}
use Rattle.score_state.specs.Points.{hits, points}
use Rattle.score_state.specs.Given.{given_hits, or}
use Rattle.nearest_laws.specs.Nearest.{Weighting, found, nearest, stops, all_given}
use Rattle.nearest_laws.proofs.Nearest.{found_split, found-near}
use Rattle.relay_laws.specs.Pool.{all_missing, pooled, deals, added, all_points, Relayed}
use Rattle.relay_laws.proofs.Deals.{deals-splits, deals-added, added-points, added_split}

-- no count is given, so check 14 stops no pool
never_stops : (remain : ℕ) → stops all_missing remain ≡ false
unfolding stops given_hits all_given or
never_stops remain = rw (le-ltb remain 0 (omega arith))

pub pool_found : (ws : List ℕ) (T : ℕ) (rs : List ℕ) → nearest ws all_missing T (hits rs) ≡ some (pooled ws T rs)
unfolding nearest pooled
pool_found ws T rs = rw (never_stops (hits rs))

pub relayed : (ws : List ℕ) (T : ℕ) (rs : List ℕ) → Weighting ws → Relayed ws T rs (deals (pooled ws T rs).counts rs)
unfolding pooled
relayed ws T rs w =
    let R = hits rs in
    let pool = (found ws all_missing T R).counts in
    let go = never_stops R in
    let i = found_split ws all_missing T R w refl go in
    let s = deals-splits pool rs i.long i.sums in
    let a = deals-added pool rs i.long i.sums in
    record {
      splits = s;
      adds_up = a;
      near = λ xss t.
          let p : all_points ws (deals pool rs) ≡ points ws pool = sym (added-points ws s) ∙ ap (λ (z : List ℕ). points ws z) a in
          rw (p, ← added-points ws t) (found-near ws all_missing T R w refl go (added xss) (added_split t));
    }
