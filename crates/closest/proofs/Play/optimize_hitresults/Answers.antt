-- `closest::Play::optimize_hitresults` goes by the number of missing counts. Assumes nothing.
use Prim.Native.Nat.{ℕ, zero, suc, ◌≤◌}
use mathlib.Core.Path.{sym, ◌∙◌, subst}
use mathlib.Core.Logic.{⊎_elim}
use mathlib.Core.List.{[], ◌∷◌}
use native.Mathlib.Omega.{arith}
use types.Run.{OneOf}
use denote.Enum.Declared.{tag_of}
use Rattle.inspect.specs.Presence.{lacking, missing_of}
use Rattle.inspect.specs.declared.Missing.{Missing}
use Rattle.inspect.specs.contracts.Missing.{the_type}
use Rattle.inspect.proofs.Lacking.{is_three_plus}
use Rattle.closest_laws.proofs.Fills.{clamps, three_plus}
use Rattle.closest.specs.Code.{play_view}
use Rattle.closest.proofs.Play.optimize_hitresults.Goals as goal

few : (n : ℕ) → OneOf (0 ∷ 1 ∷ []) (tag_of the_type (missing_of n)) → n ≤ 1
few zero o = omega arith
few (suc zero) o = omega arith
few (suc (suc zero)) o = ⊎_elim (λ e. absurd (omega arith)) (λ e. absurd (omega arith)) o
few (suc (suc (suc n))) o = ⊎_elim (λ e. absurd (omega arith)) (λ e. absurd (omega arith)) o

pub returns-in-Nothing : goal.returns-in-Nothing
returns-in-Nothing c =
    let p = c.args.self in
    clamps (lacking p.presence) (play_view p) (few (lacking p.presence) (subst (λ (m : Missing). OneOf (0 ∷ 1 ∷ []) (tag_of the_type m)) c.missing_of.ensures c.in-Nothing.in-Nothing-own.keys1)) c.clamp_and_fill.result c.clamp_and_fill.ensures

pub returns-in-ThreePlus : goal.returns-in-ThreePlus
returns-in-ThreePlus c =
    let p = c.args.self in
    three_plus (lacking p.presence) (play_view p) (is_three_plus (lacking p.presence) (sym c.in-ThreePlus.is ∙ c.missing_of.ensures)) c.optimize_three_plus_missing.result c.optimize_three_plus_missing.ensures
