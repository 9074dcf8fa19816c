-- A refusal that `?` hands on is the same refusal. Assumes nothing.
use mathlib.Core.Path.{◌≡◌, ap}
use Rattle.std.specs.Prelude.{Result, Ok, Err, IsErrAnd}
use Rattle.refusals.specs.declared.Refusal.{Refusal}

pub err_handed : {A : Type 0} (r : Result A Refusal) (f : Refusal) → IsErrAnd r (λ e. e ≡ f) → r ≡ Err f
err_handed (Ok x) f h = absurd h
err_handed (Err e) f h = ap Err h
