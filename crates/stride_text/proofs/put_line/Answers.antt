-- `put_line`: the first number, the others with a space before each, the end.
use mathlib.Core.Path.{◌≡◌, ap, ◌∙◌}
use mathlib.Core.List.{List, ◌∷◌}
use Prim.Native.Nat.{ℕ, ◌+◌, ◌-◌}
use native.Mathlib.Omega.{arith}
use lib.ListN.{length, get_or, take, drop}
use Rattle.std.proofs.lemmas.List.{get_or-take, get_or-drop}
use Rattle.text.specs.Text.{decimal_text}
use Rattle.text.proofs.Written.{nothing, restated, followed, next_piece}
use Rattle.stride_text.proofs.Lines.{more, line_made}
use Rattle.stride_text.proofs.put_line.Goals as goal

pub loop-n-init : goal.loop-n-init
loop-n-init c = (omega arith, nothing c.put_decimal.new.self (omega arith))

pub loop-n-preserved : goal.loop-n-preserved
loop-n-preserved c =
    let numbers = c.args.numbers.now in
    let l = c.loop-n in
    let i = l.n-index in
    let rest : List ℕ = take (length numbers - 1) (drop 1 numbers) in
    let swap : 1 + i ≡ i + 1 = omega arith in
    let e : get_or rest i 0 ≡ get_or numbers (i + 1) 0 =
    get_or-take (length numbers - 1) (drop 1 numbers) i 0 (omega arith) ∙ get_or-drop 1 numbers i 0 ∙ ap (λ j. get_or numbers j 0) swap in
    (omega arith, next_piece (more numbers) i l.invariant.1 (restated c.put_next.ensures.gained (ap (λ n. 32 ∷ decimal_text n) e)))

pub returns-clause-gained : goal.returns-clause-gained
returns-clause-gained c =
    let l = c.loop-n in
    restated (followed (followed c.put_decimal.ensures.gained l.invariant.1) c.put_byte.ensures) (line_made c.args.numbers.now l.n-index (omega arith))
