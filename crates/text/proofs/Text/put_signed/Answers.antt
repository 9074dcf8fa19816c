-- `text::Text::put_signed` meets its contract. Assumes nothing.
use mathlib.Core.Path.{◌≡◌, ap}
use mathlib.Core.List.{◌∷◌}
use Prim.Native.Nat.{◌+◌, ◌-◌}
use native.Mathlib.Omega.{arith}
use borrow.Author.Tests.{lt-ltb, le-ltb}
use Rattle.text.specs.Text.{decimal_text, signed_text}
use Rattle.text.proofs.Written.{followed, restated}
use Rattle.text.proofs.Text.put_signed.Goals as goal

pub returns-then-word-lt-FIRST_NEGATIVE-clause-gained : goal.returns-then-word-lt-FIRST_NEGATIVE-clause-gained
unfolding signed_text
returns-then-word-lt-FIRST_NEGATIVE-clause-gained c = rw (lt-ltb c.args.word 2147483648 (omega arith)) c.put_decimal.ensures.gained

pub returns-else-word-lt-FIRST_NEGATIVE-clause-gained : goal.returns-else-word-lt-FIRST_NEGATIVE-clause-gained
unfolding signed_text
returns-else-word-lt-FIRST_NEGATIVE-clause-gained c =
    let w = c.args.word in
    let e : 4294967295 - w + 1 ≡ 4294967296 - w = omega arith in
    rw (le-ltb w 2147483648 (omega arith)) (restated (followed c.put_byte.ensures c.put_decimal-else-word-lt-FIRST_NEGATIVE.ensures.gained) (ap (λ n. 45 ∷ decimal_text n) e))
