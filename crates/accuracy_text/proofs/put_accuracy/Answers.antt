-- `accuracy_text::put_accuracy` meets its contract. Assumes nothing.
use mathlib.Core.Path.{sym, ap, ◌∙◌}
use mathlib.Core.List.{[], ◌∷◌}
use native.Mathlib.Omega.{arith}
use Rattle.text.proofs.Written.{nothing, followed, restated}
use Rattle.std.specs.Prelude.{Some, None}
use Rattle.percent.proofs.Fewest.{shortest-reads}
use Rattle.typed_line.specs.Keywords.{acc}
use Rattle.accuracy_text.specs.AccuracyText.{spaced, percent_text, words_by}
use Rattle.accuracy_text.proofs.Pieces.{two, words-none, words-by}
use Rattle.accuracy_text.proofs.put_accuracy.Goals as goal

pub returns-then-not-given-clause-gained : goal.returns-then-not-given-clause-gained
unfolding spaced
returns-then-not-given-clause-gained c =
    let x = c.args in
    restated (nothing x.text.now (omega arith)) (ap spaced (words-none x.given x.bits c.if-not-given.true))

pub put_percent-requires-clause-places_bound : goal.put_percent-requires-clause-places_bound
put_percent-requires-clause-places_bound c =
    let r = shortest-reads c.args.bits c.in-Some.p.digits c.in-Some.p.places (sym c.percentage_of.ensures ∙ c.in-Some.is) in
    (r.few, r.small)

pub returns-in-Some-clause-gained : goal.returns-in-Some-clause-gained
unfolding words_by acc
returns-in-Some-clause-gained c =
    let x = c.args in
    let p = c.in-Some.p in
    let w = words-by x.given x.bits (Some p) c.if-not-given.false (sym c.in-Some.is ∙ c.percentage_of.ensures) in
    restated (followed c.put_word.ensures.gained c.put_percent.ensures.gained) (two (acc ∷ []) (percent_text p.digits p.places ∷ []) ∙ ap spaced w)

pub returns-in-None-clause-gained : goal.returns-in-None-clause-gained
returns-in-None-clause-gained c =
    let x = c.args in
    let w = words-by x.given x.bits None c.if-not-given.false (sym c.in-None.is ∙ c.percentage_of.ensures) in
    restated c.put_bits.ensures.gained (ap spaced w)
