-- `fault_text::put_sentence` meets its contract. Assumes nothing.
use borrow.Author.Tests.{eq-eqb, ne_eqb}
use Rattle.text.proofs.Written.{followed}
use Rattle.fault_text.specs.FaultText.{value_missing, sentence_of}
use Rattle.fault_text.proofs.put_sentence.Goals as goal

pub returns-then-number-eq5-clause-gained : goal.returns-then-number-eq5-clause-gained
unfolding sentence_of value_missing
returns-then-number-eq5-clause-gained c = rw (eq-eqb c.args.number 5 c.if-number-eq5.true) (followed c.put_bytes.ensures c.put_word.ensures.gained)

pub returns-else-number-eq5-clause-gained : goal.returns-else-number-eq5-clause-gained
unfolding sentence_of
returns-else-number-eq5-clause-gained c = rw (ne_eqb c.args.number 5 c.if-number-eq5.false) (followed c.put_word-else-number-eq5.ensures.gained c.put_phrase.ensures.gained)
