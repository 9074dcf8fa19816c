-- `typed_records::put_tail` meets its contract. Assumes nothing.
use Rattle.text.proofs.Written.{followed}
use Rattle.typed_records.specs.Records.{tail_bytes}
use Rattle.typed_records.proofs.put_tail.Goals as goal

pub returns-clause-gained : goal.returns-clause-gained
unfolding tail_bytes
returns-clause-gained c =
    rw (← c.value_of.ensures, ← c.value_of-bits.ensures, ← c.value_of-2.ensures)
    (followed (followed (followed c.put_number.ensures.gained c.put_number-2.ensures.gained) c.put_number-3.ensures.gained) c.put_number-4.ensures.gained)
