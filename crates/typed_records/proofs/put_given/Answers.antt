-- `typed_records::put_given` meets its contract. Assumes nothing.
use Rattle.text.proofs.Written.{followed}
use Rattle.typed_records.specs.Records.{given_bytes}
use Rattle.typed_records.proofs.put_given.Goals as goal

pub returns-clause-gained : goal.returns-clause-gained
unfolding given_bytes
returns-clause-gained c =
    rw (← c.value_of.ensures, ← c.low.ensures, ← c.presence_of.ensures, ← c.flag_of.ensures.0)
    (followed (followed (followed c.put_byte.ensures c.put_byte-2.ensures) c.put_byte-3.ensures) c.put_byte-4.ensures)
