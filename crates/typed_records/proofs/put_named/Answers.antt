-- `typed_records::put_named` meets its contract. Assumes nothing.
use Rattle.text.proofs.Written.{followed}
use Rattle.typed_records.specs.Records.{named_bytes}
use Rattle.typed_records.proofs.put_named.Goals as goal

pub returns-clause-gained : goal.returns-clause-gained
unfolding named_bytes
returns-clause-gained c =
    rw (← c.value_of-chart.ensures, ← c.value_of.ensures, ← c.value_of-2.ensures, ← c.low.ensures, ← c.low-2.ensures, ← c.low-3.ensures, ← c.low-4.ensures)
    (followed (followed (followed c.put_byte.ensures c.put_byte-2.ensures) c.put_byte-3.ensures) c.put_byte-4.ensures)
