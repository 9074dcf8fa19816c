-- `typed_records::put_play` meets its contract. Assumes nothing.
use Rattle.text.proofs.Written.{followed}
use Rattle.typed_records.specs.Records.{play_bytes}
use Rattle.typed_records.proofs.put_play.Goals as goal

pub returns-clause-gained : goal.returns-clause-gained
unfolding play_bytes
returns-clause-gained c =
    followed (followed (followed c.put_named.ensures.gained c.put_given.ensures.gained) c.put_values.ensures.gained) c.put_tail.ensures.gained
