-- `typed_records::presence_of` meets its contract. Assumes nothing.
use Rattle.typed_records.specs.Records.{presence}
use Rattle.typed_records.proofs.presence_of.Goals as goal

pub returns : goal.returns
unfolding presence
returns c = rw (c.flag_of.ensures.0, c.flag_of-2.ensures.0, c.flag_of-3.ensures.0, c.flag_of-4.ensures.0, c.flag_of-5.ensures.0, c.flag_of-6.ensures.0, c.flag_of-7.ensures.0, c.flag_of-8.ensures.0)
