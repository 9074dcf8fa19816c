-- `table::put_table` meets its contract. Assumes nothing.
use Rattle.text.proofs.Written.{followed}
use Rattle.table.specs.Table.{header_text, table_text}
use Rattle.table.proofs.put_table.Goals as goal

pub returns : goal.returns
unfolding table_text header_text
returns c = followed (followed c.put_bytes.ensures c.put_rows.ensures.gained) c.put_total.ensures.gained
