-- `fault_text::tell_fault` meets its contract. Assumes nothing.
use Rattle.text.proofs.Written.{front, beyond}
use Rattle.fault_text.proofs.tell_fault.Goals as goal

pub returns-clause-told : goal.returns-clause-told
returns-clause-told c = let text = c.new-text.ensures in front c.put_fault.ensures text.empty text.bytes c.len.ensures

pub returns-clause-beyond : goal.returns-clause-beyond
returns-clause-beyond c = let text = c.new-text.ensures in beyond c.put_fault.ensures text.empty text.bytes c.len.ensures
