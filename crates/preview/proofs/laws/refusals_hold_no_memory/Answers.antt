-- The law that no refusal is out of memory.
use Rattle.preview.proofs.NoMemory.{no_memory}
use Rattle.preview.proofs.laws.refusals_hold_no_memory.Goals as goal

pub returns : goal.returns
returns c = no_memory
