-- Answers at which mutants of this function are refused.
use Rattle.std.proofs.Common.{rules}
use Rattle.host_edge.proofs.mem_folder.MemFolderFolder.read_file.Goals as goal

pub returns-clause-longer : goal.returns-clause-longer
returns-clause-longer c = search rules

pub returns-clause-note : goal.returns-clause-note
returns-clause-note c = search rules
