-- Answers at which mutants of this function are refused.
use Rattle.std.proofs.Common.{rules}
use Rattle.host_edge.proofs.disk_folder.DiskFolderFolder.read_file.Goals as goal

pub returns-clause-noted : goal.returns-clause-noted
returns-clause-noted c = search rules
