-- Answers at which mutants of this function are refused.
use Rattle.std.proofs.Common.{rules}
use Rattle.command_words.proofs.read.name_files.Goals as goal

pub returns-then-names_file : goal.returns-then-names_file
returns-then-names_file c = search rules
