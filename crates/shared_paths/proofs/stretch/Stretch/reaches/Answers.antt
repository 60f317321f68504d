-- Answers at which mutants of this function are refused.
use Rattle.std.proofs.Common.{rules}
use Rattle.shared_paths.proofs.stretch.Stretch.reaches.Goals as goal

pub returns-then-eq : goal.returns-then-eq
returns-then-eq c = search rules
