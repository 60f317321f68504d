-- Answers at which mutants of this function are refused.
use Rattle.std.proofs.Common.{rules}
use Rattle.proof_text.proofs.reader.put_point.Goals as goal

pub returns : goal.returns
returns c = search rules
