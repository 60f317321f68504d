-- Answers at which mutants of this function are refused.
use Rattle.std.proofs.Common.{rules}
use Rattle.form_preview.proofs.blocks.Reader.begin.Goals as goal

pub returns-then-len-ge-MOST_PROPOSALS : goal.returns-then-len-ge-MOST_PROPOSALS
returns-then-len-ge-MOST_PROPOSALS c = search rules

pub returns : goal.returns
returns c = search rules
