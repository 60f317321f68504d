-- Answers at which mutants of this function are refused.
use Rattle.std.proofs.Common.{rules}
use Rattle.scene_model.proofs.node.Node.pins_among.Goals as goal

pub returns-then-class-eq0-clause-class : goal.returns-then-class-eq0-clause-class
returns-then-class-eq0-clause-class c = search rules

pub returns-then-class-eq0-clause-placed : goal.returns-then-class-eq0-clause-placed
returns-then-class-eq0-clause-placed c = search rules

pub returns-else-class-eq0-clause-class : goal.returns-else-class-eq0-clause-class
returns-else-class-eq0-clause-class c = search rules

pub returns-else-class-eq0-clause-placed : goal.returns-else-class-eq0-clause-placed
returns-else-class-eq0-clause-placed c = search rules
