-- Answers at which mutants of this function are refused.
use Rattle.std.proofs.Common.{rules}
use Rattle.route_search.proofs.finder.Finder.find.Goals as goal

pub returns-in_err-make-clause-tally : goal.returns-in_err-make-clause-tally
returns-in_err-make-clause-tally c = search rules

pub returns-clause-answer : goal.returns-clause-answer
returns-clause-answer c = search rules

pub returns-clause-tally : goal.returns-clause-tally
returns-clause-tally c = search rules

pub returns-clause-arena : goal.returns-clause-arena
returns-clause-arena c = search rules

pub returns-clause-solids : goal.returns-clause-solids
returns-clause-solids c = search rules
