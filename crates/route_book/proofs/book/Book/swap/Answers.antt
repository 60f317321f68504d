-- Answers at which mutants of this function are refused.
use Rattle.std.proofs.Common.{rules}
use Rattle.route_book.proofs.book.Book.swap.Goals as goal

pub returns-clause-changes : goal.returns-clause-changes
returns-clause-changes c = search rules
