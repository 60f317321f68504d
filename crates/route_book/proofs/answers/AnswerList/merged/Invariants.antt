-- The answers so far are the newer ones of the numbers so far.
use Rattle.std.proofs.Common.{◌≡◌, Some, take}
use Rattle.std.specs.List.{AllZip}
use Rattle.route_book.specs.Search.{newer}
use Rattle.route_book.proofs.answers.AnswerList.merged.Given as goal

abbrev pub invariant-loop-number : goal.invariant-loop-number
invariant-loop-number l = AllZip (λ number a. newer l.found l.self number ≡ Some a) (take l.number-index l.numbers) l.items.items
