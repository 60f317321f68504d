-- The answers so far are copied.
use Rattle.std.proofs.Common.{◌≡◌, take}
use Rattle.route_book.proofs.answers.AnswerList.copy.Given as goal

abbrev pub invariant-loop-answer : goal.invariant-loop-answer
invariant-loop-answer l = l.items.items ≡ take l.answer-index l.answer-items
