-- The answers so far are of the numbers and routes so far, and the other routes are still there.
use Rattle.std.proofs.Common.{◌≡◌, take, drop, map}
use Rattle.route_book.proofs.answers.AnswerList.of_routes.Given as goal

abbrev pub invariant-loop-place : goal.invariant-loop-place
invariant-loop-place l =
    (map (λ x. x.edge) l.items.items ≡ take l.place l.numbers)
    × (map (λ x. x.route) l.items.items ≡ take l.place l.fn.routes.items)
    × (drop l.place l.routes.items ≡ drop l.place l.fn.routes.items)
