-- The routes of the answers so far are there.
use Rattle.std.proofs.Common.{◌≡◌, take}
use Rattle.route_session.specs.Shares.{raw_runs}
use Rattle.route_session.proofs.shares.raw_routes.Given as goal

abbrev pub invariant-loop-answer : goal.invariant-loop-answer
invariant-loop-answer l = l.routes.items ≡ raw_runs (take l.answer-index l.answers)
