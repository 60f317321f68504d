-- The port is a crossing, and the stub is short.
use Rattle.std.proofs.Common.{arith}
use Rattle.exit_spread.proofs.Sizes.{small_ending}
use Rattle.exit_spread.proofs.limit.cost_by.Goals as goal

pub bound-requires-clause-within : goal.bound-requires-clause-within
bound-requires-clause-within c = (small_ending c.args.problem.now c.args.ending.now c.requires.ready c.requires.ending).port

pub overflow_add-result : goal.overflow_add-result
overflow_add-result c =
    let rest = (small_ending c.args.problem.now c.args.ending.now c.requires.ready c.requires.ending).rest in
    let bound = c.bound.ensures.small in
    omega (arith, rest, bound)
