-- The stub of an ending is short, and its port on the sheet.
use Rattle.std.proofs.Common.{◌≤◌, arith, unsigned_abs}
use Rattle.plane_geom.specs.Along.{across, way_of}
use Rattle.exit_spread.proofs.Sizes.{across_small, small_ending}
use Rattle.exit_spread.proofs.ahead.ahead_by.Goals as goal

pub behind-requires-clause-cost : goal.behind-requires-clause-cost
behind-requires-clause-cost c =
    let small = small_ending c.args.problem.now c.args.ending.now c.requires.ready c.requires.ending in
    omega (arith, small.rest, c.requires.ready.problem.is_task.penalty)

pub behind-requires-clause-lean : goal.behind-requires-clause-lean
behind-requires-clause-lean c =
    let small = small_ending c.args.problem.now c.args.ending.now c.requires.ready c.requires.ending in
    let h : unsigned_abs (across (way_of c.args.ending.now.dir) c.args.ending.now.port) ≤ 2000000000 = across_small c.args.ending.now.dir c.args.ending.now.port small.port in
    omega (arith, h)
