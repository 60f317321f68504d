-- The stub of an ending is short, and its port on the sheet.
use Rattle.std.proofs.Common.{◌≤◌, arith, unsigned_abs}
use Rattle.plane_geom.specs.Along.{across, way_of}
use Rattle.exit_spread.proofs.Sizes.{across_small, small_ending}
use Rattle.route_search.proofs.follow.Follower.may_end.Goals as goal

pub makes-requires-clause-cost : goal.makes-requires-clause-cost
makes-requires-clause-cost c =
    let small = small_ending c.args.self.now.problem.now c.args.ending.now c.requires.ready c.requires.ending in
    omega (arith, small.rest, c.requires.ready.problem.is_task.penalty)

pub makes-requires-clause-lean : goal.makes-requires-clause-lean
makes-requires-clause-lean c =
    let small = small_ending c.args.self.now.problem.now c.args.ending.now c.requires.ready c.requires.ending in
    let h : unsigned_abs (across (way_of c.args.dir) c.args.ending.now.port) ≤ 2000000000 = across_small c.args.dir c.args.ending.now.port small.port in
    omega (arith, h)
