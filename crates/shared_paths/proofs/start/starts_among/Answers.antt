-- The stretches after one are in order with it, and its starts are found.
use Rattle.shared_paths.proofs.AllPaths.Starting.{one_more_place, rest_in_order}
use Rattle.shared_paths.proofs.AllPaths.Stretches.{any_stretch}
use Rattle.shared_paths.proofs.start.starts_among.Goals as goal

pub add_starts-requires-clause-order : goal.add_starts-requires-clause-order
add_starts-requires-clause-order c = rest_in_order c.args.stretches.now c.loop-place.place any_stretch c.loop-place-test.true c.requires.order

pub loop-place-preserved : goal.loop-place-preserved
loop-place-preserved c =
    one_more_place c.args.routes.now c.args.stretches.now c.loop-place.place any_stretch c.loop-place.found.keys c.add_starts.new.found.keys c.loop-place-test.true
    c.in_ok-add_starts.ensures.each c.in_ok-add_starts.ensures.kept c.in_ok-add_starts.ensures.all c.loop-place.invariant
