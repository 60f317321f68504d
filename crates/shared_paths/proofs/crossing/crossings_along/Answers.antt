-- One more run is counted.
use Rattle.std.proofs.Common.{◌≡◌, get_or, arith}
use Rattle.std.proofs.lemmas.List.Sums.{sum_by_more}
use Rattle.plane_geom.specs.declared.point.Dir.TheVariants.{East}
use Rattle.segment_order.specs.declared.run.Run.{Run}
use Rattle.segment_order.specs.Run.{no_run}
use Rattle.shared_paths.proofs.Counting.{crossed_in, run_fits}
use Rattle.shared_paths.proofs.crossing.crossings_along.Goals as goal

-- what the generated proof reads past the end
abbrev any_run : Run
any_run = record no_run { heading = East }

pub overflow_add-count : goal.overflow_add-count
overflow_add-count c =
    let fits = run_fits c.args.level.now c.args.column.now c.loop-run.run-index any_run c.loop-run-test.true c.requires.few c.requires.short in
    let here : c.crossings_of.result ≡ crossed_in c.args.level.now (get_or c.args.column.now c.loop-run.run-index any_run) = c.crossings_of.ensures in
    omega (arith, here, fits, c.loop-run.invariant)

pub loop-run-preserved : goal.loop-run-preserved
loop-run-preserved c =
    let more = sum_by_more (crossed_in c.args.level.now) c.args.column.now c.loop-run.run-index any_run c.loop-run-test.true in
    let here : c.crossings_of.result ≡ crossed_in c.args.level.now (get_or c.args.column.now c.loop-run.run-index any_run) = c.crossings_of.ensures in
    omega (arith, here, more, c.loop-run.invariant)
