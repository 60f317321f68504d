-- One more column is counted.
use Rattle.std.proofs.Common.{ap, subst, sym, arith}
use Rattle.std.specs.List.{sum_by}
use Rattle.std.proofs.lemmas.List.Sums.{sum_by-take-drop}
use Rattle.shared_paths.specs.Columns.{AreRising}
use Rattle.shared_paths.proofs.Counting.{all_fit, crossed_in, left_rising}
use Rattle.shared_paths.proofs.crossing.crossings_among.Goals as goal

pub overflow_add-count : goal.overflow_add-count
overflow_add-count c =
    let f = crossed_in c.args.level.now in
    let here = ap (sum_by f) c.split_at.ensures.front in
    let part = sum_by-take-drop f c.loop-left.left.now c.min.result in
    let all = all_fit c.args.level.now c.args.upright.now c.requires.few c.requires.short in
    omega (arith, c.in_ok-count.ensures, here, part, all, c.loop-left.invariant.counted)

pub loop-left-preserved : goal.loop-left-preserved
loop-left-preserved c =
    let f = crossed_in c.args.level.now in
    let front = ap (sum_by f) c.split_at.ensures.front in
    let back = ap (sum_by f) c.split_at.ensures.back in
    let part = sum_by-take-drop f c.loop-left.left.now c.min.result in
    record {
      counted = omega (arith, c.in_ok-count.ensures, front, back, part, c.loop-left.invariant.counted);
      few = omega (arith, c.split_at.ensures.back_len, c.loop-left.invariant.few);
      rising = subst AreRising (sym c.split_at.ensures.back) (left_rising c.min.result c.loop-left.left.now c.loop-left.invariant.rising);
    }
