-- What stands on either side of the part does not cross the run.
use Rattle.std.proofs.Common.{◌≡◌, ◌∙◌, true, false, not, ap, subst, sym, rules}
use Rattle.std.specs.Prelude.{int_lt}
use Rattle.std.specs.List.{count_by}
use Rattle.std.specs.List.Sorted.{IsPartitionPoint}
use Rattle.std.proofs.lemmas.List.Sorted.{IsPartitionPoint-from_clause}
use Rattle.segment_order.specs.declared.run.Run.{Run}
use Rattle.shared_paths.specs.Crossings.{crosses}
use Rattle.shared_paths.specs.Columns.{AreRising}
use Rattle.shared_paths.proofs.Counting.{before_falls, counted_after, counted_before, left_rising, not_crossed_before, not_crossed_beyond, parted, upto_falls}
use Rattle.shared_paths.proofs.crossing.between.Goals as goal

begins : (c : goal.After-here-1) → IsPartitionPoint (λ (r : Run). not (int_lt c.args.run.now.lo r.at) ≡ true) (λ (r : Run). not (int_lt c.args.run.now.lo r.at) ≡ false) c.args.level.now c.partition_point.result
begins c =
    let lo = c.args.run.now.lo in
    IsPartitionPoint-from_clause (λ (r : Run). not (int_lt lo r.at)) c.args.level.now c.partition_point.result c.partition_point.ensures.partitioned
    (parted (λ z. not (int_lt lo z)) (upto_falls lo) c.args.level.now c.requires) (λ a r g h. search rules)

ends : (c : goal.After-here-1) → IsPartitionPoint (λ (r : Run). int_lt r.at c.args.run.now.hi ≡ true) (λ (r : Run). int_lt r.at c.args.run.now.hi ≡ false) c.split_at.result.1.now c.partition_point-2.result
ends c =
    let hi = c.args.run.now.hi in
    let above = c.split_at.result.1.now in
    let rise : AreRising above = subst AreRising (sym c.split_at.ensures.back) (left_rising c.partition_point.result c.args.level.now c.requires) in
    IsPartitionPoint-from_clause (λ (r : Run). int_lt r.at hi) above c.partition_point-2.result c.partition_point-2.ensures.partitioned
    (parted (λ z. int_lt z hi) (before_falls hi) above rise) (λ a r g h. search rules)

pub returns : goal.returns
returns c =
    let v = c.args.run.now in
    let above = c.split_at.result.1.now in
    ap (count_by (crosses v)) c.split_at-2.ensures.front
    ∙ counted_before (crosses v) (λ (r : Run). int_lt r.at v.hi) above c.partition_point-2.result (λ h. not_crossed_beyond v h) (ends c)
    ∙ ap (count_by (crosses v)) c.split_at.ensures.back
    ∙ counted_after (crosses v) (λ (r : Run). not (int_lt v.lo r.at)) c.args.level.now c.partition_point.result c.partition_point.ensures.bound (λ h. not_crossed_before v h) (begins c)
