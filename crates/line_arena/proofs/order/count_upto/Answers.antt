-- Lines in order are parted at the first that the line stands before.
use Rattle.std.proofs.Common.{not, rules}
use Rattle.std.proofs.lemmas.List.Sorted.{IsPartitionPoint-from_clause}
use Rattle.plane_geom.specs.Order.{stands_before}
use Rattle.line_arena.proofs.LineOrder.InOrder.{not_false, not_true, parted}
use Rattle.line_arena.proofs.order.count_upto.Goals as goal

pub returns-clause-point : goal.returns-clause-point
returns-clause-point c =
    let line = c.args.line.now in
    let lines = c.args.lines.now in
    let point = IsPartitionPoint-from_clause (λ e. not (stands_before line e.0)) lines c.partition_point.result c.partition_point.ensures.partitioned (parted line lines c.requires) (λ a r g h. search rules) in
    (λ k d low high. not_true _ (point.0 k d low high), λ k d low high. not_false _ (point.1 k d low high))
