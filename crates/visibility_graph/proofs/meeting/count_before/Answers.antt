-- Lines in order are parted at the first that the line may meet.
use Rattle.std.proofs.Common.{rules}
use Rattle.std.specs.Prelude.{int_lt}
use Rattle.std.proofs.lemmas.List.Sorted.{IsPartitionPoint-from_clause}
use Rattle.visibility_graph.specs.Meeting.{sorted_out}
use Rattle.visibility_graph.proofs.Parted.{falls_below, parted}
use Rattle.visibility_graph.proofs.meeting.count_before.Goals as goal

pub returns-clause-point : goal.returns-clause-point
returns-clause-point c =
    let line = c.args.line.now in
    IsPartitionPoint-from_clause (λ m. sorted_out line.way m.way (int_lt m.at line.lo)) c.args.others.now c.partition_point.result c.partition_point.ensures.partitioned
    (parted (λ z. int_lt z line.lo) (falls_below line.lo) line.way c.args.others.now c.requires) (λ a r g h. search rules)
