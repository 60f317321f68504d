-- Lines in order are parted after the last that the line may meet.
use Rattle.std.proofs.Common.{not, rules}
use Rattle.std.specs.Prelude.{int_lt}
use Rattle.std.proofs.lemmas.List.Sorted.{IsPartitionPoint-from_clause}
use Rattle.visibility_graph.specs.Meeting.{sorted_out}
use Rattle.visibility_graph.proofs.Parted.{falls_upto, parted}
use Rattle.visibility_graph.proofs.meeting.count_upto_end.Goals as goal

pub returns-clause-point : goal.returns-clause-point
returns-clause-point c =
    let line = c.args.line.now in
    IsPartitionPoint-from_clause (λ m. sorted_out line.way m.way (not (int_lt line.hi m.at))) c.args.others.now c.partition_point.result c.partition_point.ensures.partitioned
    (parted (λ z. not (int_lt line.hi z)) (falls_upto line.hi) line.way c.args.others.now c.requires) (λ a r g h. search rules)
