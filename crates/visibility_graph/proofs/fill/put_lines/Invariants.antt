-- The lines so far have come, with all their crossings.
use Rattle.std.proofs.Common.{take}
use Rattle.visibility_graph.specs.Meeting.{coming}
use Rattle.visibility_graph.specs.Fill.{ArePut}
use Rattle.visibility_graph.proofs.fill.put_lines.Given as goal

abbrev pub invariant-loop-place : goal.invariant-loop-place
invariant-loop-place l = ArePut l.initial.arena l.arena (take l.place l.new) (coming (take l.place l.new) l.stay)
