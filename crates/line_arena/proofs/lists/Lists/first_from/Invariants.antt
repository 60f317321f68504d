-- All crossings before the next one stand before the point.
use Rattle.line_arena.proofs.Linking.Walk.{IsComing, left_at}
use Rattle.line_arena.proofs.lists.Lists.first_from.Given as goal

abbrev pub invariant-loop-crossing : goal.invariant-loop-crossing
invariant-loop-crossing l = IsComing l.self l.fn.line l.dir l.point l.next

-- how far the next crossing stands before the point
abbrev pub decreases-loop-crossing : goal.decreases-loop-crossing
decreases-loop-crossing l = left_at l.self l.dir l.point l.next
