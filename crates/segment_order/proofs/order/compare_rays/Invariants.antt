-- The order of what is left is the order of the rays, and fewer runs are left.
use Rattle.std.proofs.Common.{◌≡◌, length}
use Rattle.std.specs.Cmp.Lexicographic.{slice_cmp}
use Rattle.segment_order.specs.Ray.{entries_of, entry_cmp}
use Rattle.segment_order.proofs.order.compare_rays.Given as goal

abbrev pub invariant-loop-a_next : goal.invariant-loop-a_next
invariant-loop-a_next l = slice_cmp entry_cmp (entries_of l.initial.a) (entries_of l.initial.b) ≡ slice_cmp entry_cmp (entries_of l.a) (entries_of l.b)

abbrev pub decreases-loop-a_next : goal.decreases-loop-a_next
decreases-loop-a_next l = length l.a.rest.now
