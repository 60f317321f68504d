-- The fronts of both lists were found.
use Rattle.std.proofs.Common.{◌+◌, ◌-◌, ◌≤◌, length}
use Rattle.graph_repair.specs.Listed.{lines_of}
use Rattle.graph_repair.proofs.Compared.{AreFoundUpto}
use Rattle.graph_repair.proofs.compare.compare.Given as goal

abbrev pub invariant-both : goal.invariant-both
invariant-both l = record {
  within_old : l.place ≤ length l.old;
  within_new : l.other_place ≤ length l.new;
  found : AreFoundUpto l.hull (lines_of l.old) l.new l.place l.other_place l.difference.stay.items l.difference.here.items l.difference.there.items;
}

abbrev pub decreases-both : goal.decreases-both
decreases-both l = (length l.old - l.place) + (length l.new - l.other_place)
