-- What is left of the way gets shorter.
use Rattle.std.proofs.Common.{length}
use Rattle.route_book.proofs.reach.+way_lengths.Given as goal

abbrev pub decreases-way_lengths : goal.decreases-way_lengths
decreases-way_lengths l = length l.via.now
