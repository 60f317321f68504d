-- What the loop of `list_tight` keeps.
use Rattle.separation_solve.proofs.Networks.Listing.{IsListing}
use Rattle.separation_solve.proofs.tight.list_tight.Given as goal

abbrev pub invariant-loop-index : goal.invariant-loop-index
invariant-loop-index l = IsListing l.places l.links l.fn.lists l.lists l.index
