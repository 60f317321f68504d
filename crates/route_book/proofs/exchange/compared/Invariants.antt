-- The lists differ at most at the places so far.
use Rattle.route_book.proofs.Exchanging.{DifferBelow}
use Rattle.route_book.proofs.exchange.compared.Given as goal

abbrev pub invariant-loop-place : goal.invariant-loop-place
invariant-loop-place l = DifferBelow l.here l.there l.place l.places.items l.away.items
