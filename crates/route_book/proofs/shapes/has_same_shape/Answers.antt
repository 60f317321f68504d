-- Both nodes are of valid scenes.
use Rattle.std.proofs.Common.{sym}
use Rattle.route_book.proofs.Touching.Solids.{node_found}
use Rattle.route_book.proofs.shapes.has_same_shape.Goals as goal

pub look_same-requires-clause-one : goal.look_same-requires-clause-one
look_same-requires-clause-one c = let h = c.in-Some-Some.ensures in node_found c.args.old.now _ c.in-Some-Some.one.now c.requires.old (sym c.in-Some-Some.ensures)

pub look_same-requires-clause-other : goal.look_same-requires-clause-other
look_same-requires-clause-other c = node_found c.args.new.now _ c.in-Some-Some.other.now c.requires.new (sym c.in-Some-Some.ensures')
