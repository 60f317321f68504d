-- The line so far is clear.
use Rattle.std.proofs.Common.{◌≡◌, ◌∷◌, drop}
use Rattle.plane_geom.specs.declared.point.Point.{Point}
use Rattle.walk_model.specs.Line.{AreStraight, walk_through}
use Rattle.route_book.proofs.Touching.Crossed.{ClearTo}
use Rattle.route_book.proofs.line.line_meets.Given as goal

abbrev pub invariant-loop-next : goal.invariant-loop-next
invariant-loop-next l = record {
  first : Point;
  whole : l.points ≡ first ∷ l.rest;
  clear : ClearTo l.rect (walk_through first l.rest) l.at (drop l.next-index l.rest);
  straight : AreStraight l.at (drop l.next-index l.rest);
}
