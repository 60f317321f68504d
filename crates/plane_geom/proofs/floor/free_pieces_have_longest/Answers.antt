-- The longest piece reaches to the nearest bars.
use Rattle.plane_geom.proofs.LongestPiece.{in_longest}
use Rattle.plane_geom.proofs.floor.free_pieces_have_longest.Goals as goal

pub returns : goal.returns
returns c = λ floor l f. let m = in_longest floor l f in (m.line, m.longest, m.whole, m.from, m.to)
