-- The union of two such pieces is free.
use Rattle.plane_geom.proofs.Pieces.{longest_apart}
use Rattle.plane_geom.proofs.floor.kept_lines_apart.Goals as goal

pub returns : goal.returns
returns c = λ floor l m p f g o h k. longest_apart floor l m p f.longest g.longest o h k
