-- What the two axes have in common.
use Rattle.std.specs.Prelude.{◌≡◌, ◌-ℤ◌, unsigned_abs}
use Rattle.std.proofs.Math.Nat.{add_comm}
use Rattle.plane_geom.specs.declared.point.Point.{Point}
use Rattle.plane_geom.specs.Point.{distance}

-- exchanging the two coordinates keeps distances
pub turned_length : (p q : Point) → distance (record { x = p.y; y = p.x }) (record { x = q.y; y = q.x }) ≡ distance p q
turned_length p q = add_comm (unsigned_abs (p.y -ℤ q.y)) (unsigned_abs (p.x -ℤ q.x))
