-- By the nearest point; both lengths fit.
use Rattle.std.proofs.Common.{◌+◌, ◌≤◌, w64, arith}
use Rattle.std.proofs.lemmas.Int.{ints, to_z_pos}
use Rattle.plane_geom.proofs.Signed.{distance_bound}
use Rattle.plane_geom.proofs.Ways.{through_nearest}
use Rattle.plane_geom.proofs.rect.Rect.l1_through.Goals as goal
use Rattle.plane_geom.proofs.rect.Rect.l1_through.Goals.{After-distance-2}

-- the two parts of the way are short
short : (c : After-distance-2) → c.distance.result + c.distance-2.result ≤ 16000000000
short c =
    let to = distance_bound _ _ c.requires.from_within c.nearest_to-nearest.ensures.on_sheet in
    let from = distance_bound _ _ c.nearest_to-nearest.ensures.on_sheet c.requires.to_within in
    omega arith

pub overflow_add-result : goal.overflow_add-result
overflow_add-result c = omega (arith, short c)

pub overflow_cast-result : goal.overflow_cast-result
overflow_cast-result c = omega (arith, ints, short c)

pub returns : goal.returns
returns c =
    rw (to_z_pos w64 (c.distance.result + c.distance-2.result) (omega (arith, short c)), c.distance.ensures, c.distance-2.ensures)
    (through_nearest _ _ _ _ c.nearest_to-nearest.ensures.on_the_way)
