-- A number held between two bounds lies on the way.
use Rattle.std.proofs.Common.{rules, w64, FitsSigned}
use Rattle.std.proofs.lemmas.Int.{to_z-of_z}
use Rattle.plane_geom.proofs.Ways.{nearest_on_way}
use Rattle.plane_geom.proofs.rect.nearest.Goals as goal

pub returns : goal.returns
returns c =
    let low = c.ranges.low in
    let z = c.ranges.z in
    let high = c.ranges.high in
    let most : FitsSigned w64 c.max.result = search rules in
    let least : FitsSigned w64 c.min.result = search rules in
    simp to_z-of_z (nearest_on_way _ _ _ _ _ c.requires (simp to_z-of_z at c.max.ensures.value) (simp to_z-of_z at c.min.ensures.value))
