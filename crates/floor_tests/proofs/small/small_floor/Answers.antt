-- Of 256 rectangles and anchors a floor comes that calls accept.
use Rattle.std.proofs.Common.{List, map, sym, ap, subst, ◌∙◌}
use Rattle.std.specs.Prelude.{filter_map}
use Rattle.plane_geom.specs.declared.point.Point.{Point}
use Rattle.plane_geom.specs.declared.rect.Solid.{Solid}
use Rattle.plane_geom.specs.Floor.{IsFloor}
use Rattle.floor_tests.specs.Small.{clamped_point, small_floor, solid_of_sides}
use Rattle.floor_tests.proofs.Sound.{is_floor}
use Rattle.floor_tests.proofs.small.small_floor.Goals as goal

pub returns-clause-sound : goal.returns-clause-sound
returns-clause-sound c =
    let floor = small_floor c.args.rects.now c.args.anchors.now in
    let solids = c.in_ok-solids.ensures ∙ ap (filter_map solid_of_sides) c.first.ensures in
    let anchors = c.from_vec.ensures ∙ c.in_ok-anchors.ensures ∙ ap (map clamped_point) c.first-2.ensures in
    subst (λ (all : List Solid). IsFloor (record { solids = all; anchors = c.from_vec.result })) (sym solids)
    (subst (λ (all : List Point). IsFloor (record { solids = floor.solids; anchors = all })) (sym anchors) (is_floor c.args.rects.now c.args.anchors.now))
