-- Calls accept a floor of few anchors without solids.
use Rattle.std.proofs.Common.{◌≤◌, length, All, subst, ◌≡◌, [], map, get_or, arith}
use Rattle.plane_geom.specs.Point.{PointIsOnSheet}
use Rattle.std.proofs.lemmas.List.{get_or-map, length-map}
use Rattle.std.proofs.lemmas.List.Elements.{All-nil}
use Rattle.plane_geom.specs.declared.floor.Floor.{Floor}
use Rattle.plane_geom.specs.Along.{across}
use Rattle.plane_geom.specs.Floor.{IsFloor}
use Rattle.search_tests.proofs.floors.is_floor.Goals as goal

-- the definition of a floor, met by anchors alone
is_floor : (floor : Floor) → floor.solids ≡ [] → length floor.anchors ≤ 256 → All PointIsOnSheet floor.anchors → IsFloor floor
is_floor floor none few within = record {
  solids = rw none (All-nil _);
  anchors = within;
  few = rw none (omega arith);
  coordinates = λ way. (
    map (across way) floor.anchors,
    omega (arith, few, length-map floor.anchors (across way)),
    record {
      first_sides = rw none (All-nil _);
      last_sides = rw none (All-nil _);
      anchors = λ k d l. (k, omega (arith, l, length-map floor.anchors (across way)), get_or-map (across way) floor.anchors k d (across way (get_or floor.anchors k d)) l);
    },
  );
}

pub returns : goal.returns
returns c = λ t.
    is_floor c.args.floor.now c.requires
    (subst (λ xs. length xs ≤ 256) c.as_slice.ensures (c.are_anchors.ensures.few t))
    (subst (λ xs. All PointIsOnSheet xs) c.as_slice.ensures (c.are_anchors.ensures.on_sheet t))
