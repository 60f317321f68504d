-- Solids relative to lines of one way.
use Rattle.std.specs.Prelude.{List, map}
use Rattle.plane_geom.specs.declared.point.Point.{Point}
use Rattle.plane_geom.specs.declared.point.Way.{Way}
use Rattle.plane_geom.specs.declared.rect.Rect.{Rect}
use Rattle.plane_geom.specs.declared.rect.Solid.{Solid}
use Rattle.plane_geom.specs.Along.{across, along}
use Rattle.sweep_lines.specs.declared.bar.Bar.{Bar}

abbrev pub near_corner : Rect → Point
near_corner r = record { x = r.left; y = r.top }

abbrev pub far_corner : Rect → Point
far_corner r = record { x = r.right; y = r.bottom }

-- the coordinates that the rectangle spans across lines of the way, and its extent along them
abbrev pub bar_of : Way → Rect → Bar
bar_of way r = record {
  begin = across way (near_corner r);
  end = across way (far_corner r);
  lo = along way (near_corner r);
  hi = along way (far_corner r);
}

abbrev pub bars_of : Way → List Solid → List Bar
bars_of way = map (λ s. bar_of way s.rect)
