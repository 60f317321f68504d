-- The conditions that the tests check before they compute bundles.
use Rattle.std.specs.Prelude.{List}
use Rattle.plane_geom.specs.declared.point.Way.{Way}
use Rattle.plane_geom.specs.declared.rect.Solid.{Solid}
use Rattle.channel_bundles.specs.declared.route.PhaseRoute.{PhaseRoute}
use Rattle.channel_bundles.specs.Limits.{MayMove}

-- each movable run of the way may stay at its coordinate
pub record IsMovable (solids : List Solid) (way : Way) (route : PhaseRoute) : Type 0 where
  pub may : MayMove solids way route
