-- Lists of solids. No public clause cites this module.
use Rattle.std.specs.Prelude.{List, All, Contains}
use Rattle.plane_geom.specs.declared.rect.Solid.{Solid}
use Rattle.scene_model.specs.Scene.{Scene}
use Rattle.scene_model.specs.Stale.{IsRemoved}

-- the solids are those that the old scene has and the new one has not
pub record AreRemoved (old new : Scene) (removed : List Solid) : Type 0 where
  pub each : All (IsRemoved old new) removed
  pub all : (s : Solid) → IsRemoved old new s → Contains removed s

-- the solids are those that were removed and those that were added between the scenes
pub record AreCompared (old new : Scene) (removed added : List Solid) : Type 0 where
  pub went : AreRemoved old new removed
  pub came : AreRemoved new old added
