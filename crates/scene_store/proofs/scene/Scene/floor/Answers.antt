-- The floor of a valid scene is one that a graph may be built of.
use Rattle.scene_store.proofs.Tasks.{floor_fits}
use Rattle.scene_store.proofs.scene.Scene.floor.Goals as goal

pub returns-clause-fits : goal.returns-clause-fits
returns-clause-fits c = floor_fits c.self.inside.parts _ c.self.invariant c.floor.ensures
