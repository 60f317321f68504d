-- The tree is read list by list.
use Rattle.existence_laws.proofs.Retelling.{trees_have_scenes}
use Rattle.existence_laws.proofs.inputs.trees_have_scenes.Goals as goal

pub returns : goal.returns
returns c = trees_have_scenes
