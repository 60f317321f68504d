-- The law is proved with the lemmas.
use Rattle.gml_scene.proofs.OriginsKept as origins
use Rattle.gml_scene.proofs.laws.own_scenes_fit.Goals as goal

pub returns : goal.returns
returns c = origins.own_scenes_fit
