-- The law is proved with the lemmas.
use Rattle.gml_scene.proofs.OriginsKept as origins
use Rattle.gml_scene.proofs.laws.edits_keep_origins.Goals as goal

pub returns : goal.returns
returns c = origins.edits_keep_origins
