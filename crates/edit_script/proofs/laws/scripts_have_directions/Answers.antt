-- The law is proved in `Directed`.
use Rattle.edit_script.proofs.Directed.{have_directions}
use Rattle.edit_script.proofs.laws.scripts_have_directions.Goals as goal

pub returns : goal.returns
returns c = have_directions
