-- There is a place exactly where there is a list.
use Rattle.std.proofs.Common.{ap, ◌∙◌}
use Rattle.std.specs.Prelude.{is_some}
use Rattle.gml_text.specs.View.{pairs}
use Rattle.gml_scene.proofs.PairLists.{place_listed}
use Rattle.gml_scene.proofs.changes.has_list.Goals as goal

pub returns : goal.returns
returns c = c.is_some.ensures ∙ ap is_some c.list_place.ensures ∙ place_listed c.args.key.now (pairs c.args.list.now)
