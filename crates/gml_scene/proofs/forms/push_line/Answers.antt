-- No line is written where there is none.
use Rattle.std.proofs.Common.{ap}
use Rattle.std.specs.Prelude.{option_map}
use Rattle.gml_text.specs.View.{pairs}
use Rattle.gml_scene.specs.Forms.{line_pairs}
use Rattle.gml_scene.proofs.Walks.{nothing_after}
use Rattle.gml_scene.proofs.forms.push_line.Goals as goal

pub returns-in_default : goal.returns-in_default
returns-in_default c =
    nothing_after (pairs c.args.list.now.items) _ (ap (λ o. line_pairs (option_map (λ l. l.now) o)) c.in_default.is)
