-- No class is written where it is 0.
use Rattle.std.proofs.Common.{eq-eqb, ap}
use Rattle.std.specs.Prelude.{if◌then◌else◌}
use Rattle.gml_text.specs.Tree.{no_pairs}
use Rattle.gml_text.specs.View.{pairs}
use Rattle.gml_scene.specs.Changes.{one}
use Rattle.gml_scene.specs.Forms.{class_content, class_pairs}
use Rattle.gml_scene.proofs.Walks.{nothing_after}
use Rattle.gml_scene.proofs.forms.push_class.Goals as goal

pub returns-then-class-eq0 : goal.returns-then-class-eq0
returns-then-class-eq0 c =
    nothing_after (pairs c.args.list.now.items) (class_pairs c.args.key.now c.args.class)
    (ap (λ b. if b then no_pairs else one c.args.key.now (class_content c.args.class)) (eq-eqb c.args.class 0 c.if-class-eq0.true))
