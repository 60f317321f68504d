-- The pair goes last.
use Rattle.std.proofs.Common.{ap, ◌∙◌}
use Rattle.gml_text.specs.Tree.{◌then◌}
use Rattle.gml_text.specs.View.{content, pairs}
use Rattle.gml_scene.specs.Changes.{one}
use Rattle.gml_scene.proofs.PairLists.{pushed}
use Rattle.gml_scene.proofs.changes.push.Goals as goal

pub returns : goal.returns
returns c =
    ap pairs c.in_ok-push.ensures.items
    ∙ pushed c.args.list.now.items c.in_ok-key.key c.args.value
    ∙ ap (λ k. pairs c.args.list.now.items then one k (content c.args.value)) c.in_ok-key.ensures
