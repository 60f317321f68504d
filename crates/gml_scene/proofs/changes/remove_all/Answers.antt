-- The pairs of other keys are kept.
use Rattle.std.proofs.Common.{ap, ◌∙◌, rules}
use Rattle.std.specs.Prelude.{not, bytes_eq}
use Rattle.std.proofs.lemmas.Fn.{filter_same}
use Rattle.gml_text.specs.View.{pairs}
use Rattle.gml_text.specs.declared.tree.Pair.{Pair}
use Rattle.gml_scene.proofs.PairLists.{without_others}
use Rattle.gml_scene.proofs.changes.remove_all.Goals as goal

pub returns : goal.returns
returns c =
    let kept = filter_same _ (λ (p : Pair). not (bytes_eq p.key c.args.key.now)) _ (λ x b f' k. search rules) c.args.list.now.items c.retain.new.self.items c.retain.ensures.filtered in
    record { items = kept; pairs = ap pairs kept ∙ without_others c.args.key.now c.args.list.now.items }
