-- The labels of other numbers are kept.
use Rattle.std.proofs.Common.{[], not, sym, subst, int_eq, rules}
use Rattle.std.proofs.lemmas.Fn.{filter_same}
use Rattle.std.proofs.lemmas.List.Elements.{All-filter}
use Rattle.gml_text.specs.Bytes.{quote}
use Rattle.gml_text.specs.Grammar.{Lacks}
use Rattle.gml_scene.specs.declared.labels.Label.{Label}
use Rattle.gml_scene.specs.Labels.{AreTexts, IsRelabelled}
use Rattle.gml_scene.proofs.Labelling.{label_gone}
use Rattle.gml_scene.proofs.labels.remove.Goals as goal

pub returns-clause-label : goal.returns-clause-label
returns-clause-label c =
    let ls = c.args.labels.now.items in
    let kept = filter_same _ (λ (l : Label). not (int_eq l.number c.args.number)) _ (λ x b f' k. search rules) ls c.retain.new.self.items c.retain.ensures.filtered in
    subst (IsRelabelled c.args.number [] ls) (sym kept) (label_gone c.args.number ls)

pub returns-clause-texts : goal.returns-clause-texts
returns-clause-texts c =
    let ls = c.args.labels.now.items in
    let kept = filter_same _ (λ (l : Label). not (int_eq l.number c.args.number)) _ (λ x b f' k. search rules) ls c.retain.new.self.items c.retain.ensures.filtered in
    subst AreTexts (sym kept) (All-filter (λ (l : Label). not (int_eq l.number c.args.number)) (λ l. Lacks quote l.text) ls c.requires)
