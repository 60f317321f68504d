-- The label at the place is replaced, or one goes last.
use Rattle.std.proofs.Common.{◌≡◌, [], ◌∷◌, ◌++◌, None, Some, sym, ap, subst, ◌∙◌, arith, rules}
use Rattle.std.specs.Prelude.{slice_set}
use Rattle.gml_scene.specs.declared.labels.Label.{Label}
use Rattle.gml_scene.specs.Labels.{IsRelabelled, label_place}
use Rattle.gml_scene.proofs.Labelling.{label_added, label_replaced, placed_number, placed_within}
use Rattle.gml_scene.proofs.labels.put.Goals as goal

pub index_mut-requires : goal.index_mut-requires
index_mut-requires c =
    let there : label_place c.deref.result.now c.args.number ≡ Some c.in-Some.place = search (rules, c.in-Some.ensures) in
    let within = placed_within c.deref.result.now c.args.number c.in-Some.place there in
    omega (arith, within, c.deref.ensures.len)

pub returns-in-Some-clause-label : goal.returns-in-Some-clause-label
returns-in-Some-clause-label c =
    let ls = c.args.labels.now.items in
    let n = c.args.number in
    let i = c.in-Some.place in
    let p = c.index_mut.result.now in
    let l : Label = record { number = p.number; text = c.args.text } in
    let found : label_place c.deref.result.now n ≡ Some i = search (rules, c.in-Some.ensures) in
    let there : label_place ls n ≡ Some i = subst (λ xs. label_place xs n ≡ Some i) c.deref.ensures.value found in
    let same : p.number ≡ n = ap (λ (q : Label). q.number) c.index_mut.ensures.value ∙ placed_number ls n i p there in
    subst (λ m. IsRelabelled m c.args.text ls (slice_set ls i l)) same
    (label_replaced ls i l c.requires.quotable (subst (λ m. label_place ls m ≡ Some i) (sym same) there))

pub returns-in_ok-push-in-None-clause-label : goal.returns-in_ok-push-in-None-clause-label
returns-in_ok-push-in-None-clause-label c =
    let ls = c.args.labels.now.items in
    let n = c.args.number in
    let l : Label = record { number = n; text = c.args.text } in
    let missing : label_place c.deref.result.now n ≡ None = search (rules, c.in-None.ensures) in
    let none : label_place ls n ≡ None = subst (λ xs. label_place xs n ≡ None) c.deref.ensures.value missing in
    let last : c.push.new.self.items ≡ ls ++ l ∷ [] = search (rules, c.in_ok-push-in-None.ensures.items) in
    subst (IsRelabelled n c.args.text ls) (sym last) (label_added ls l c.requires.quotable none)
