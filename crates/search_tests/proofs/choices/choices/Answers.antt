-- A choice more is one that agrees with each before it.
use Rattle.std.proofs.Common.{◌≡◌, List, [], ◌∷◌, ◌++◌, All, IsTrue, refl, sym, subst}
use Rattle.walk_model.specs.declared.task.Choice.{Choice}
use Rattle.walk_model.specs.Choice.{AreChoices, IsChoice}
use Rattle.std.proofs.lemmas.List.Elements.{All-push}
use Rattle.std.proofs.lemmas.List.Quantifiers.{all_pairs_push}
use Rattle.search_tests.proofs.choices.choices.Goals as goal
use Rattle.search_tests.proofs.choices.choices.Goals.{then-agrees_with_each+in_ok-push, else-agrees_with_each}

-- a choice that agrees with the others is one more of the end
one_more : (cs : List Choice) (c : Choice) → AreChoices cs → IsChoice c → All (λ d. d.node ≡ c.node) cs
    → All (λ d. d.pin ≡ c.pin → d.dir ≡ c.dir → d.port ≡ c.port) cs → AreChoices (cs ++ c ∷ [])
one_more cs c these is of apart = record {
  each = All-push IsChoice cs c these.each is;
  one_node = all_pairs_push (λ (d e : Choice). d.node ≡ e.node) cs c these.one_node of;
  one_port = all_pairs_push (λ (d e : Choice). d.pin ≡ e.pin → d.dir ≡ e.dir → d.port ≡ e.port) cs c these.one_port apart;
}

pub loop-x-preserved : goal.loop-x-preserved
loop-x-preserved c =
    let cs : List Choice = c.loop-x.choices.items in
    let next : Choice = c.choice-next.result in
    let same : c.deref.result.now ≡ cs = c.deref.ensures.value in
    let apart = c.agrees_with_each.ensures in
    elim c.if-agrees_with_each.branch [
      | then-agrees_with_each+in_ok-push w ↦
          let t : IsTrue c.agrees_with_each.result = w.if-agrees_with_each.true in
          let more : c.if-agrees_with_each.choices.items ≡ cs ++ next ∷ [] = rw w.choices-is w.in_ok-push.ensures.items in
          subst AreChoices (sym more)
          (one_more cs next c.loop-x.invariant c.choice-next.ensures
          (subst (All (λ (d : Choice). d.node ≡ next.node)) same (apart.node t))
          (subst (All (λ (d : Choice). d.pin ≡ next.pin → d.dir ≡ next.dir → d.port ≡ next.port)) same (apart.port t)))
      | else-agrees_with_each w ↦
          let kept : c.if-agrees_with_each.choices.items ≡ cs = rw w.choices-is refl in
          subst AreChoices (sym kept) c.loop-x.invariant
    ]
