-- Spans that meet are joined, and what is joined has one number.
use Rattle.std.proofs.Common.{ℕ, ◌<◌, ap, length, refl, ◌∙◌, subst, sym, w64, FitsSigned}
use Rattle.std.proofs.lemmas.Int.{to_z-of_z}
use Rattle.std.specs.Prelude.{Contains, IfOk}
use Rattle.std.proofs.lemmas.List.{length-replicate}
use Rattle.std.proofs.lemmas.Result.{IfOk-weaker}
use Rattle.channel_bundles.specs.Groups.{AreGroups, span_at}
use Rattle.channel_bundles.proofs.Spans.{nowhere, same_spans}
use Rattle.channel_bundles.proofs.groups.parted.Goals as goal

pub join_spans-requires-clause-begin : goal.join_spans-requires-clause-begin
join_spans-requires-clause-begin c =
    let all = c.in_ok-farthest.ensures.items_if_clones_equal (λ y h. h) in
    same_spans _ _ _ c.in_ok-farthest.farthest.items (nowhere _ _ c.in_ok-farthest.farthest.items all refl refl) c.deref_mut.ensures.value (ap length (c.deref_mut.ensures.value ∙ all) ∙ length-replicate _ _)

pub join_spans-requires-clause-each : goal.join_spans-requires-clause-each
join_spans-requires-clause-each c =
    let all = c.in_ok-farthest.ensures.items_if_clones_equal (λ y h. h) in
    same_spans _ _ _ c.in_ok-spans.spans.items c.in_ok-spans.ensures.each c.deref.ensures.value (ap length (c.deref_mut.ensures.value ∙ all) ∙ length-replicate _ _)

pub returns-clause-groups : goal.returns-clause-groups
returns-clause-groups c =
    let all = c.in_ok-farthest.ensures.items_if_clones_equal (λ y h. h) in
    subst (λ n. IfOk c.numbers.result (λ new. AreGroups n new.items)) (c.join_spans.ensures.count ∙ ap length (c.deref_mut.ensures.value ∙ all) ∙ length-replicate _ _) c.numbers.ensures.groups

pub returns-clause-together : goal.returns-clause-together
returns-clause-together c =
    let fits : FitsSigned w64 c.args.nudge = c.ranges.nudge in
    let all = simp to_z-of_z at c.in_ok-spans.ensures.all in
    let at = span_at c.args.by c.args.nudge c.args.members.now c.args.groups.now in
    let has : (k : ℕ) → k < length c.args.members.now → Contains c.deref.result.now (at k) = λ k h. subst (λ xs. Contains xs (at k)) (sym c.deref.ensures.value) (all k h) in
    IfOk-weaker c.numbers.result _ _ (λ new together i j h g met. together i j (c.join_spans.ensures.joined (at i) (at j) (has i h) (has j g) met)) c.numbers.ensures.together
