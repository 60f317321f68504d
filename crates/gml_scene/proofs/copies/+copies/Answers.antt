-- Pairs are copied one by one, and the calls go down the values.
use denote.Param.Weighed.{most, at_most}
use Rattle.std.proofs.Common.{◌≤◌, subst, rules, [], ◌∷◌, take, ap, sym, ◌∙◌}
use Rattle.gml_text.specs.Tree.{◌then◌}
use Rattle.gml_text.specs.View.{content, pairs}
use Rattle.gml_scene.specs.Changes.{one}
use Rattle.gml_scene.proofs.PairLists.{pushed, shown}
use Rattle.gml_text.proofs.Accepting.{then_assoc, then-none}
use Rattle.gml_text.proofs.tree.Pair.TheLaws.{the_size}
use Rattle.gml_scene.proofs.Walks.{pairs_more}
use Rattle.gml_scene.proofs.copies.+copies.Goals as goal

pub push_copies-loop-pair-init : goal.push_copies-loop-pair-init
push_copies-loop-pair-init t c = sym (then-none (pairs c.args.out.now.items))

pub push_copies-push_copy-requires : goal.push_copies-push_copy-requires
push_copies-push_copy-requires t c =
    let below : the_size c.pair-item.result ≤ most the_size c.args.list.now =
    subst (λ x. the_size x ≤ most the_size c.args.list.now) (sym c.pair-item.is)
    (at_most the_size c.args.list.now c.loop-pair.pair-index c.pair-item.result c.loop-pair-test.true) in
    search (rules, below)

pub push_copies-loop-pair-preserved : goal.push_copies-loop-pair-preserved
push_copies-loop-pair-preserved t c =
    let out = pairs c.args.out.now.items in
    let done = pairs (take c.loop-pair.pair-index c.args.list.now) in
    let here = pairs (c.pair-item.result ∷ []) in
    c.in_ok-push_copy.ensures
    ∙ ap (λ x. x then here) c.loop-pair.invariant
    ∙ then_assoc out done here
    ∙ ap (λ x. out then x) (sym (pairs_more c.args.list.now c.loop-pair.pair-index c.pair-item.result c.loop-pair-test.true c.pair-item.is))

pub push_copy-returns : goal.push_copy-returns
push_copy-returns t c =
    let out = pairs c.args.out.now.items in
    let p = c.args.pair.now in
    ap pairs c.in_ok-push.ensures.items
    ∙ pushed c.args.out.now.items c.in_ok-key.key c.in_ok-value.value
    ∙ ap (λ k. out then one k (content c.in_ok-value.value)) (c.in_ok-key.ensures ∙ c.as_slice.ensures)
    ∙ ap (λ v. out then one p.key v) c.in_ok-value.ensures
    ∙ sym (ap (λ ps. out then ps) (shown p []))
