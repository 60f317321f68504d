-- The links of one run after another are joined; the trees are then the classes.
use Rattle.std.proofs.Common.{◌<◌, ap, length, subst, sym, ◌∙◌, w64, FitsSigned}
use Rattle.std.proofs.lemmas.Int.{to_z-of_z}
use Rattle.std.specs.Prelude.{EachIndex, slice_index}
use Rattle.channel_bundles.specs.Groups.{AreNext, AreTogether}
use Rattle.channel_bundles.specs.Links.{AreClear}
use Rattle.channel_bundles.proofs.Linking.{linked_begins, linked_classes, linked_more_by}
use Rattle.channel_bundles.proofs.links.linked_classes.Goals as goal

pub loop-at-init : goal.loop-at-init
loop-at-init c =
    let fits : FitsSigned w64 c.args.nudge = c.ranges.nudge in
    simp to_z-of_z (linked_begins _ _ _ c.in_ok-forest.ensures.count c.in_ok-forest.ensures.apart)

pub loop-at-preserved : goal.loop-at-preserved
loop-at-preserved c =
    let fits : FitsSigned w64 c.args.nudge = c.ranges.nudge in
    let is = simp to_z-of_z at c.loop-at.invariant in
    let near = c.join_links_of.ensures in
    let own = c.join_links_of-in-loop-at.ensures in
    let spaced = simp to_z-of_z at c.in_ok-channels.ensures.together in
    let joined = simp to_z-of_z at c.in_ok-edges.ensures.together in
    simp to_z-of_z (linked_more_by c.args.nudge c.args.members.now _ _ _ c.loop-at.at c.deref.result.now c.deref-in-loop-at-2.result.now c.deref-2.result.now c.deref-in-loop-at-4.result.now is
    own.forest own.count near.kept own.kept (simp to_z-of_z at near.joined) (simp to_z-of_z at own.joined) (simp to_z-of_z at near.only) (simp to_z-of_z at own.only)
    (subst (AreNext c.deref.result.now) (sym c.deref-in-loop-at-2.ensures.value) c.in_ok-near.ensures)
    (subst (AreNext c.deref-2.result.now) (sym c.deref-in-loop-at-4.ensures.value) c.in_ok-own.ensures)
    (λ i j l ne. subst (λ xs. AreTogether xs i j) (sym c.deref.ensures.value) (spaced i j l ne))
    (λ i j l e. subst (λ xs. AreTogether xs i j) (sym c.deref-2.ensures.value) (joined i j l e)))

pub returns : goal.returns
returns c =
    let fits : FitsSigned w64 c.args.nudge = c.ranges.nudge in
    let is = simp to_z-of_z at c.loop-at.invariant in
    linked_classes c.args.nudge c.args.members.now c.loop-at.forest.above.items c.loop-at.at _ is c.loop-at-test.false c.in_ok-classes.ensures.classes

pub join_links_of-requires-clause-clear : goal.join_links_of-requires-clause-clear
join_links_of-requires-clause-clear c = subst (AreClear c.args.members.now) (sym c.deref-in-loop-at.ensures.value) c.in_ok-clear.ensures

pub join_links_of-requires-clause-next : goal.join_links_of-requires-clause-next
join_links_of-requires-clause-next c = ap length c.deref-in-loop-at-2.ensures.value ∙ c.in_ok-near.ensures.count ∙ ap length c.deref.ensures.value ∙ c.in_ok-channels.ensures.groups.all

pub join_links_of-requires-clause-after : goal.join_links_of-requires-clause-after
join_links_of-requires-clause-after c =
    let next = c.in_ok-near.ensures in
    subst (λ xs. EachIndex xs (λ i. i < slice_index xs i)) (sym c.deref-in-loop-at-2.ensures.value) (λ i h. next.after i (subst (λ n. i < n) next.count h))
