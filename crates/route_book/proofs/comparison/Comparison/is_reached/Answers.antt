-- One solid more; in the end all of them.
use Rattle.std.proofs.Common.{◌≡◌, All, List, get_or, sym, ap, subst, ◌∙◌, true≢false, arith, w64, to_z, of_z}
use Rattle.std.specs.Prelude.{pos}
use Rattle.std.proofs.lemmas.Int.{ints}
use Rattle.std.proofs.lemmas.List.{take_all}
use Rattle.std.proofs.lemmas.List.Elements.{All-get_or, All-more}
use Rattle.plane_geom.specs.declared.rect.Solid.{Solid}
use Rattle.scene_model.specs.Scene.{node_with}
use Rattle.scene_model.specs.Stale.{IsWithinReach}
use Rattle.route_book.specs.Reach.{IsBox}
use Rattle.route_book.proofs.Comparing.Picks.{none_of}
use Rattle.route_book.proofs.Touching.Reached.{are_parts, near_reached, removed_boxes}
use Rattle.route_book.proofs.comparison.Comparison.is_reached.Goals as goal

abbrev no_solid : Solid
no_solid = record { node = pos 0; rect = record { left = pos 0; top = pos 0; right = pos 0; bottom = pos 0 } }

pub is_near_between-requires-clause-parts : goal.is_near_between-requires-clause-parts
is_near_between-requires-clause-parts c =
    let was = c.args.was.now in
    let from : was.from ≡ to_z w64 (of_z w64 was.from) = omega (arith, ints) in
    let to : was.to ≡ to_z w64 (of_z w64 was.to) = omega (arith, ints) in
    are_parts c.args.self.now.old.now was c.in-Some.source.now c.in-Some-node.target.now (ap (node_with c.args.self.now.old.now) from ∙ sym c.in-Some.ensures) (ap (node_with c.args.self.now.old.now) to ∙ sym c.in-Some-node.ensures) c.requires.valid c.requires.known

pub is_near_between-requires-clause-rect : goal.is_near_between-requires-clause-rect
is_near_between-requires-clause-rect c =
    let items : List Solid = c.args.self.now.removed.items in
    let boxes = removed_boxes c.args.self.now.old.now c.args.self.now.new.now items c.requires.valid c.requires.solids.went in
    let all : All (λ t. IsBox t.rect) c.deref-solid-items.result.now = subst (All (λ t. IsBox t.rect)) (sym c.deref-solid-items.ensures.value) boxes in
    All-get_or (λ t. IsBox t.rect) c.deref-solid-items.result.now c.loop-solid.solid-index no_solid c.loop-solid-test.true all

pub loop-solid-preserved : goal.loop-solid-preserved
loop-solid-preserved c =
    let ts : List Solid = c.deref-solid-items.result.now in
    let i = c.loop-solid.solid-index in
    let P : Solid → Type 0 = λ t. IsWithinReach c.args.self.now.old.now c.args.was.now t.rect c.args.cost → ⊥ in
    let was = c.args.was.now in
    let from : was.from ≡ to_z w64 (of_z w64 was.from) = omega (arith, ints) in
    let to : was.to ≡ to_z w64 (of_z w64 was.to) = omega (arith, ints) in
    let here : P (get_or ts i no_solid) = λ x.
    let near = near_reached c.args.self.now.old.now was c.in-Some.source.now c.in-Some-node.target.now (ap (node_with c.args.self.now.old.now) from ∙ sym c.in-Some.ensures) (ap (node_with c.args.self.now.old.now) to ∙ sym c.in-Some-node.ensures) (get_or ts i no_solid).rect c.args.cost x in
    true≢false (sym (c.is_near_between.ensures.1 near) ∙ c.if-is_near_between.false) in
    All-more P ts i no_solid c.loop-solid-test.true c.loop-solid.invariant here

pub returns : goal.returns
returns c =
    let ts : List Solid = c.deref-solid-items.result.now in
    let i = c.loop-solid.solid-index in
    let P : Solid → Type 0 = λ t. IsWithinReach c.args.self.now.old.now c.args.was.now t.rect c.args.cost in
    let all : All (λ t. P t → ⊥) ts = subst (All (λ t. P t → ⊥)) (take_all i ts c.loop-solid-test.false) c.loop-solid.invariant in (
      λ h. absurd (true≢false (sym h)),
      λ any. absurd (none_of P c.args.self.now.removed.items (subst (All (λ t. P t → ⊥)) c.deref-solid-items.ensures.value all) any),
    )
