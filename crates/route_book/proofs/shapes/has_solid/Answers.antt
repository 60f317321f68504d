-- The node with the solid's id decides.
use Rattle.std.proofs.Common.{◌≡◌, Some, None, sym, ap, ◌∙◌, arith, true≢false, w64, to_z, of_z}
use Rattle.std.proofs.lemmas.Int.{ints}
use Rattle.std.proofs.lemmas.Bool.Decides.{Decides-at}
use Rattle.scene_model.specs.declared.settings.Settings.{Settings}
use Rattle.scene_model.specs.Scene.{node_with}
use Rattle.scene_model.specs.Routing.{solid_of}
use Rattle.route_book.proofs.Comparing.Same.{solid_same}
use Rattle.route_book.proofs.Touching.Solids.{node_found, no_solid, solid_of_found}
use Rattle.route_book.proofs.shapes.has_solid.Goals as goal

pub solid-requires-clause-node : goal.solid-requires-clause-node
solid-requires-clause-node c = node_found c.args.scene.now _ c.in-Some.node.now c.settings-settings.ensures.valid (sym c.in-Some.ensures)

pub returns-in_default : goal.returns-in_default
returns-in_default c =
    let s = c.args.scene.now in
    let x = c.args.solid in
    let same : x.node ≡ to_z w64 (of_z w64 x.node) = omega (arith, ints) in (
      λ h. absurd (true≢false (sym h)),
      λ has. absurd (no_solid s x (ap (node_with s) same ∙ sym c.in_default.ensures) has),
    )

pub returns-in_default-solid : goal.returns-in_default-solid
returns-in_default-solid c =
    let s = c.args.scene.now in
    let x = c.args.solid in
    let n = c.in-Some.node.now in
    let same : x.node ≡ to_z w64 (of_z w64 x.node) = omega (arith, ints) in
    let means = solid_of_found s x n None c.settings-settings.ensures.valid (ap (node_with s) same ∙ sym c.in-Some.ensures)
    (c.in_default-solid.ensures ∙ ap (λ (t : Settings). solid_of t.buffer n) c.settings-settings.ensures.value) in (
      λ h. absurd (true≢false (sym h)),
      λ has. let none = means.1 has in absurd (cc),
    )

pub returns : goal.returns
returns c =
    let s = c.args.scene.now in
    let x = c.args.solid in
    let n = c.in-Some.node.now in
    let own = c.in-Some-solid.own in
    let same : x.node ≡ to_z w64 (of_z w64 x.node) = omega (arith, ints) in
    let means = solid_of_found s x n (Some own) c.settings-settings.ensures.valid (ap (node_with s) same ∙ sym c.in-Some.ensures)
    (c.in-Some-solid.ensures ∙ ap (λ (t : Settings). solid_of t.buffer n) c.settings-settings.ensures.value) in
    let test = Decides-at c.eq.result _ c.eq.ensures (solid_same own x) in (
      λ h. means.0 (ap (λ z. Some z) (test.0 h)),
      λ has. let is = means.1 has in test.1 (cc),
    )
