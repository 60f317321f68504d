-- The edge has a place, and a cut edge goes back there.
use Rattle.std.proofs.Common.{◌≡◌, pos, sym, ap, subst, ◌∙◌, int_eq, w64, to_z, of_z, to_z-of_z}
use Rattle.std.specs.Prelude.{find, position, IsSome}
use Rattle.scene_model.specs.declared.edge.Edge.{Edge}
use Rattle.scene_parts.proofs.Apart.{number_found, put_there}
use Rattle.scene_parts.proofs.parts.Parts.edge_put_back.Goals as goal

pub unwrap-before-requires : goal.unwrap-before-requires
unwrap-before-requires c =
    let own : to_z w64 (of_z w64 c.from.result) ≡ pos c.args.number = to_z-of_z {w = w64} {z = c.from.result} (record { sfits = c.from.type_inv }) ∙ c.from.ensures in
    c.place_of.ensures.found
    (subst (λ k. IsSome (find (λ (e : Edge). int_eq (pos e.number) k) c.self.inside.edges)) (sym own)
    (subst (λ s. IsSome (find (λ (e : Edge). int_eq (pos e.number) (pos c.args.number)) s.edges)) (sym c.self.view_is)
    (subst IsSome (sym (number_found c.args.self.now.edges c.args.number)) c.requires.there)))

pub returns : goal.returns
returns c =
    let own : to_z w64 (of_z w64 c.from.result) ≡ pos c.args.number = to_z-of_z {w = w64} {z = c.from.result} (record { sfits = c.from.type_inv }) ∙ c.from.ensures in
    put_there c.args.self.now c.args.number c.unwrap-before.result c.in_ok-edge_copy.field-0 c.in_ok-edge_copy.ensures
    (ap (λ s. position (λ (d : Edge). int_eq (pos d.number) (pos c.args.number)) s.edges) (sym c.self.view_is)
    ∙ ap (λ k. position (λ (d : Edge). int_eq (pos d.number) k) c.self.inside.edges) (sym own)
    ∙ sym c.place_of.ensures.place ∙ c.unwrap-before.ensures)
