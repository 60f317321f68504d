-- The place that is returned is that of the entry with the id.
use Rattle.std.proofs.Common.{◌≡◌, w64, to_z, of_z, to_z-of_z, sym, ap, subst, ◌∙◌, int_eq}
use Rattle.std.specs.Prelude.{position, IsSome}
use Rattle.scene_parts.proofs.Places.{has_place, place_has, set_there}
use Rattle.scene_parts.proofs.keyed.Keyed.set.Goals as goal

pub unwrap-place-requires : goal.unwrap-place-requires
unwrap-place-requires g c =
    let own : to_z w64 (of_z w64 c.id.result) ≡ g.T.Entry.id_of c.args.entry = to_z-of_z {w = w64} {z = c.id.result} (record { sfits = c.id.type_inv }) ∙ c.id.ensures in
    subst IsSome (sym (c.place_of.ensures.place ∙ ap (λ k. position (λ x. int_eq (g.T.Entry.id_of x) k) c.args.self.now) own))
    (has_place g.T.Entry.id_of (g.T.Entry.id_of c.args.entry) c.args.self.now c.requires.there)

pub set_at-requires : goal.set_at-requires
set_at-requires g c =
    let own : to_z w64 (of_z w64 c.id.result) ≡ g.T.Entry.id_of c.args.entry = to_z-of_z {w = w64} {z = c.id.result} (record { sfits = c.id.type_inv }) ∙ c.id.ensures in
    let p = place_has g.T.Entry.id_of (g.T.Entry.id_of c.args.entry) c.args.self.now c.unwrap-place.result
    (ap (λ k. position (λ x. int_eq (g.T.Entry.id_of x) k) c.args.self.now) (sym own) ∙ sym c.place_of.ensures.place ∙ c.unwrap-place.ensures) in
    rw p.1 p.2

pub returns : goal.returns
returns g c =
    let own : to_z w64 (of_z w64 c.id.result) ≡ g.T.Entry.id_of c.args.entry = to_z-of_z {w = w64} {z = c.id.result} (record { sfits = c.id.type_inv }) ∙ c.id.ensures in
    c.set_at.ensures
    ∙ set_there g.T.Entry.id_of (g.T.Entry.id_of c.args.entry) c.args.self.now c.unwrap-place.result c.args.entry c.requires.differ
    (ap (λ k. position (λ x. int_eq (g.T.Entry.id_of x) k) c.args.self.now) (sym own) ∙ sym c.place_of.ensures.place ∙ c.unwrap-place.ensures)
