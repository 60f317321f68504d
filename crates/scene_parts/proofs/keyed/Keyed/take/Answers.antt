-- The place that is returned is that of the entry with the id.
use Rattle.std.proofs.Common.{to_z-of_z, sym, ap, subst, ◌∙◌, int_eq}
use Rattle.std.specs.Prelude.{position, IsSome}
use Rattle.scene_parts.proofs.Places.{has_place, taken_there}
use Rattle.scene_parts.proofs.keyed.Keyed.take.Goals as goal

pub unwrap-place-requires : goal.unwrap-place-requires
unwrap-place-requires g c =
    subst IsSome (sym (c.place_of.ensures.place ∙ ap (λ k. position (λ x. int_eq (g.T.Entry.id_of x) k) c.args.self.now) (to_z-of_z c.ranges.id)))
    (has_place g.T.Entry.id_of c.args.id c.args.self.now c.requires.there)

pub returns : goal.returns
returns g c =
    c.take_at.ensures.others
    ∙ taken_there g.T.Entry.id_of c.args.id c.args.self.now c.unwrap-place.result c.requires.differ
    (ap (λ k. position (λ x. int_eq (g.T.Entry.id_of x) k) c.args.self.now) (sym (to_z-of_z c.ranges.id)) ∙ sym c.place_of.ensures.place ∙ c.unwrap-place.ensures)
