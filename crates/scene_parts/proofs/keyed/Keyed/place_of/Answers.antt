-- The place of a key is the place of the entry with the id.
use Rattle.std.proofs.Common.{◌∙◌, sym, ap, subst, to_z-of_z, int_eq}
use Rattle.std.specs.Prelude.{position, IsSome}
use Rattle.std.specs.Map.{keys_of}
use Rattle.scene_parts.proofs.Keys.{place_keyed}
use Rattle.scene_parts.proofs.Places.{has_place}
use Rattle.scene_parts.proofs.keyed.Keyed.place_of.Goals as goal

pub returns-clause-place : goal.returns-clause-place
returns-clause-place g c =
    c.get_index_of.ensures.index ∙ ap (λ k. position (int_eq k) (keys_of c.self.inside.table.entries)) (to_z-of_z c.ranges.id)
    ∙ place_keyed g.T.Entry.id_of c.args.id c.self.inside.table.entries c.args.self.now c.self.invariant c.self.view_is

pub returns-clause-found : goal.returns-clause-found
returns-clause-found g c there =
    let place = c.get_index_of.ensures.index ∙ ap (λ k. position (int_eq k) (keys_of c.self.inside.table.entries)) (to_z-of_z c.ranges.id)
    ∙ place_keyed g.T.Entry.id_of c.args.id c.self.inside.table.entries c.args.self.now c.self.invariant c.self.view_is in
    subst IsSome (sym place) (has_place g.T.Entry.id_of c.args.id c.args.self.now there)
