-- A new entry stands at the place, under its id.
use Rattle.std.proofs.Common.{◌≡◌, ◌∙◌, w64, to_z, of_z, to_z-of_z}
use Rattle.scene_parts.proofs.Keys.{put, not_there}
use Rattle.scene_parts.proofs.keyed.Keyed.put_at.Goals as goal

pub shift_insert-requires-clause-below_len : goal.shift_insert-requires-clause-below_len
shift_insert-requires-clause-below_len g c =
    let own : to_z w64 (of_z w64 c.id.result) ≡ g.T.Entry.id_of c.args.entry = to_z-of_z {w = w64} {z = c.id.result} (record { sfits = c.id.type_inv }) ∙ c.id.ensures in
    λ there. absurd (not_there g.T.Entry.id_of (to_z w64 (of_z w64 c.id.result)) c.args.entry c.self.inside.table.entries c.args.self.now c.self.invariant c.self.view_is own c.requires.new there)

pub invariant_of-self : goal.invariant_of-self
invariant_of-self g c =
    let own : to_z w64 (of_z w64 c.id.result) ≡ g.T.Entry.id_of c.args.entry = to_z-of_z {w = w64} {z = c.id.result} (record { sfits = c.id.type_inv }) ∙ c.id.ensures in
    (put g.T.Entry.id_of (to_z w64 (of_z w64 c.id.result)) c.args.entry c.self.inside.table.entries c.shift_insert.new.self.entries c.args.self.now c.args.place c.self.invariant c.self.view_is own c.requires.new c.in-Ok.ensures.entries).keyed

pub returns-in-Ok-clause-ok : goal.returns-in-Ok-clause-ok
returns-in-Ok-clause-ok g c =
    let own : to_z w64 (of_z w64 c.id.result) ≡ g.T.Entry.id_of c.args.entry = to_z-of_z {w = w64} {z = c.id.result} (record { sfits = c.id.type_inv }) ∙ c.id.ensures in
    (put g.T.Entry.id_of (to_z w64 (of_z w64 c.id.result)) c.args.entry c.self.inside.table.entries c.shift_insert.new.self.entries c.args.self.now c.args.place c.self.invariant c.self.view_is own c.requires.new c.in-Ok.ensures.entries).values
