-- The entry at the place is there, and another one with its id takes its stead.
use Rattle.scene_parts.proofs.Keys.{set_keyed, set_values, some_at}
use Rattle.scene_parts.proofs.keyed.Keyed.set_at.Goals as goal
use Rattle.scene_parts.proofs.keyed.Keyed.set_at.Goals.{in-Some, in_default}

pub invariant_of-self : goal.invariant_of-self
invariant_of-self g c = elim c.match-get_index_mut.branch [
  | in-Some w ↦ rw w.self-inside-is (set_keyed g.T.Entry.id_of c.self.inside.table.entries c.args.self.now c.args.place c.args.entry c.self.invariant c.self.view_is c.requires)
  | in_default w ↦ absurd (some_at g.T.Entry.id_of c.self.inside.table.entries c.args.self.now c.args.place c.args.entry c.self.view_is c.requires w.in_default.ensures.value)
]

pub returns : goal.returns
returns g c = elim c.match-get_index_mut.branch [
  | in-Some w ↦ rw w.self-inside-is (set_values g.T.Entry.id_of c.self.inside.table.entries c.args.self.now c.args.place c.args.entry c.self.view_is)
  | in_default w ↦ absurd (some_at g.T.Entry.id_of c.self.inside.table.entries c.args.self.now c.args.place c.args.entry c.self.view_is c.requires w.in_default.ensures.value)
]
