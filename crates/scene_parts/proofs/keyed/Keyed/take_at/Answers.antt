-- The entry at the place goes, and the others keep their order.
use Rattle.std.proofs.Common.{◌∙◌, sym, ap}
use Rattle.std.specs.Option.{option_map}
use Rattle.std.specs.Prelude.{slice_get}
use Rattle.std.proofs.lemmas.Option.{slice_get-map}
use Rattle.scene_parts.proofs.Keys.{taken_keyed, taken_values}
use Rattle.scene_parts.proofs.keyed.Keyed.take_at.Goals as goal

pub invariant_of-self-2 : goal.invariant_of-self-2
invariant_of-self-2 g c = taken_keyed g.T.Entry.id_of c.self.inside.table.entries c.shift_remove_index.new.self.entries c.args.place c.self.invariant c.shift_remove_index.ensures.entries

pub returns-clause-entry : goal.returns-clause-entry
returns-clause-entry g c =
    ap (option_map (λ e. e.1)) c.in_ok-entry.ensures.entry ∙ sym (slice_get-map (λ e. e.1) c.self.inside.table.entries c.args.place) ∙ ap (λ l. slice_get l c.args.place) c.self.view_is

pub returns-clause-others : goal.returns-clause-others
returns-clause-others g c = taken_values g.T.Entry.id_of c.self.inside.table.entries c.shift_remove_index.new.self.entries c.args.self.now c.args.place c.self.view_is c.shift_remove_index.ensures.entries
