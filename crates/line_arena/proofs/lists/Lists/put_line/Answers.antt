-- A new line has no crossings, and so no links.
use Rattle.std.proofs.Common.{None, Some, ap, refl, subst}
use Rattle.std.specs.Option.{option_map}
use Rattle.slab.specs.Slab.{Updates}
use Rattle.line_arena.proofs.Linking.Put.{lists_with_line}
use Rattle.line_arena.proofs.lists.Lists.put_line.Goals as goal

pub returns-clause-lists : goal.returns-clause-lists
returns-clause-lists c =
    let a = c.args.self.now in
    let updates = subst (λ l. Updates a.lines.slab c.insert.new.self.slab c.insert.result (Some (c.args.line, record { first = None; last = l }))) c.none-2.ensures
    (subst (λ f. Updates a.lines.slab c.insert.new.self.slab c.insert.result (Some (c.args.line, record { first = f; last = c.none-2.result }))) c.none.ensures c.insert.ensures.updates) in
    lists_with_line a (record { lines = c.insert.new.self; crossings = a.crossings }) c.insert.result c.args.line c.requires.lists
    (ap (option_map (λ x. x.0)) c.insert.ensures.new_id) c.requires.apart c.requires.ordered updates refl
