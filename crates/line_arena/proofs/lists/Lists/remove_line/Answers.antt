-- No link leads to or from a line without crossings.
use Rattle.std.proofs.Common.{None, refl, subst}
use Rattle.slab.specs.Slab.{Updates}
use Rattle.line_arena.proofs.Linking.Put.{lists_without_line}
use Rattle.line_arena.proofs.lists.Lists.remove_line.Goals as goal

pub returns-clause-lists : goal.returns-clause-lists
returns-clause-lists c =
    let a = c.args.self.now in
    lists_without_line a (record { lines = c.remove.new.self; crossings = a.crossings }) c.args.line c.requires.lists c.requires.empty
    (subst (λ i. Updates a.lines.slab c.remove.new.self.slab i None) c.place.ensures c.remove.ensures.updates) refl
