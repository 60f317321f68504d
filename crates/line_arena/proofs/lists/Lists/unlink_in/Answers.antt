-- What followed the crossing follows the one before it.
use Rattle.std.proofs.Common.{subst, sym}
use Rattle.line_arena.specs.Lists.{AreLinked, without}
use Rattle.line_arena.proofs.Linking.Joined.{linked_out, own_links_kept, own_next_is, own_prev_is, own_relinks, own_runs, prev_live, spots_are}
use Rattle.line_arena.proofs.lists.Lists.unlink_in.Goals as goal

pub set_next-requires-clause-runs : goal.set_next-requires-clause-runs
set_next-requires-clause-runs c =
    let a = c.args.self.now in
    own_runs a a c.args.crossing c.args.dir c.requires.knows c.place.result c.get.result.now c.place.ensures c.get.ensures c.line.result c.line.ensures

pub set_next-requires-clause-from : goal.set_next-requires-clause-from
set_next-requires-clause-from c =
    let a = c.args.self.now in
    prev_live a a c.args.crossing c.args.dir c.requires.knows c.next-before.result
    (own_prev_is a a c.args.crossing c.args.dir c.requires.knows c.place.result c.get.result.now c.place.ensures c.get.ensures c.opposite.result c.next-before.result c.opposite.ensures c.next-before.ensures)

pub returns-clause-others : goal.returns-clause-others
returns-clause-others c =
    let a = c.args.self.now in
    let b = c.set_next.new.self in
    let knows = c.requires.knows in
    let after = own_next_is a b c.args.crossing c.args.dir knows c.place.result c.get.result.now c.place.ensures c.get.ensures c.next.result c.next.ensures in
    let r = own_relinks a b c.args.crossing c.args.dir knows c.place.result c.get.result.now c.place.ensures c.get.ensures c.line.result c.opposite.result c.next-before.result c.next.result _ c.line.ensures c.opposite.ensures c.next-before.ensures after c.set_next.ensures in
    subst (λ S. AreLinked b (without c.args.crossing S) c.args.dir) (sym (spots_are a b r.places.spots))
    (linked_out a b c.args.crossing c.args.dir knows c.requires.linked r r.places.lines)

pub returns-clause-own : goal.returns-clause-own
returns-clause-own c =
    let a = c.args.self.now in
    let b = c.set_next.new.self in
    let knows = c.requires.knows in
    let after = own_next_is a b c.args.crossing c.args.dir knows c.place.result c.get.result.now c.place.ensures c.get.ensures c.next.result c.next.ensures in
    let r = own_relinks a b c.args.crossing c.args.dir knows c.place.result c.get.result.now c.place.ensures c.get.ensures c.line.result c.opposite.result c.next-before.result c.next.result _ c.line.ensures c.opposite.ensures c.next-before.ensures after c.set_next.ensures in
    own_links_kept a b c.args.crossing c.args.dir knows _ r
