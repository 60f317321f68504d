-- The crossing follows the one before it, and what followed that one follows the crossing.
use Rattle.std.proofs.Common.{Some, subst, sym}
use Rattle.line_arena.specs.Lists.{AreLinked, RunsAlong}
use Rattle.line_arena.proofs.Linking.Joined.{linked_in, own_links_kept, prev_live, relinks_before, spots_are}
use Rattle.line_arena.proofs.lists.Lists.link_in.Goals as goal

pub set_next-requires-clause-runs : goal.set_next-requires-clause-runs
set_next-requires-clause-runs c =
    let knows = c.requires.knows in
    subst (λ l. RunsAlong c.args.self.now l c.args.dir) (sym (c.requires.line knows.spot knows.is)) (knows.runs c.args.dir)

pub set_next-requires-clause-from : goal.set_next-requires-clause-from
set_next-requires-clause-from c =
    let a = c.args.self.now in
    prev_live a a c.args.crossing c.args.dir c.requires.knows c.args.before c.requires.before

pub returns-clause-linked : goal.returns-clause-linked
returns-clause-linked c =
    let a = c.args.self.now in
    let b = c.set_next.new.self in
    let knows = c.requires.knows in
    let r = relinks_before a b c.args.crossing c.args.dir knows c.args.line c.args.before c.to.result (Some c.args.crossing) (c.requires.line knows.spot knows.is) c.requires.before c.to.ensures c.set_next.ensures in
    subst (λ S. AreLinked b S c.args.dir) (sym (spots_are a b r.places.spots))
    (linked_in a b c.args.crossing c.args.dir knows c.requires.others r r.places.lines)

pub returns-clause-own : goal.returns-clause-own
returns-clause-own c =
    let a = c.args.self.now in
    let b = c.set_next.new.self in
    let knows = c.requires.knows in
    let r = relinks_before a b c.args.crossing c.args.dir knows c.args.line c.args.before c.to.result (Some c.args.crossing) (c.requires.line knows.spot knows.is) c.requires.before c.to.ensures c.set_next.ensures in
    own_links_kept a b c.args.crossing c.args.dir knows _ r
