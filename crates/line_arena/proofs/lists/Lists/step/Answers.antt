-- What follows a crossing in a direction is there.
use Rattle.std.proofs.Common.{◌≡◌, Some, subst}
use Rattle.line_arena.specs.Entries.{entry_at}
use Rattle.line_arena.proofs.Linking.Walk.{step_live}
use Rattle.line_arena.proofs.lists.Lists.step.Goals as goal

pub returns-in-Some : goal.returns-in-Some
returns-in-Some c =
    let a = c.args.self.now in
    let e = c.get.result.now in
    let is = subst (λ i. entry_at a.crossings i ≡ Some e) c.place.ensures c.get.ensures in
    step_live a c.requires.lists c.args.dir c.in-Some.crossing e is c.next.result c.next.ensures
