-- A line that runs along a direction runs along the one against it.
use Rattle.std.proofs.Common.{sym, subst}
use Rattle.line_arena.specs.Lists.{RunsAlong}
use Rattle.line_arena.proofs.Linking.Walk.{runs_back}
use Rattle.line_arena.proofs.lists.Lists.nearer_start.Goals as goal

pub returns-else-starts_nearer : goal.returns-else-starts_nearer
returns-else-starts_nearer c =
    let a = c.args.self.now in
    subst (RunsAlong a c.args.line) (sym c.opposite.ensures) (runs_back a c.args.line c.args.dir c.requires.runs)
