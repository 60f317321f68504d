-- A crossing that is there has an entry.
use Rattle.std.proofs.Common.{◌≢◌, None, sym, subst}
use Rattle.line_arena.specs.Entries.{entry_at}
use Rattle.line_arena.proofs.Arenas.ArenaLemmas.{live_entry}
use Rattle.line_arena.proofs.arena.LineArena.index.Goals as goal

pub index-requires : goal.index-requires
index-requires c =
    subst (λ i. entry_at c.self.inside.lists.crossings i ≢ None) (sym c.place.ensures)
    (live_entry c.self.inside.lists c.self.inside.written c.args.self.now c.self.view_is c.self.invariant.lists c.args.crossing c.requires.live)
