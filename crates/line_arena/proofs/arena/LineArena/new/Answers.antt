-- Without entries there are no lines and no crossings.
use Rattle.line_arena.specs.View.{pair_of}
use Rattle.line_arena.proofs.Arenas.ArenaLaws.{empty_arena}
use Rattle.line_arena.proofs.Arenas.Seen.{seen_empty}
use Rattle.line_arena.proofs.arena.LineArena.new.Goals as goal

pub returns-clause-lines : goal.returns-clause-lines
returns-clause-lines c = seen_empty (λ e. e.0) c.new.result.slab c.new.ensures.slots

pub returns-clause-crossings : goal.returns-clause-crossings
returns-clause-crossings c = seen_empty pair_of c.new-2.result.slab c.new-2.ensures.slots

pub returns-clause-arena : goal.returns-clause-arena
returns-clause-arena c = empty_arena _ (returns-clause-lines c) (returns-clause-crossings c)
