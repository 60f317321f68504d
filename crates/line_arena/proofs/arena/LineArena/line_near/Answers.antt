-- A line is there where it stands among the lines in order, whichever place was looked at first.
use Rattle.std.proofs.Common.{sym, subst}
use Rattle.std.specs.Prelude.{Contains}
use Rattle.std.proofs.lemmas.Option.{IfSome_then}
use Rattle.line_arena.proofs.Arenas.ArenaLemmas.{is_arena}
use Rattle.line_arena.proofs.LineOrder.OrderKept.{line_listed, none_found, none_listed}
use Rattle.line_arena.proofs.arena.LineArena.line_near.Goals as goal

pub returns-clause-found : goal.returns-clause-found
returns-clause-found c =
    IfSome_then c.find_near.result c.find_near.ensures.found (λ found there.
    line_listed c.self.inside.lists c.self.inside.order.items _ _ c.self.invariant c.self.inside.written c.args.self.now c.self.view_is c.args.line found.0
    (subst (λ ls. Contains ls (c.args.line, found.0)) c.as_slice.ensures.value there))

pub returns-clause-absent : goal.returns-clause-absent
returns-clause-absent c = (
  λ no.
      none_listed c.self.inside.lists c.self.inside.order.items _ _ c.self.invariant c.self.inside.written c.args.self.now c.self.view_is c.args.line
      (λ id there. c.find_near.ensures.absent no id (subst (λ ls. Contains ls (c.args.line, id)) (sym c.as_slice.ensures.value) there)),
  λ none. none_found c.find_near.result (returns-clause-found c) (λ found is. none found.0 is),
)

pub returns-clause-arena : goal.returns-clause-arena
returns-clause-arena c = is_arena c.self.inside.lists c.self.inside.written c.args.self.now c.self.view_is c.self.invariant.lists
