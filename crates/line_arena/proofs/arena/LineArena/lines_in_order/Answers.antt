-- The order that is kept lists exactly the lines of the lists.
use Rattle.std.proofs.Common.{◌∙◌, sym, subst}
use Rattle.std.specs.Prelude.{Contains}
use Rattle.line_arena.specs.Order.{AreOrderedWithIds}
use Rattle.line_arena.proofs.Arenas.ArenaLemmas.{line_in}
use Rattle.line_arena.proofs.arena.LineArena.lines_in_order.Goals as goal

pub returns-clause-ordered : goal.returns-clause-ordered
returns-clause-ordered c = subst AreOrderedWithIds (sym c.as_slice.ensures.value) c.self.invariant.ordered

pub returns-clause-listed : goal.returns-clause-listed
returns-clause-listed c = λ line id.
    let seen = line_in c.self.inside.lists c.self.inside.written c.args.self.now c.self.view_is c.self.invariant.lists id in
    let kept = c.self.invariant.listed line id in (
      λ there. seen ∙ kept.0 (subst (λ ls. Contains ls (line, id)) c.as_slice.ensures.value there),
      λ is. subst (λ ls. Contains ls (line, id)) (sym c.as_slice.ensures.value) (kept.1 (sym seen ∙ is)),
    )
