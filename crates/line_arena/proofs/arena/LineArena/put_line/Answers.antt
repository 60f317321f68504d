-- The line is one more in the lists, and one more at its place in the order.
use Rattle.std.proofs.Common.{refl, ◌≡◌, ◌∙◌, ◌-◌, ◌<◌, sym, subst, arith, rules}
use Rattle.slab.specs.Slab.{slab_len}
use Rattle.std.specs.FinMap.{insert}
use Rattle.line_arena.specs.Count.{counted_by}
use Rattle.line_arena.specs.View.{arena_of}
use Rattle.line_arena.proofs.Arenas.ArenaLemmas.{is_arena, after_put_line, line_in}
use Rattle.line_arena.proofs.LineOrder.OrderKept.{kept_put, place_of_new}
use Rattle.line_arena.proofs.arena.LineArena.put_line.Goals as goal

pub put_line-id-requires-clause-apart : goal.put_line-id-requires-clause-apart
put_line-id-requires-clause-apart c = λ i m p is.
    let a = c.self.inside.lists in
    c.requires.apart i m p (line_in a c.self.inside.written c.args.self.now c.self.view_is c.self.invariant.lists i ∙ is)

pub put_in_order-requires-clause-place : goal.put_in_order-requires-clause-place
put_in_order-requires-clause-place c =
    let kept = c.self.invariant in
    place_of_new c.self.inside.lists c.self.inside.order.items _ _ kept c.args.line c.requires.ordered (λ i m p is. c.requires.apart i m p (line_in c.self.inside.lists c.self.inside.written c.args.self.now c.self.view_is c.self.invariant.lists i ∙ is))

pub put_in_order-requires-clause-room : goal.put_in_order-requires-clause-room
put_in_order-requires-clause-room c =
    let a = c.self.inside.lists in
    let kept = c.self.invariant in
    let spare : 0 < a.lines.room - slab_len a.lines.slab = subst (λ v. 0 < v.spare_lines) (sym c.self.view_is) c.requires.spare in
    omega (arith, kept.count, kept.room, spare)

pub invariant_of-self : goal.invariant_of-self
invariant_of-self c =
    let e = c.put_line-id.ensures in
    let o = c.put_in_order.ensures in
    kept_put c.self.inside.lists c.self.inside.order.items _ _ c.self.invariant c.put_line-id.new.self c.put_in_order.new.lines.items _ _ c.put_line-id.result c.args.line e.lists e.new_id e.put e.count e.room o.ordered o.there o.len o.room

pub returns-clause-new_id : goal.returns-clause-new_id
returns-clause-new_id c =
    let a = c.self.inside.lists in
    line_in a c.self.inside.written c.args.self.now c.self.view_is c.self.invariant.lists c.put_line-id.result ∙ c.put_line-id.ensures.new_id

pub returns-clause-after : goal.returns-clause-after
returns-clause-after c =
    let a = c.self.inside.lists in
    let b = c.put_line-id.new.self in
    let e = c.put_line-id.ensures in
    let u = c.saturating_add-self-inside.result in
    let id = c.put_line-id.result in
    subst (λ v. arena_of b u ≡ record v { lines = insert v.lines id c.args.line; spare_lines = v.spare_lines - 1; written = counted_by 1 v.written }) c.self.view_is
    (after_put_line a b c.self.inside.written u id c.args.line e.put e.crossings e.count e.room (search rules))

pub returns-clause-arena : goal.returns-clause-arena
returns-clause-arena c =
    let b = c.put_line-id.new.self in
    let u = c.saturating_add-self-inside.result in
    is_arena b u (arena_of b u) refl c.put_line-id.ensures.lists
