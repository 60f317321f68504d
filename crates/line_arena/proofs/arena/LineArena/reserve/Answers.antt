-- Room is made in the order, for lines and for crossings; what was made stays where a later one fails.
use Rattle.std.proofs.Common.{◌≤◌, ◌-◌, ◌∙◌, ap, refl, sym, subst, arith}
use Rattle.slab.specs.Slab.{slab_len}
use Rattle.line_arena.specs.declared.lists.Lists.{Lists}
use Rattle.line_arena.specs.View.{pair_of}
use Rattle.line_arena.proofs.Arenas.ArenaLemmas.{lists_same}
use Rattle.line_arena.proofs.LineOrder.OrderKept.{kept_same, same_lines, same_count}
use Rattle.line_arena.proofs.Arenas.Seen.{seen_slots}
use Rattle.line_arena.proofs.arena.LineArena.reserve.Goals as goal

-- when out of memory for the order, or for the lines, or for the crossings, or for nothing
pub invariant_of-self : goal.invariant_of-self
invariant_of-self c =
    let a = c.self.inside.lists in
    let kept = c.self.invariant in
    kept_same a c.self.inside.order.items _ _ kept a c.reserve.new.self.items _ _ kept.lists (λ l. refl) refl c.reserve.ensures.items c.reserve.ensures.len (omega (arith, kept.room, c.reserve.ensures.capacity))

pub invariant_of-self-in_err-reserve-2 : goal.invariant_of-self-in_err-reserve-2
invariant_of-self-in_err-reserve-2 c =
    let a = c.self.inside.lists in
    let kept = c.self.invariant in
    let b : Lists = record { lines = c.reserve-2.new.self; crossings = a.crossings } in
    let slots = c.reserve-2.ensures.slots in
    kept_same a c.self.inside.order.items _ _ kept b c.reserve.new.self.items _ _ (lists_same a b slots refl kept.lists) (same_lines a b slots) (same_count a b slots) c.reserve.ensures.items c.reserve.ensures.len
    (omega (arith, kept.room, kept.count, c.reserve.ensures.capacity, c.reserve.ensures.len, (c.in_ok-reserve.ensures {u = tt}).ok, c.reserve-2.ensures.no_more))

pub invariant_of-self-2 : goal.invariant_of-self-2
invariant_of-self-2 c =
    let a = c.self.inside.lists in
    let kept = c.self.invariant in
    let b : Lists = record { lines = c.reserve-2.new.self; crossings = c.reserve-3.new.self } in
    let slots = c.reserve-2.ensures.slots in
    kept_same a c.self.inside.order.items _ _ kept b c.reserve.new.self.items _ _ (lists_same a b slots c.reserve-3.ensures.slots kept.lists) (same_lines a b slots) (same_count a b slots) c.reserve.ensures.items c.reserve.ensures.len
    (omega (arith, kept.room, kept.count, c.reserve.ensures.capacity, c.reserve.ensures.len, (c.in_ok-reserve.ensures {u = tt}).ok, c.reserve-2.ensures.no_more))

pub returns-in_err-reserve-2-clause-lines : goal.returns-in_err-reserve-2-clause-lines
returns-in_err-reserve-2-clause-lines c =
    seen_slots (λ e. e.0) c.self.inside.lists.lines.slab c.reserve-2.new.self.slab c.reserve-2.ensures.slots ∙ ap (λ v. v.lines) c.self.view_is

pub returns-clause-lines : goal.returns-clause-lines
returns-clause-lines c =
    seen_slots (λ e. e.0) c.self.inside.lists.lines.slab c.reserve-2.new.self.slab c.reserve-2.ensures.slots ∙ ap (λ v. v.lines) c.self.view_is

pub returns-clause-crossings : goal.returns-clause-crossings
returns-clause-crossings c =
    seen_slots pair_of c.self.inside.lists.crossings.slab c.reserve-3.new.self.slab c.reserve-3.ensures.slots ∙ ap (λ v. v.crossings) c.self.view_is

pub returns-clause-had_room : goal.returns-clause-had_room
returns-clause-had_room c = λ few.
    let old = c.self.inside.lists.crossings in
    let spare : c.args.crossings ≤ old.room - slab_len old.slab = subst (λ v. c.args.crossings ≤ v.spare_crossings) (sym c.self.view_is) few in
    c.reserve-3.ensures.had_room (omega (arith, spare, c.reserve-3.ensures.within)) ∙ ap (λ v. v.places) c.self.view_is
