-- The crossing is one more in the lists, and the order of the lines stays.
use Rattle.std.proofs.Common.{arith, refl, ◌≡◌, ◌∙◌, ◌-◌, ap, subst, rules}
use Rattle.std.specs.Option.{option_map}
use Rattle.std.specs.FinMap.{insert}
use Rattle.line_arena.specs.Arena.{Pair}
use Rattle.line_arena.specs.Count.{counted_by}
use Rattle.line_arena.specs.View.{arena_of}
use Rattle.line_arena.proofs.Arenas.ArenaLemmas.{is_arena, after_put_crossing, met_in, pair_at, pair_in, pair_with}
use Rattle.line_arena.proofs.LineOrder.OrderKept.{kept_same}
use Rattle.line_arena.proofs.arena.LineArena.put_crossing.Goals as goal

pub put_crossing-requires-clause-meet : goal.put_crossing-requires-clause-meet
put_crossing-requires-clause-meet c =
    let a = c.self.inside.lists in
    met_in a c.self.inside.written c.args.self.now c.self.view_is c.self.invariant.lists c.args.vertical c.args.horizontal c.requires.meet

pub put_crossing-requires-clause-new_pair : goal.put_crossing-requires-clause-new_pair
put_crossing-requires-clause-new_pair c = λ k s is ev eh.
    let a = c.self.inside.lists in
    let same : ◌≡◌ {A = Pair} (pair_at s) (record { vertical = c.args.vertical; horizontal = c.args.horizontal }) = λ i. record { vertical = ev i; horizontal = eh i } in
    c.requires.new_pair k (pair_with a c.self.inside.written c.args.self.now c.self.view_is c.self.invariant.lists k s is ∙ ap Rattle.std.proofs.Common.Some same)

pub returns-clause-new_id : goal.returns-clause-new_id
returns-clause-new_id c =
    let a = c.self.inside.lists in
    pair_in a c.self.inside.written c.args.self.now c.self.view_is c.self.invariant.lists c.put_crossing.result ∙ ap (option_map pair_at) c.put_crossing.ensures.new_id

pub returns-clause-after : goal.returns-clause-after
returns-clause-after c =
    let a = c.self.inside.lists in
    let b = c.put_crossing.new.self in
    let e = c.put_crossing.ensures in
    let u = c.saturating_add-self-inside.result in
    let id = c.put_crossing.result in
    let pair : Pair = record { vertical = c.args.vertical; horizontal = c.args.horizontal } in
    subst (λ v. arena_of b u ≡ record v { crossings = insert v.crossings id pair; spare_crossings = v.spare_crossings - 1; written = counted_by 1 v.written }) c.self.view_is
    (after_put_crossing a b c.self.inside.written e.lines e.line_count e.line_room e.room e.places u id _ e.put.updates e.count (search rules))

pub returns-clause-arena : goal.returns-clause-arena
returns-clause-arena c =
    let b = c.put_crossing.new.self in
    let u = c.saturating_add-self-inside.result in
    is_arena b u (arena_of b u) refl c.put_crossing.ensures.lists

pub invariant_of-self : goal.invariant_of-self
invariant_of-self c =
    let e = c.put_crossing.ensures in
    kept_same c.self.inside.lists c.self.inside.order.items _ _ c.self.invariant c.put_crossing.new.self c.self.inside.order.items _ _ e.lists e.lines e.line_count refl refl (omega (arith, c.self.invariant.room, e.line_room))
