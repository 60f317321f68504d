-- The line is one less in the lists, and goes from its place in the order.
use Rattle.std.proofs.Common.{◌≡◌, ◌∙◌, ◌+◌, None, Some, ap, inl, inr, sym, subst}
use Rattle.std.specs.Option.{option_map}
use Rattle.std.specs.FinMap.{remove}
use Rattle.line_arena.specs.Entries.{entry_at}
use Rattle.line_arena.specs.Lists.{line_at}
use Rattle.line_arena.specs.View.{arena_of}
use Rattle.line_arena.proofs.Arenas.ArenaLemmas.{after_remove_line, live_line, none_line, pair_at, pair_with}
use Rattle.line_arena.proofs.LineOrder.OrderKept.{kept_removed}
use Rattle.line_arena.proofs.arena.LineArena.remove_line.Goals as goal

pub remove_line-requires-clause-live : goal.remove_line-requires-clause-live
remove_line-requires-clause-live c = λ none.
    let a = c.self.inside.lists in
    let live = live_line a c.self.inside.written c.args.self.now c.self.view_is c.self.invariant.lists c.args.line c.requires.live in
    none_line live.0 (sym none ∙ live.1)

pub remove_line-requires-clause-empty : goal.remove_line-requires-clause-empty
remove_line-requires-clause-empty c = λ k s is.
    let a = c.self.inside.lists in
    let there = pair_with a c.self.inside.written c.args.self.now c.self.view_is c.self.invariant.lists k s is in
    (λ e. c.requires.no_crossings k (record { pair = pair_at s; is = there; on = inl e }), λ e. c.requires.no_crossings k (record { pair = pair_at s; is = there; on = inr e }))

pub get-requires : goal.get-requires
get-requires c = λ none.
    let a = c.self.inside.lists in
    let live = live_line a c.self.inside.written c.args.self.now c.self.view_is c.self.invariant.lists c.args.line c.requires.live in
    none_line live.0 (sym (ap (option_map (λ e. e.0)) (subst (λ i. entry_at a.lines i ≡ None) c.place.ensures none)) ∙ live.1)

pub take_out-requires-clause-there : goal.take_out-requires-clause-there
take_out-requires-clause-there c =
    let value : line_at c.self.inside.lists c.args.line ≡ Some c.get.result.now.0 = ap (option_map (λ e. e.0)) (subst (λ i. entry_at c.self.inside.lists.lines i ≡ Some c.get.result.now) c.place.ensures c.get.ensures) in
    (c.args.line, (c.self.invariant.listed c.get.result.now.0 c.args.line).1 value)

pub invariant_of-self : goal.invariant_of-self
invariant_of-self c =
    let e = c.remove_line.ensures in
    let o = c.take_out.ensures in
    let value : line_at c.self.inside.lists c.args.line ≡ Some c.get.result.now.0 = ap (option_map (λ e. e.0)) (subst (λ i. entry_at c.self.inside.lists.lines i ≡ Some c.get.result.now) c.place.ensures c.get.ensures) in
    kept_removed c.self.inside.lists c.self.inside.order.items _ _ c.self.invariant c.remove_line.new.self c.take_out.new.lines.items _ _ c.args.line c.get.result.now.0 e.lists value e.removed e.count e.room o.ordered o.left o.len o.room

pub returns : goal.returns
returns c =
    let a = c.self.inside.lists in
    let b = c.remove_line.new.self in
    let e = c.remove_line.ensures in
    record {
      after =
          subst (λ v. arena_of b c.self.inside.written ≡ record v { lines = remove v.lines c.args.line; spare_lines = v.spare_lines + 1 }) c.self.view_is
          (after_remove_line a b c.self.inside.written c.args.line e.removed e.crossings e.count e.fits e.room);
    }
