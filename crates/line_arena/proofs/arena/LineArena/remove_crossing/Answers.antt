-- The crossing is one less in the lists, and the order of the lines stays.
use Rattle.std.proofs.Common.{refl, arith, ◌≡◌, ◌∙◌, ◌+◌, sym, subst}
use Rattle.std.specs.FinMap.{remove}
use Rattle.line_arena.specs.View.{arena_of}
use Rattle.line_arena.proofs.Arenas.ArenaLemmas.{after_remove_crossing, live_spot, none_spot}
use Rattle.line_arena.proofs.LineOrder.OrderKept.{kept_same}
use Rattle.line_arena.proofs.arena.LineArena.remove_crossing.Goals as goal

pub remove_crossing-requires-clause-live : goal.remove_crossing-requires-clause-live
remove_crossing-requires-clause-live c = λ none.
    let a = c.self.inside.lists in
    let live = live_spot a c.self.inside.written c.args.self.now c.self.view_is c.self.invariant.lists c.args.crossing c.requires.live in
    none_spot live.0 (sym none ∙ live.1)

pub returns : goal.returns
returns c =
    let a = c.self.inside.lists in
    let b = c.remove_crossing.new.self in
    let e = c.remove_crossing.ensures in
    record {
      after =
          subst (λ v. arena_of b c.self.inside.written ≡ record v { crossings = remove v.crossings c.args.crossing; spare_crossings = v.spare_crossings + 1 }) c.self.view_is
          (after_remove_crossing a b c.self.inside.written e.lines e.line_count e.line_room e.room e.places c.args.crossing e.removed e.count e.fits);
    }

pub invariant_of-self : goal.invariant_of-self
invariant_of-self c =
    let e = c.remove_crossing.ensures in
    kept_same c.self.inside.lists c.self.inside.order.items _ _ c.self.invariant c.remove_crossing.new.self c.self.inside.order.items _ _ e.lists e.lines e.line_count refl refl (omega (arith, c.self.invariant.room, e.line_room))
