-- The entry of a crossing has the point where its lines meet.
use Rattle.std.proofs.Common.{◌≡◌, ◌≢◌, None, Some, ap, sym, subst}
use Rattle.std.specs.Option.{option_map}
use Rattle.line_arena.specs.Entries.{entry_at}
use Rattle.line_arena.specs.Lists.{spot_of}
use Rattle.line_arena.proofs.Arenas.ArenaLemmas.{live_entry, stands_at}
use Rattle.line_arena.proofs.arena.LineArena.point.Goals as goal

pub get-requires : goal.get-requires
get-requires c =
    subst (λ i. entry_at c.self.inside.lists.crossings i ≢ None) (sym c.place.ensures)
    (live_entry c.self.inside.lists c.self.inside.written c.args.self.now c.self.view_is c.self.invariant.lists c.args.crossing c.requires.live)

pub returns : goal.returns
returns c =
    let a = c.self.inside.lists in
    let is = subst (λ i. entry_at a.crossings i ≡ Some c.get.result.now) c.place.ensures c.get.ensures in
    stands_at a c.self.inside.written c.args.self.now c.self.view_is c.self.invariant.lists c.args.crossing (spot_of c.get.result.now) (ap (option_map spot_of) is)
