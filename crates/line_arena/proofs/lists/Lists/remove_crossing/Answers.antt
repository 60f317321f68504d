-- The crossing has its neighbours, and they become neighbours of each other.
use Rattle.std.proofs.Common.{None, refl, subst}
use Rattle.slab.specs.Slab.{Updates}
use Rattle.line_arena.specs.Lists.{spot_at}
use Rattle.line_arena.proofs.Linking.Put.{knows_linked, lists_without, nexts_update, some_of, sound_same, spots_update}
use Rattle.line_arena.proofs.lists.Lists.remove_crossing.Goals as goal

pub unlink_all-requires-clause-knows : goal.unlink_all-requires-clause-knows
unlink_all-requires-clause-knows c =
    let a = c.args.self.now in
    let live = some_of (spot_at a c.args.crossing) c.requires.live in
    knows_linked a c.args.crossing live.0 c.requires.lists live.1

pub returns-clause-lists : goal.returns-clause-lists
returns-clause-lists c =
    let a = c.unlink_all.new.self in
    let k = c.args.crossing in
    let updates = subst (λ i. Updates a.crossings.slab c.remove.new.self.slab i None) c.place.ensures c.remove.ensures.updates in
    lists_without a (record { lines = a.lines; crossings = c.remove.new.self }) k (sound_same c.args.self.now a c.unlink_all.ensures.places c.requires.lists.sound) c.unlink_all.ensures.others
    (λ l. refl) (spots_update a (record { lines = a.lines; crossings = c.remove.new.self }) k None updates) (λ l d. refl)
    (nexts_update a (record { lines = a.lines; crossings = c.remove.new.self }) k None updates)
