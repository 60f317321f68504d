-- The link of a crossing in a direction leads to the nearest one further on.
use Rattle.std.proofs.Common.{◌≡◌, ◌≢◌, ◌∙◌, None, Some, ap, sym, subst}
use Rattle.std.specs.Prelude.{option_and_then}
use Rattle.std.specs.Option.{option_map}
use Rattle.plane_geom.specs.Along.{reach}
use Rattle.line_arena.specs.Entries.{entry_at}
use Rattle.line_arena.specs.Node.{next_of}
use Rattle.line_arena.specs.Lists.{IsNext, Stands, line_along, spot_at, spot_of}
use Rattle.line_arena.proofs.Arenas.ArenaLemmas.{is_arena, live_entry, nearest_seen, none_seen}
use Rattle.line_arena.proofs.arena.LineArena.next_on_line.Goals as goal

pub get-requires : goal.get-requires
get-requires c =
    subst (λ i. entry_at c.self.inside.lists.crossings i ≢ None) (sym c.place.ensures)
    (live_entry c.self.inside.lists c.self.inside.written c.args.self.now c.self.view_is c.self.invariant.lists c.args.crossing c.requires.live)

pub returns-clause-nearest : goal.returns-clause-nearest
returns-clause-nearest c =
    let a = c.self.inside.lists in
    let e = c.get.result.now in
    let d = c.args.dir in
    let is = subst (λ i. entry_at a.crossings i ≡ Some e) c.place.ensures c.get.ensures in
    let spot = ap (option_map spot_of) is in
    let read = c.crossing.ensures ∙ c.next.ensures ∙ sym (ap (option_and_then (λ x. next_of d x.1)) is) in
    let next = subst (IsNext (Stands (spot_at a) (line_along d (spot_of e)) d) (Some (reach d e.0))) (sym read) ((c.self.invariant.lists.linked d).nexts c.args.crossing (spot_of e) spot) in
    nearest_seen a c.self.inside.written c.args.self.now c.self.view_is c.self.invariant.lists d c.args.crossing (spot_of e) spot c.crossing.result next

pub returns-clause-absent : goal.returns-clause-absent
returns-clause-absent c =
    let a = c.self.inside.lists in
    let e = c.get.result.now in
    let d = c.args.dir in
    let is = subst (λ i. entry_at a.crossings i ≡ Some e) c.place.ensures c.get.ensures in
    let spot = ap (option_map spot_of) is in
    let read = c.crossing.ensures ∙ c.next.ensures ∙ sym (ap (option_and_then (λ x. next_of d x.1)) is) in
    let next = subst (IsNext (Stands (spot_at a) (line_along d (spot_of e)) d) (Some (reach d e.0))) (sym read) ((c.self.invariant.lists.linked d).nexts c.args.crossing (spot_of e) spot) in
    none_seen a c.self.inside.written c.args.self.now c.self.view_is c.self.invariant.lists d c.args.crossing (spot_of e) spot c.crossing.result next

pub returns-clause-arena : goal.returns-clause-arena
returns-clause-arena c = is_arena c.self.inside.lists c.self.inside.written c.args.self.now c.self.view_is c.self.invariant.lists
