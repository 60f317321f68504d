-- Where a line's list begins, its crossing with the least coordinate stands.
use Rattle.std.proofs.Common.{◌≡◌, ◌≢◌, ◌∙◌, None, Some, ap, sym, subst}
use Rattle.std.specs.Prelude.{option_and_then}
use Rattle.std.specs.Option.{option_map}
use Rattle.plane_geom.specs.Along.{rising}
use Rattle.line_arena.specs.Entries.{entry_at}
use Rattle.line_arena.specs.Node.{start_of}
use Rattle.line_arena.specs.Lists.{IsNext, Stands, spot_at}
use Rattle.line_arena.proofs.Arenas.ArenaLemmas.{first_seen, is_arena, live_line, no_first_seen, rising_way, start_rising}
use Rattle.line_arena.proofs.Linking.Walk.{line_live}
use Rattle.line_arena.proofs.arena.LineArena.first_on_line.Goals as goal

pub get-requires : goal.get-requires
get-requires c =
    let a = c.self.inside.lists in
    let line = live_line a c.self.inside.written c.args.self.now c.self.view_is c.self.invariant.lists c.args.line c.requires.live in
    subst (λ i. entry_at a.lines i ≢ None) (sym c.place.ensures)
    (line_live a c.args.line (rising line.0.way) (record { line = line.0; is = line.1; way = sym (rising_way line.0.way) }))

pub returns-clause-first : goal.returns-clause-first
returns-clause-first c =
    let a = c.self.inside.lists in
    let e = c.get.result.now in
    let d = rising e.0.way in
    let is = subst (λ i. entry_at a.lines i ≡ Some e) c.place.ensures c.get.ensures in
    let line = ap (option_map (λ x. x.0)) is in
    let read = sym (ap (option_and_then (λ x. start_of d x.1)) is ∙ start_rising e.0.way e.1) in
    let next = subst (IsNext (Stands (spot_at a) c.args.line d) None) (sym read) ((c.self.invariant.lists.linked d).starts c.args.line e.0 line (sym (rising_way e.0.way))) in
    rw c.crossing.ensures
    (first_seen a c.self.inside.written c.args.self.now c.self.view_is c.self.invariant.lists c.args.line e.0 line e.1.first next)

pub returns-clause-absent : goal.returns-clause-absent
returns-clause-absent c =
    let a = c.self.inside.lists in
    let e = c.get.result.now in
    let d = rising e.0.way in
    let is = subst (λ i. entry_at a.lines i ≡ Some e) c.place.ensures c.get.ensures in
    let line = ap (option_map (λ x. x.0)) is in
    let read = sym (ap (option_and_then (λ x. start_of d x.1)) is ∙ start_rising e.0.way e.1) in
    let next = subst (IsNext (Stands (spot_at a) c.args.line d) None) (sym read) ((c.self.invariant.lists.linked d).starts c.args.line e.0 line (sym (rising_way e.0.way))) in
    rw c.crossing.ensures
    (no_first_seen a c.self.inside.written c.args.self.now c.self.view_is c.self.invariant.lists c.args.line e.0 line e.1.first next)

pub returns-clause-arena : goal.returns-clause-arena
returns-clause-arena c = is_arena c.self.inside.lists c.self.inside.written c.args.self.now c.self.view_is c.self.invariant.lists
