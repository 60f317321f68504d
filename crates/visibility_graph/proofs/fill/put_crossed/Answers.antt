-- A line comes with all its crossings: with the lines that stay, and then with those before it.
use Rattle.std.proofs.Common.{◌≡◌, ap, ◌∙◌, arith}
use Rattle.std.specs.Prelude.{filter}
use Rattle.std.specs.FinMap.{get}
use Rattle.std.proofs.lemmas.List.Elements.{Contains-append_left, Contains-append_right}
use Rattle.std.proofs.lemmas.List.Sums.{length-filter}
use Rattle.line_arena.specs.Arena.{Arena}
use Rattle.sweep_lines.proofs.Members.{among_filtered, among_of_contains, contains_of_among}
use Rattle.visibility_graph.specs.Meeting.{meets}
use Rattle.visibility_graph.proofs.Crossed.{crossed_on, still_uncrossed}
use Rattle.visibility_graph.proofs.Filled.{line_there, put_with_all, there_more, uncrossed_yet}
use Rattle.visibility_graph.proofs.fill.put_crossed.Goals as goal

pub cross-requires-clause-there : goal.cross-requires-clause-there
cross-requires-clause-there c = line_there c.args.arena.now c.put_line-id.new.self c.put_line-id.result c.args.line.now (record { free = c.put_line-id.ensures.new_id; after = c.put_line-id.ensures.after; room = c.requires.room_for_line })

pub cross-requires-clause-others_there : goal.cross-requires-clause-others_there
cross-requires-clause-others_there c = λ l among.
    let was = (c.requires.lines l).1 (Contains-append_left c.args.stay.now c.args.before.now l among) in
    (was.0, there_more c.args.arena.now c.put_line-id.new.self c.put_line-id.result c.args.line.now (record { free = c.put_line-id.ensures.new_id; after = c.put_line-id.ensures.after; room = c.requires.room_for_line }) was.0 l was.1)

pub cross-requires-clause-uncrossed : goal.cross-requires-clause-uncrossed
cross-requires-clause-uncrossed c = λ l among. uncrossed_yet c.args.arena.now c.put_line-id.new.self c.put_line-id.result c.args.line.now (record { free = c.put_line-id.ensures.new_id; after = c.put_line-id.ensures.after; room = c.requires.room_for_line }) c.args.line.now.way l c.laws.ensures.arena

pub cross-requires-2-clause-there : goal.cross-requires-2-clause-there
cross-requires-2-clause-there c =
    ap (λ m. get m c.put_line-id.result) c.cross.ensures.lines ∙ line_there c.args.arena.now c.put_line-id.new.self c.put_line-id.result c.args.line.now (record { free = c.put_line-id.ensures.new_id; after = c.put_line-id.ensures.after; room = c.requires.room_for_line })

pub cross-requires-2-clause-others_there : goal.cross-requires-2-clause-others_there
cross-requires-2-clause-others_there c = λ l among.
    let was = (c.requires.lines l).1 (Contains-append_right c.args.stay.now c.args.before.now l among) in
    (was.0, ap (λ m. get m was.0) c.cross.ensures.lines ∙ there_more c.args.arena.now c.put_line-id.new.self c.put_line-id.result c.args.line.now (record { free = c.put_line-id.ensures.new_id; after = c.put_line-id.ensures.after; room = c.requires.room_for_line }) was.0 l was.1)

pub cross-requires-2-clause-uncrossed : goal.cross-requires-2-clause-uncrossed
cross-requires-2-clause-uncrossed c = λ l among.
    let line = c.args.line.now in
    let stay = c.args.stay.now in
    let test = meets line in
    still_uncrossed c.put_line-id.new.self c.cross.new.arena c.put_line-id.result line.way (filter test stay) l c.cross.ensures
    (uncrossed_yet c.args.arena.now c.put_line-id.new.self c.put_line-id.result line (record { free = c.put_line-id.ensures.new_id; after = c.put_line-id.ensures.after; room = c.requires.room_for_line }) line.way l c.laws.ensures.arena)
    (λ s. c.requires.strange l (contains_of_among stay l (among_filtered test stay l (among_of_contains (filter test stay) l s)).0) among)

pub cross-requires-2-clause-room : goal.cross-requires-2-clause-room
cross-requires-2-clause-room c =
    let test = meets c.args.line.now in
    let met = length-filter test c.args.stay.now in
    let spare : c.put_line-id.new.self.spare_crossings ≡ c.args.arena.now.spare_crossings = ap (λ (a : Arena). a.spare_crossings) c.put_line-id.ensures.after in
    omega (arith, met, spare, c.cross.ensures.spare_crossings, c.requires.room_for_crossings)

pub returns : goal.returns
returns c =
    let line = c.args.line.now in
    let id = c.put_line-id.result in
    let test = meets line in
    put_with_all c.args.arena.now c.put_line-id.new.self id line (record { free = c.put_line-id.ensures.new_id; after = c.put_line-id.ensures.after; room = c.requires.room_for_line }) c.cross-2.new.arena c.args.stay.now c.args.before.now c.requires.lines c.requires.complete
    (crossed_on c.put_line-id.new.self c.cross.new.arena c.cross-2.new.arena id line.way (filter test c.args.stay.now) (filter test c.args.before.now) c.cross.ensures c.cross-2.ensures)
