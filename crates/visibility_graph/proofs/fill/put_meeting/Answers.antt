-- Two lines that meet are a vertical and a horizontal one, and their crossing is new.
use Rattle.std.proofs.Common.{sym, ap, ◌∙◌}
use Rattle.line_arena.proofs.Arenas.ArenaLaws.{meet_where_across}
use Rattle.visibility_graph.specs.Fill.{pair_along}
use Rattle.visibility_graph.proofs.Counts.{meets_back}
use Rattle.visibility_graph.proofs.Lines.{across_of_meets, other_runs}
use Rattle.visibility_graph.proofs.Crossed.{crossed_one}
use Rattle.visibility_graph.proofs.fill.put_meeting.Goals as goal

pub put_crossing-requires-clause-meet : goal.put_crossing-requires-clause-meet
put_crossing-requires-clause-meet c =
    let line = c.args.line.now in
    let other = c.args.other.now in
    meet_where_across c.args.arena.now c.args.id c.in-Some.found.0 line other c.requires.there c.in-Some.ensures.found
    (across_of_meets line other c.in-Vertical.is c.requires.meets)

pub put_crossing-requires-in-Horizontal-clause-meet : goal.put_crossing-requires-in-Horizontal-clause-meet
put_crossing-requires-in-Horizontal-clause-meet c =
    let line = c.args.line.now in
    let other = c.args.other.now in
    meet_where_across c.args.arena.now c.in-Some.found.0 c.args.id other line c.in-Some.ensures.found c.requires.there
    (across_of_meets other line (other_runs line other c.in-Horizontal.is c.requires.meets) (meets_back other line ∙ c.requires.meets))

pub returns-in-Vertical : goal.returns-in-Vertical
returns-in-Vertical c =
    let id = c.args.id in
    let o = c.in-Some.found.0 in
    crossed_one c.args.arena.now c.put_crossing.new.self id o c.put_crossing.result c.args.line.now.way (record { vertical = id; horizontal = o }) c.args.other.now
    (ap (λ w. pair_along w id o) (sym c.in-Vertical.is)) c.in-Some.ensures.arena c.in-Some.ensures.found c.put_crossing.ensures.new_id c.requires.room c.put_crossing.ensures.after

pub returns-in-Horizontal : goal.returns-in-Horizontal
returns-in-Horizontal c =
    let id = c.args.id in
    let o = c.in-Some.found.0 in
    let put = c.put_crossing-in-Horizontal in
    crossed_one c.args.arena.now put.new.self id o put.result c.args.line.now.way (record { vertical = o; horizontal = id }) c.args.other.now
    (ap (λ w. pair_along w id o) (sym c.in-Horizontal.is)) c.in-Some.ensures.arena c.in-Some.ensures.found put.ensures.new_id c.requires.room put.ensures.after
