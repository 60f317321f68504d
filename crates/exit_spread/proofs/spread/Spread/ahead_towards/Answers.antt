-- By the number of the direction's line.
use Rattle.std.proofs.Common.{◌≡◌, All, sym, subst, ◌∙◌}
use Rattle.plane_geom.specs.Along.{way_of}
use Rattle.line_arena.proofs.Arenas.ArenaLaws.{one_point}
use Rattle.line_lists.specs.Lists.{number_of}
use Rattle.exit_rows.specs.Exits.{IsSmallKept}
use Rattle.exit_rows.specs.Rows.{HasRow, kept_in}
use Rattle.exit_spread.specs.Known.{known_by_line}
use Rattle.exit_spread.proofs.Sizes.{crossing_within}
use Rattle.exit_spread.proofs.SmallKnown.{small_row}
use Rattle.exit_spread.proofs.spread.Spread.ahead_towards.Goals as goal
use Rattle.exit_spread.proofs.spread.Spread.ahead_towards.Goals.{After-line_of-line}

-- the number of the line
line_is : (c : After-line_of-line) → number_of c.args.lists.now c.args.place.now.crossing (way_of c.args.dir) ≡ c.line_of-line.result
line_is c = sym (c.line_of-line.ensures ∙ (λ i. number_of c.args.lists.now (c.index.ensures.number i) (c.way.ensures i)))

pub ahead_by_line-requires-clause-at : goal.ahead_by_line-requires-clause-at
ahead_by_line-requires-clause-at c = crossing_within c.args.problem.now c.args.place.now.crossing c.point-at.result c.requires.ready c.point-at.ensures

pub ahead_by_line-requires-clause-room : goal.ahead_by_line-requires-clause-room
ahead_by_line-requires-clause-room c =
    subst (HasRow c.args.self.now.rows c.args.place.now.stage) (line_is (goal.at.ahead_by_line-requires-clause-room c).After-line_of-line)
    (c.requires.searching.rooms c.args.place.now.stage c.args.place.now.crossing c.args.dir c.point-at.result c.requires.stage c.point-at.ensures)

pub ahead_by_line-requires-clause-small : goal.ahead_by_line-requires-clause-small
ahead_by_line-requires-clause-small c =
    subst (λ l. All IsSmallKept (kept_in c.args.self.now.rows c.args.place.now.stage l c.args.dir)) (line_is (goal.at.ahead_by_line-requires-clause-small c).After-line_of-line)
    (small_row c.args.problem.now (number_of c.args.lists.now) c.args.self.now c.requires.ready c.requires.searching c.args.place.now.stage c.args.place.now.crossing c.point-at.result c.args.dir c.point-at.ensures)

pub returns : goal.returns
returns c at here =
    let p = c.args.problem.now in
    let point : c.point-at.result ≡ at = one_point p.arena.now c.args.place.now.crossing c.point-at.result at c.requires.ready.arena c.point-at.ensures here in
    let line = sym (line_is (goal.at.returns c).After-line_of-line) in
    c.ahead_by_line.ensures ∙ (λ i. known_by_line p c.args.self.now c.args.place.now (point i) (line i) c.args.dir)
