-- Each direction by the number of its line.
use Rattle.std.proofs.Common.{◌≡◌, ℕ, All, sym, ap, subst, ◌∙◌}
use Rattle.plane_geom.specs.declared.point.Dir.TheVariants.{East, South, West, North}
use Rattle.plane_geom.specs.declared.point.Way.TheVariants.{Vertical, Horizontal}
use Rattle.line_arena.proofs.Arenas.ArenaLaws.{one_point}
use Rattle.line_lists.specs.Lists.{number_of}
use Rattle.exit_rows.specs.Exits.{IsSmallKept, lesser}
use Rattle.exit_rows.specs.Rows.{HasRow, kept_in}
use Rattle.exit_spread.specs.Known.{known_by_line, known_towards}
use Rattle.exit_spread.proofs.Sizes.{crossing_within}
use Rattle.exit_spread.proofs.SmallKnown.{small_row}
use Rattle.exit_spread.proofs.spread.Spread.ahead_onwards.Goals as goal
use Rattle.exit_spread.proofs.spread.Spread.ahead_onwards.Goals.{After-line_of-column}

-- the numbers of the two lines
row_is : (c : After-line_of-column) → number_of c.args.lists.now c.args.place.now.crossing Horizontal ≡ c.line_of-row.result
row_is c = sym (c.line_of-row.ensures ∙ ap (λ (k : ℕ). number_of c.args.lists.now k Horizontal) c.index-index.ensures.number)

column_is : (c : After-line_of-column) → number_of c.args.lists.now c.args.place.now.crossing Vertical ≡ c.line_of-column.result
column_is c = sym (c.line_of-column.ensures ∙ ap (λ (k : ℕ). number_of c.args.lists.now k Vertical) c.index-index.ensures.number)

pub ahead_by_line-east-requires-clause-at : goal.ahead_by_line-east-requires-clause-at
ahead_by_line-east-requires-clause-at c = crossing_within c.args.problem.now c.args.place.now.crossing c.point-at.result c.requires.ready c.point-at.ensures

pub ahead_by_line-east-requires-clause-room : goal.ahead_by_line-east-requires-clause-room
ahead_by_line-east-requires-clause-room c =
    subst (HasRow c.args.self.now.rows c.args.place.now.stage) (row_is (goal.at.ahead_by_line-east-requires-clause-room c).After-line_of-column)
    (c.requires.searching.rooms c.args.place.now.stage c.args.place.now.crossing East c.point-at.result c.requires.stage c.point-at.ensures)

pub ahead_by_line-east-requires-clause-small : goal.ahead_by_line-east-requires-clause-small
ahead_by_line-east-requires-clause-small c =
    subst (λ l. All IsSmallKept (kept_in c.args.self.now.rows c.args.place.now.stage l East)) (row_is (goal.at.ahead_by_line-east-requires-clause-small c).After-line_of-column)
    (small_row c.args.problem.now (number_of c.args.lists.now) c.args.self.now c.requires.ready c.requires.searching c.args.place.now.stage c.args.place.now.crossing c.point-at.result East c.point-at.ensures)

pub ahead_by_line-south-requires-clause-at : goal.ahead_by_line-south-requires-clause-at
ahead_by_line-south-requires-clause-at c = crossing_within c.args.problem.now c.args.place.now.crossing c.point-at.result c.requires.ready c.point-at.ensures

pub ahead_by_line-south-requires-clause-room : goal.ahead_by_line-south-requires-clause-room
ahead_by_line-south-requires-clause-room c =
    subst (HasRow c.args.self.now.rows c.args.place.now.stage) (column_is (goal.at.ahead_by_line-south-requires-clause-room c).After-line_of-column)
    (c.requires.searching.rooms c.args.place.now.stage c.args.place.now.crossing South c.point-at.result c.requires.stage c.point-at.ensures)

pub ahead_by_line-south-requires-clause-small : goal.ahead_by_line-south-requires-clause-small
ahead_by_line-south-requires-clause-small c =
    subst (λ l. All IsSmallKept (kept_in c.args.self.now.rows c.args.place.now.stage l South)) (column_is (goal.at.ahead_by_line-south-requires-clause-small c).After-line_of-column)
    (small_row c.args.problem.now (number_of c.args.lists.now) c.args.self.now c.requires.ready c.requires.searching c.args.place.now.stage c.args.place.now.crossing c.point-at.result South c.point-at.ensures)

pub ahead_by_line-west-requires-clause-at : goal.ahead_by_line-west-requires-clause-at
ahead_by_line-west-requires-clause-at c = crossing_within c.args.problem.now c.args.place.now.crossing c.point-at.result c.requires.ready c.point-at.ensures

pub ahead_by_line-west-requires-clause-room : goal.ahead_by_line-west-requires-clause-room
ahead_by_line-west-requires-clause-room c =
    subst (HasRow c.args.self.now.rows c.args.place.now.stage) (row_is (goal.at.ahead_by_line-west-requires-clause-room c).After-line_of-column)
    (c.requires.searching.rooms c.args.place.now.stage c.args.place.now.crossing West c.point-at.result c.requires.stage c.point-at.ensures)

pub ahead_by_line-west-requires-clause-small : goal.ahead_by_line-west-requires-clause-small
ahead_by_line-west-requires-clause-small c =
    subst (λ l. All IsSmallKept (kept_in c.args.self.now.rows c.args.place.now.stage l West)) (row_is (goal.at.ahead_by_line-west-requires-clause-small c).After-line_of-column)
    (small_row c.args.problem.now (number_of c.args.lists.now) c.args.self.now c.requires.ready c.requires.searching c.args.place.now.stage c.args.place.now.crossing c.point-at.result West c.point-at.ensures)

pub ahead_by_line-north-requires-clause-at : goal.ahead_by_line-north-requires-clause-at
ahead_by_line-north-requires-clause-at c = crossing_within c.args.problem.now c.args.place.now.crossing c.point-at.result c.requires.ready c.point-at.ensures

pub ahead_by_line-north-requires-clause-room : goal.ahead_by_line-north-requires-clause-room
ahead_by_line-north-requires-clause-room c =
    subst (HasRow c.args.self.now.rows c.args.place.now.stage) (column_is (goal.at.ahead_by_line-north-requires-clause-room c).After-line_of-column)
    (c.requires.searching.rooms c.args.place.now.stage c.args.place.now.crossing North c.point-at.result c.requires.stage c.point-at.ensures)

pub ahead_by_line-north-requires-clause-small : goal.ahead_by_line-north-requires-clause-small
ahead_by_line-north-requires-clause-small c =
    subst (λ l. All IsSmallKept (kept_in c.args.self.now.rows c.args.place.now.stage l North)) (column_is (goal.at.ahead_by_line-north-requires-clause-small c).After-line_of-column)
    (small_row c.args.problem.now (number_of c.args.lists.now) c.args.self.now c.requires.ready c.requires.searching c.args.place.now.stage c.args.place.now.crossing c.point-at.result North c.point-at.ensures)

pub returns : goal.returns
returns c at here =
    let p = c.args.problem.now in
    let s = c.args.self.now in
    let x = c.args.place.now in
    let n = number_of c.args.lists.now in
    let point : c.point-at.result ≡ at = one_point p.arena.now x.crossing c.point-at.result at c.requires.ready.arena c.point-at.ensures here in
    let row = sym (row_is (goal.at.returns c).After-line_of-column) in
    let column = sym (column_is (goal.at.returns c).After-line_of-column) in
    let east : c.ahead_by_line-east.result ≡ known_towards p n s x at East = c.ahead_by_line-east.ensures ∙ (λ i. known_by_line p s x (point i) (row i) East) in
    let south : c.ahead_by_line-south.result ≡ known_towards p n s x at South = c.ahead_by_line-south.ensures ∙ (λ i. known_by_line p s x (point i) (column i) South) in
    let west : c.ahead_by_line-west.result ≡ known_towards p n s x at West = c.ahead_by_line-west.ensures ∙ (λ i. known_by_line p s x (point i) (row i) West) in
    let north : c.ahead_by_line-north.result ≡ known_towards p n s x at North = c.ahead_by_line-north.ensures ∙ (λ i. known_by_line p s x (point i) (column i) North) in
    c.lesser-3.ensures ∙ (λ i. lesser ((c.lesser-2.ensures ∙ (λ j. lesser ((c.lesser.ensures ∙ (λ k. lesser (east k) (south k))) j) (west j))) i) (north i))
