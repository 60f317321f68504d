-- What the line's exits give there, with the turn in front.
use Rattle.std.proofs.Common.{◌≡◌, Some, None, sym, ap, ◌∙◌, arith, rules, w64, to_z, of_z}
use Rattle.std.proofs.lemmas.Int.{ints}
use Rattle.std.specs.Option.{option_map}
use Rattle.plane_geom.specs.Along.{reach}
use Rattle.move_model.specs.declared.ahead.Ahead.{Ahead}
use Rattle.exit_rows.specs.Exits.{least_at}
use Rattle.exit_rows.specs.Rows.{kept_in}
use Rattle.exit_spread.specs.Ways.{turned}
use Rattle.exit_spread.proofs.Sizes.{least_small, reach_within}
use Rattle.exit_spread.proofs.spread.Spread.ahead_by_line.Goals as goal
use Rattle.exit_spread.proofs.spread.Spread.ahead_by_line.Goals.{After-ahead_along}

-- what the line keeps gives
along : (c : After-ahead_along) → c.ahead_along.result ≡ least_at (kept_in c.args.self.now.rows c.args.place.now.stage c.args.line c.args.dir) (reach c.args.dir c.args.at)
along c =
    let z : to_z w64 (of_z w64 c.reach.result) ≡ reach c.args.dir c.args.at = (let exact = c.reach.ensures.value in omega (arith, ints, exact)) in
    c.ahead_along.ensures ∙ ap (least_at (kept_in c.args.self.now.rows c.args.place.now.stage c.args.line c.args.dir)) z

pub turned-requires-clause-ahead : goal.turned-requires-clause-ahead
turned-requires-clause-ahead c =
    least_small (kept_in c.args.self.now.rows c.args.place.now.stage c.args.line c.args.dir) (reach c.args.dir c.args.at)
    c.in_ok-ahead.ahead c.requires.small (reach_within c.args.dir c.args.at c.requires.at) (sym (along (goal.at.turned-requires-clause-ahead c).After-ahead_along) ∙ c.in_ok-ahead.was)

pub returns-in_err-ahead : goal.returns-in_err-ahead
returns-in_err-ahead c =
    let none : least_at (kept_in c.args.self.now.rows c.args.place.now.stage c.args.line c.args.dir) (reach c.args.dir c.args.at) ≡ None =
    sym (along (goal.at.returns-in_err-ahead c).After-ahead_along) ∙ c.in_err-ahead.was in
    let result : c.from_residual.result ≡ None = search rules in
    result ∙ sym (ap (option_map (turned c.args.problem.now c.args.place.now.heading c.args.at c.args.dir)) none)

pub returns : goal.returns
returns c =
    let some : least_at (kept_in c.args.self.now.rows c.args.place.now.stage c.args.line c.args.dir) (reach c.args.dir c.args.at) ≡ Some c.in_ok-ahead.ahead =
    sym (along (goal.at.returns c).After-ahead_along) ∙ c.in_ok-ahead.was in
    ap (λ (v : Ahead). Some v) c.turned.ensures ∙ sym (ap (option_map (turned c.args.problem.now c.args.place.now.heading c.args.at c.args.dir)) some)
