-- What is known in the direction is the same at the place's point.
use Rattle.std.proofs.Common.{◌≡◌, true, false, Some, sym, ap, ◌∙◌}
use Rattle.std.proofs.lemmas.Option.{same_Some}
use Rattle.route_search.specs.Known.{towards_of}
use Rattle.route_search.proofs.Ahead.Knowing.{towards_is}
use Rattle.route_search.proofs.follow.Follower.leads.Goals as goal
use Rattle.route_search.proofs.follow.Follower.leads.Goals.{After-ahead_towards-towards}

-- what was found is what is known in the direction
found : (c : After-ahead_towards-towards) → c.ahead_towards-towards.result ≡ towards_of c.args.self.now c.args.standing.now.place c.args.dir
found c =
    c.ahead_towards-towards.ensures c.requires.place.at c.requires.place.here
    ∙ sym (towards_is c.args.self.now c.requires.knowing c.args.standing.now.place c.requires.place.at c.args.dir c.requires.place.here)

pub returns-in_default : goal.returns-in_default
returns-in_default c = (
  λ wrong. absurd (let e : false ≡ true = wrong in cc),
  λ e. absurd (c.in_default.not-Some c.args.standing.now.ahead (found (goal.at-returns-in_default c).After-ahead_towards-towards ∙ e)),
)

pub returns : goal.returns
returns c =
    let is = sym (found (goal.at-returns c).After-ahead_towards-towards) ∙ c.in-Some.is in (
      λ same. is ∙ ap Some (c.are_same.ensures.0 same),
      λ e. c.are_same.ensures.1 (same_Some c.in-Some.known c.args.standing.now.ahead (sym is ∙ e)),
    )
