-- The label is closed, and then passed on.
use Rattle.std.proofs.Common.{◌≡◌, None, Some, refl, sym, ap, ◌∙◌, arith}
use Rattle.proof_search.specs.declared.label.Label.TheVariants.{Open}
use Rattle.proof_search.specs.declared.labels.Labels.{Labels}
use Rattle.proof_search.specs.Search.{IsReachedAt, IsSearching, cost_in, label_at}
use Rattle.proof_search.proofs.Offers.Offering.{falls_both}
use Rattle.proof_search.proofs.Offers.Scopes.{coming_by, small_label}
use Rattle.proof_search.proofs.Searching.Taking.{closed_searching, closing_falls, propagated_searching, none_open}
use Rattle.proof_search.proofs.labels.Labels.take.Goals as goal
use Rattle.proof_search.proofs.labels.Labels.take.Goals.{After-put, In-Open}

-- the label was open, and is reached
is_open : (c : In-Open) → label_at c.args.self.now c.args.place.now ≡ Open c.in-Open.known
is_open c = sym c.label.ensures ∙ c.in-Open.is

reached : (c : In-Open) → IsReachedAt c.args.problem.now c.args.scope c.args.place.now c.in-Open.known.cost
reached c = c.requires.searching.reached c.args.place.now c.in-Open.known.cost (ap cost_in (is_open c))

pub returns-in_default : goal.returns-in_default
returns-in_default c = record {
  searching = none_open c.args.problem.now c.args.scope c.args.self.now c.args.place.now c.requires.searching
      (λ v open_now. c.in_default.not-Open v (c.label.ensures ∙ open_now));
  falls = λ x cost h. h;
  lighter = omega arith;
}

-- the labels once it is closed
abbrev closed : After-put → Labels
closed c = record { table = c.put.new.self; queue = c.args.self.now.queue }

closed_one : (c : After-put) → IsSearching c.args.problem.now c.args.scope (closed c) None (Some c.args.place.now)
closed_one c =
    closed_searching c.args.problem.now c.args.scope c.args.self.now (closed c) c.args.place.now c.in-Open.known c.requires.searching
    (sym c.label.ensures ∙ c.in-Open.is)
    c.put.ensures refl

pub propagate-requires-clause-searching : goal.propagate-requires-clause-searching
propagate-requires-clause-searching c = (Some c.args.place.now, closed_one (goal.at.propagate-requires-clause-searching c).After-put)

pub propagate-requires-clause-coming : goal.propagate-requires-clause-coming
propagate-requires-clause-coming c =
    coming_by c.args.problem.now c.args.scope c.args.place.now c.in-Open.known.cost (reached (goal.at.propagate-requires-clause-coming c).In-Open)

pub propagate-requires-clause-small : goal.propagate-requires-clause-small
propagate-requires-clause-small c =
    small_label c.args.problem.now c.args.scope c.args.place.now c.requires.ready c.in-Open.known.cost
    (reached (goal.at.propagate-requires-clause-small c).In-Open)

pub returns-clause-searching : goal.returns-clause-searching
returns-clause-searching c =
    let x = c.args.place.now in
    let put = (goal.at.returns-clause-searching c).After-put in
    propagated_searching c.args.problem.now c.args.scope (closed put) c.propagate.new.self x c.in-Open.known c.put.ensures.changed
    (c.in_ok-propagate.ensures.searching (Some x) (closed_one put)) c.in_ok-propagate.ensures.spreads c.in_ok-propagate.ensures.propagated

pub returns-clause-falls : goal.returns-clause-falls
returns-clause-falls c =
    let x = c.args.place.now in
    let s = c.args.scope in
    let old = c.args.self.now in
    let mid = closed (goal.at.returns-clause-falls c).After-put in
    falls_both s old mid c.propagate.new.self
    (closing_falls c.args.problem.now s old mid x c.in-Open.known c.requires.searching (sym c.label.ensures ∙ c.in-Open.is) c.put.ensures refl)
    c.in_ok-propagate.ensures.spreads.falls
