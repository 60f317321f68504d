-- The next place is offered what it costs to come there; where there is none, nothing is offered.
use Rattle.std.proofs.Common.{ℕ, ◌+◌, ◌*◌, None, Some, refl, sym, subst}
use Rattle.proof_search.specs.Search.{IsComing, IsOffered}
use Rattle.proof_search.proofs.Offers.Propagating.{moved}
use Rattle.proof_search.proofs.labels.Labels.offer_move.Goals as goal

pub returns-in_default-clause-propagated : goal.returns-in_default-clause-propagated
returns-in_default-clause-propagated c = record { next = None; is_next = c.in_default.ensures.none refl; offered = tt }

pub offer-requires-clause-coming : goal.offer-requires-clause-coming
offer-requires-clause-coming c =
    let p = c.args.problem.now in
    let x = c.args.place.now in
    let n = c.in-Some.next in
    subst (λ (turned : ℕ). IsComing p c.args.scope n.place (c.args.cost + (n.steps + p.task.now.penalty * turned))) (sym c.bends.ensures.bends)
    (moved p c.args.scope x c.args.at c.args.cost c.args.dir n c.requires.comes c.in-Some.ensures.next c.in-Some.ensures.there c.in-Some.ensures.stage)

pub returns-clause-propagated : goal.returns-clause-propagated
returns-clause-propagated c =
    let p = c.args.problem.now in
    let n = c.in-Some.next in
    record {
      next = Some n;
      is_next = c.in-Some.ensures.next;
      offered = (
        c.in-Some.ensures.there,
        subst (λ (turned : ℕ). IsOffered c.args.scope c.offer.new.self n.place (c.args.cost + (n.steps + p.task.now.penalty * turned))) c.bends.ensures.bends
            c.in_ok-offer.ensures.offered,
      );
    }
