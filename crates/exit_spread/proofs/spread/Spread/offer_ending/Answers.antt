-- Heading by heading.
use Rattle.std.proofs.Common.{None, length}
use Rattle.line_lists.specs.Lists.{number_of}
use Rattle.exit_rows.specs.declared.exit.Exit.{Exit}
use Rattle.exit_spread.specs.Offers.{IsOffered, exit_of}
use Rattle.exit_spread.specs.Ways.{place_at}
use Rattle.plane_geom.specs.declared.point.Dir.{Dir}
use Rattle.exit_spread.proofs.Spreading.Adding.{adds_both, offered_on}
use Rattle.exit_spread.proofs.Taking.Offered.{by_heading}
use Rattle.exit_spread.proofs.Taking.Stubs.{stub_ahead_of}
use Rattle.exit_spread.proofs.spread.Spread.offer_ending.Goals as goal

pub returns-clause-adds : goal.returns-clause-adds
returns-clause-adds c =
    let p = c.args.problem.now in
    let n = number_of c.args.lists.now in
    let s = c.args.self.now in
    let t = c.offer_stub.new.self in
    let u = c.offer_stub-2.new.self in
    let v = c.offer_stub-3.new.self in
    let w = c.offer_stub-4.new.self in
    let two = adds_both p n s t u 1 1 c.in_ok-offer_stub.ensures.adds c.in_ok-offer_stub-2.ensures.adds in
    let three = adds_both p n s u v 2 1 two c.in_ok-offer_stub-3.ensures.adds in
    adds_both p n s v w 3 1 three c.in_ok-offer_stub-4.ensures.adds

pub returns-clause-offered : goal.returns-clause-offered
returns-clause-offered c =
    let p = c.args.problem.now in
    let n = number_of c.args.lists.now in
    let e = c.args.ending.now in
    let t = c.offer_stub.new.self in
    let u = c.offer_stub-2.new.self in
    let v = c.offer_stub-3.new.self in
    let w = c.offer_stub-4.new.self in
    let exit : Dir → Exit = λ h. exit_of n (place_at e.crossing (length p.task.now.via) h) None (stub_ahead_of p e h) in
    let last = c.in_ok-offer_stub-4.ensures.adds in
    let third = adds_both p n u v w 1 1 c.in_ok-offer_stub-3.ensures.adds last in
    let second = adds_both p n t u w 1 2 c.in_ok-offer_stub-2.ensures.adds third in
    by_heading (λ h. IsOffered p w None e.port (exit h))
    (offered_on p n t w 3 second None e.port _ c.in_ok-offer_stub.ensures.offered)
    (offered_on p n u w 2 third None e.port _ c.in_ok-offer_stub-2.ensures.offered)
    (offered_on p n v w 1 last None e.port _ c.in_ok-offer_stub-3.ensures.offered)
    c.in_ok-offer_stub-4.ensures.offered
