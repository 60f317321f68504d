-- The stub is a way from the port, and short.
use Rattle.std.specs.Option.{is_some}
use Rattle.std.proofs.Common.{◌≡◌, ◌≤◌, List, None, length, sym, ap, subst, ◌∙◌, arith, unsigned_abs}
use Rattle.plane_geom.specs.Along.{across, way_of}
use Rattle.plane_geom.specs.declared.point.Point.{Point}
use Rattle.line_lists.specs.Lists.{number_of}
use Rattle.exit_spread.specs.Propagating.{IsOfferable}
use Rattle.exit_spread.specs.Offers.{IsOffered}
use Rattle.exit_spread.specs.Ways.{IsWayAhead, place_at}
use Rattle.exit_spread.proofs.Sizes.{across_small, small_ending}
use Rattle.exit_spread.proofs.Taking.Stubs.{stub_ahead_of, stub_offerable, way_by_stub}
use Rattle.exit_spread.proofs.spread.Spread.offer_stub.Goals as goal

pub index-requires : goal.index-requires
index-requires c =
    let p = c.args.problem.now in
    let e = c.args.ending.now in
    record { live = ap is_some (way_by_stub p e (small_ending p e c.requires.ready c.requires.ending) c.args.heading).here.is }

pub behind-requires-clause-cost : goal.behind-requires-clause-cost
behind-requires-clause-cost c =
    let small = small_ending c.args.problem.now c.args.ending.now c.requires.ready c.requires.ending in
    omega (arith, small.rest, c.requires.ready.problem.is_task.penalty)

pub behind-requires-clause-lean : goal.behind-requires-clause-lean
behind-requires-clause-lean c =
    let e = c.args.ending.now in
    let small = small_ending c.args.problem.now e c.requires.ready c.requires.ending in
    let h : unsigned_abs (across (way_of e.dir) e.port) ≤ 2000000000 = across_small e.dir e.port small.port in
    omega (arith, h)

pub offer-requires-clause-way : goal.offer-requires-clause-way
offer-requires-clause-way c =
    let p = c.args.problem.now in
    let e = c.args.ending.now in
    let small = small_ending p e c.requires.ready c.requires.ending in
    let there = subst (λ (via : List Point). IsWayAhead p (place_at e.crossing (length via) c.args.heading) e.port (stub_ahead_of p e c.args.heading)) (sym c.as_slice.ensures) (way_by_stub p e small c.args.heading) in
    subst (IsWayAhead p (place_at e.crossing (length c.as_slice.result.now) c.args.heading) e.port) (sym c.behind.ensures) there

pub offer-requires-clause-offerable : goal.offer-requires-clause-offerable
offer-requires-clause-offerable c =
    let p = c.args.problem.now in
    let e = c.args.ending.now in
    subst IsOfferable (sym c.behind.ensures) (stub_offerable p e c.requires.ready (small_ending p e c.requires.ready c.requires.ending) c.args.heading)

-- the number of the line of the ending's crossing along the heading
line : (c : goal.In_ok-offer) → c.line_of.result ≡ number_of c.args.lists.now c.args.ending.now.crossing (way_of c.args.heading)
line c = c.line_of.ensures ∙ (λ i. number_of c.args.lists.now (c.index.ensures.number i) (c.way.ensures i))

pub returns-clause-adds : goal.returns-clause-adds
returns-clause-adds c = c.in_ok-offer.ensures.adds (number_of c.args.lists.now) (line c) c.requires.sound

pub returns-clause-offered : goal.returns-clause-offered
returns-clause-offered c =
    let p = c.args.problem.now in
    let e = c.args.ending.now in
    let stage : length c.as_slice.result.now ≡ length p.task.now.via = ap (λ (via : List Point). length via) c.as_slice.ensures in
    subst (IsOffered p c.offer.new.self None e.port)
    (λ i. record { place = place_at e.crossing (stage i) c.args.heading; line = line c i; next = None; ahead = c.behind.ensures i })
    c.in_ok-offer.ensures.offered
