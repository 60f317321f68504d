-- One segment more: its first step that meets the rectangle is the first of all, or it has none.
use Rattle.std.proofs.Common.{◌↔◌, ℕ, ◌+◌, ◌<◌, arith}
use Rattle.plane_geom.specs.Point.{distance, forward, heading}
use Rattle.plane_geom.specs.Rect.{StepMeets}
use Rattle.route_check.specs.Steps.{IsAmong}
use Rattle.route_check.proofs.Segments.Corners.{corner, at_next}
use Rattle.route_check.proofs.Collisions.Meetings.{meets_none_all, meets_none_end, meets_none_more, meets_first}
use Rattle.route_check.proofs.hit.first_meeting.Goals as goal
use Rattle.route_check.proofs.hit.first_meeting.Goals.{After-both-met}

-- the steps of the segment that are asked for and meet the rectangle
met_is : (c : After-both-met) → (j : ℕ) → IsAmong c.both-met.result j ↔
    (StepMeets c.args.rect.now (forward (heading c.loop-i.from (corner c.args.rest.now c.loop-i.i)) j c.loop-i.from) (heading c.loop-i.from (corner c.args.rest.now c.loop-i.i))
    × ((j < distance c.loop-i.from (corner c.args.rest.now c.loop-i.i)) × IsAmong c.args.among (c.loop-i.walked + j)))
met_is c j =
    let both = c.both-met.ensures j in
    let inside = c.steps_inside.ensures j in
    let within = c.within.ensures j in
    rw (← c.heading.ensures.heading, ← c.distance-length.ensures)
    (λ h. let g = both.0 h in (inside.0 g.0, within.0 g.1), λ h. both.1 (inside.1 h.0, within.1 h.1))

pub overflow_add-result : goal.overflow_add-result
overflow_add-result c =
    let so = c.loop-i.invariant in
    let next = at_next c.args.first c.args.rest.now c.loop-i.i c.loop-i.walked c.loop-i.from so.at c.loop-i-test.true c.requires.line.within in
    let met = (met_is (goal.at.overflow_add-result c).After-both-met c.both-met.result.begin).0 (omega arith, c.if-met.true) in
    omega (arith, met.1.0)

pub returns-then-met : goal.returns-then-met
returns-then-met c =
    meets_first c.args.rect.now c.args.among c.args.first c.args.rest.now c.loop-i.i c.loop-i.walked c.loop-i.from c.loop-i.invariant c.loop-i-test.true c.requires.line.within
    c.both-met.result (met_is (goal.at.returns-then-met c).After-both-met) c.if-met.true

pub overflow_add-walked : goal.overflow_add-walked
overflow_add-walked c =
    let next = at_next c.args.first c.args.rest.now c.loop-i.i c.loop-i.walked c.loop-i.from c.loop-i.invariant.at c.loop-i-test.true c.requires.line.within in
    omega arith

pub returns-then-among-walked : goal.returns-then-among-walked
returns-then-among-walked c =
    let so = meets_none_more c.args.rect.now c.args.among c.args.first c.args.rest.now c.loop-i.i c.loop-i.walked c.loop-i.from c.loop-i.invariant c.loop-i-test.true c.requires.line.within
    c.both-met.result (met_is (goal.at.returns-then-among-walked c).After-both-met) c.if-met.false in
    meets_none_all c.args.rect.now c.args.among c.args.first c.args.rest.now _ _ _ so (omega arith)

pub loop-i-preserved : goal.loop-i-preserved
loop-i-preserved c =
    rw c.distance-length.ensures (meets_none_more c.args.rect.now c.args.among c.args.first c.args.rest.now c.loop-i.i c.loop-i.walked c.loop-i.from c.loop-i.invariant c.loop-i-test.true c.requires.line.within
    c.both-met.result (met_is (goal.at.loop-i-preserved c).After-both-met) c.if-met.false)

pub returns : goal.returns
returns c = meets_none_end c.args.rect.now c.args.among c.args.first c.args.rest.now c.loop-i.i c.loop-i.walked c.loop-i.from c.loop-i.invariant c.loop-i-test.false
