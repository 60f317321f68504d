-- One solid more, which is hit sooner or not.
use Rattle.std.proofs.Common.{◌≡◌, ◌↔◌, ℕ, ◌<◌, List, length, take, get_or, to_z, of_z, w64, sym, subst, arith}
use Rattle.std.proofs.lemmas.Int.{ints}
use Rattle.std.proofs.lemmas.List.{take_more, take_all}
use Rattle.plane_geom.specs.declared.rect.Solid.{Solid}
use Rattle.walk_model.specs.Line.{steps_through, walk_through}
use Rattle.route_check.specs.Steps.{IsAmong}
use Rattle.route_check.specs.Verdict.{MayMeet}
use Rattle.route_check.proofs.Collisions.Hits.{no_solid, HitSoFar, hit_sooner, hit_no_sooner, first_hit_of}
use Rattle.route_check.proofs.hit.first_hit.Goals as goal
use Rattle.route_check.proofs.hit.first_hit.Goals.{in-Some, in_default}

pub loop-solid-preserved : goal.loop-solid-preserved
loop-solid-preserved c =
    let s = c.args.start.now in let e = c.args.end.now in let first = c.args.first in let rest = c.args.rest.now in
    let solids = take c.loop-solid.solid-index c.args.solids.now in
    let o : Solid = get_or c.args.solids.now c.loop-solid.solid-index no_solid in
    let same : to_z w64 (of_z w64 o.node) ≡ o.node = omega (arith, ints) in
    let is : (k : ℕ) → IsAmong c.both.result k ↔ (((k < length (steps_through first rest)) × (MayMeet s (walk_through first rest) e k o.node → ⊥)) × (k < c.loop-solid.limit)) = λ k.
    let closed = rw (same, c.requires.counted) at (c.closed_steps-closed.ensures (walk_through first rest) (sym c.requires.counted) k) in
    let both = c.both.ensures k in
    (λ h. let g = both.0 h in (closed.0 g.0, g.1.1), λ h. both.1 (closed.1 h.0, (omega arith, h.1))) in
    rw (take_more c.args.solids.now c.loop-solid.solid-index no_solid c.loop-solid-test.true) (elim c.match-first_meeting.branch [
      | in-Some w ↦ rw (w.hit-is, w.limit-is, same) (hit_sooner s e first rest solids o c.loop-solid.limit c.both.result is c.loop-solid.hit c.loop-solid.invariant w.in-Some.meeting w.in-Some.ensures)
      | in_default w ↦ rw (w.hit-is, w.limit-is) (hit_no_sooner s e first rest solids o c.loop-solid.limit c.both.result is c.loop-solid.hit c.loop-solid.invariant w.in_default.ensures)
    ])

pub returns : goal.returns
returns c =
    let so = subst (λ (solids : List Solid). HitSoFar solids c.args.start.now c.args.end.now c.args.first c.args.rest.now c.loop-solid.hit c.loop-solid.limit)
    (take_all c.loop-solid.solid-index c.args.solids.now c.loop-solid-test.false) c.loop-solid.invariant in
    first_hit_of c.args.solids.now c.args.start.now c.args.end.now c.args.first c.args.rest.now c.loop-solid.hit c.loop-solid.limit so
