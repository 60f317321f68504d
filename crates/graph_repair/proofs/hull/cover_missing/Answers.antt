-- One item more is found among the others, or comes into the hull.
use Rattle.std.proofs.Common.{◌+◌, sym, subst, take, arith}
use Rattle.plane_geom.specs.declared.rect.Rect.{Rect}
use Rattle.plane_geom.specs.Rect.{HasWithin}
use Rattle.graph_repair.proofs.Covering.{Covers, covers_all, covers_none, one_missing, one_there}
use Rattle.graph_repair.proofs.hull.cover_missing.Goals as goal
use Rattle.graph_repair.proofs.hull.cover_missing.Goals.{then-not-stands_alike, else-not-stands_alike}

pub loop-place-init : goal.loop-place-init
loop-place-init g c = covers_none g.T.Placed.near_of g.T.Placed.far_of c.args.hull c.args.others.now

pub loop-place-preserved : goal.loop-place-preserved
loop-place-preserved g c =
    let near = g.T.Placed.near_of in
    let far = g.T.Placed.far_of in
    let items = c.args.items.now in
    let others = c.args.others.now in
    let hull = c.loop-place.hull in
    let n = c.loop-place.place in
    let item = c.index-items-place.result in
    elim c.if-not-stands_alike.branch as (λ _. Covers near far c.args.hull c.if-not-stands_alike.hull (take (n + 1) items) others) [
      | then-not-stands_alike w ↦ (let wide : Rect = w.widened-hull.result in
          let in_near : HasWithin wide (near item) = subst (HasWithin wide) w.near_corner.ensures (w.widened-hull.ensures.wider w.near_corner.result w.widened.ensures.has) in
          let in_far : HasWithin wide (far item) = subst (HasWithin wide) w.far_corner.ensures w.widened-hull.ensures.has in
          subst (λ r. Covers near far c.args.hull r (take (n + 1) items) others) (sym w.hull-is)
          (one_missing near far items others c.args.hull hull n item c.loop-place-test.true c.index-items-place.is c.loop-place.invariant wide
          (λ p h. w.widened-hull.ensures.wider p (w.widened.ensures.wider p h)) in_near in_far))
      | else-not-stands_alike w ↦
          subst (λ r. Covers near far c.args.hull r (take (n + 1) items) others) (sym w.hull-is)
          (one_there near far items others c.args.hull hull n item c.loop-place-test.true c.index-items-place.is c.loop-place.invariant
          (c.stands_alike.ensures w.if-not-stands_alike.false))
    ]

pub returns-clause-wider : goal.returns-clause-wider
returns-clause-wider g c = c.loop-place.invariant.wider

pub returns-clause-covered : goal.returns-clause-covered
returns-clause-covered g c =
    covers_all g.T.Placed.near_of g.T.Placed.far_of c.args.hull c.loop-place.hull c.args.items.now c.args.others.now c.loop-place.place (omega (arith, c.loop-place-test.false)) c.loop-place.invariant
