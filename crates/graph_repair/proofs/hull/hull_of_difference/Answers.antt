-- The hull that grows from list to list covers what each of them has alone.
use Rattle.plane_geom.specs.declared.point.Point.{Point}
use Rattle.plane_geom.specs.declared.rect.Solid.{Solid}
use Rattle.sweep_lines.specs.Bars.{far_corner, near_corner}
use Rattle.graph_repair.proofs.Covering.{covered_lists}
use Rattle.graph_repair.proofs.hull.hull_of_difference.Goals as goal

pub returns-clause-gone : goal.returns-clause-gone
returns-clause-gone c =
    let last = c.cover_missing.ensures in
    let third = c.cover_missing-hull-3.ensures in
    let second = c.cover_missing-hull-2.ensures in
    record {
      solids = covered_lists (λ (s : Solid). near_corner s.rect) (λ (s : Solid). far_corner s.rect) c.cover_missing-hull.result c.cover_missing.result
          c.as_slice-solids.result.now c.args.old.now.solids c.as_slice-other_solids.result.now c.args.new.now.solids c.as_slice-solids.ensures c.as_slice-other_solids.ensures
          (λ p h. last.wider p (third.wider p (second.wider p h))) c.cover_missing-hull.ensures.covered;
      anchors = covered_lists (λ (p : Point). p) (λ (p : Point). p) c.cover_missing-hull-3.result c.cover_missing.result
          c.as_slice-anchors.result.now c.args.old.now.anchors c.as_slice-other_anchors.result.now c.args.new.now.anchors c.as_slice-anchors.ensures c.as_slice-other_anchors.ensures
          last.wider third.covered;
    }

pub returns-clause-come : goal.returns-clause-come
returns-clause-come c =
    let last = c.cover_missing.ensures in
    let third = c.cover_missing-hull-3.ensures in
    record {
      solids = covered_lists (λ (s : Solid). near_corner s.rect) (λ (s : Solid). far_corner s.rect) c.cover_missing-hull-2.result c.cover_missing.result
          c.as_slice-other_solids.result.now c.args.new.now.solids c.as_slice-solids.result.now c.args.old.now.solids c.as_slice-other_solids.ensures c.as_slice-solids.ensures
          (λ p h. last.wider p (third.wider p h)) c.cover_missing-hull-2.ensures.covered;
      anchors = covered_lists (λ (p : Point). p) (λ (p : Point). p) c.cover_missing.result c.cover_missing.result
          c.as_slice-other_anchors.result.now c.args.new.now.anchors c.as_slice-anchors.result.now c.args.old.now.anchors c.as_slice-other_anchors.ensures c.as_slice-anchors.ensures
          (λ p h. h) last.covered;
    }
