-- One more is written.
use Rattle.std.proofs.Common.{sym, ap}
use Rattle.std.specs.Prelude.{pos, codes}
use Rattle.plane_geom.specs.declared.point.Point.{Point}
use Rattle.gml_text.specs.View.{content, pairs}
use Rattle.gml_text.proofs.Accepting.{then-none}
use Rattle.gml_scene.specs.Changes.{one}
use Rattle.gml_scene.specs.Forms.{via_pair}
use Rattle.gml_scene.proofs.Walks.{written_more}
use Rattle.gml_scene.proofs.forms.push_via.Goals as goal

pub loop-point-init : goal.loop-point-init
loop-point-init c = sym (then-none (pairs c.args.list.now.items))

pub loop-point-preserved : goal.loop-point-preserved
loop-point-preserved c =
    let d : Point = record { x = pos 0; y = pos 0 } in
    written_more via_pair c.args.points.now c.loop-point.point-index d (pairs c.args.list.now.items) (pairs c.loop-point.list.items) (pairs c.push.new.list.items)
    (one (codes "via") (content c.in_ok-point_of.field-0)) c.loop-point-test.true c.loop-point.invariant c.in_ok-push.ensures (ap (one (codes "via")) c.in_ok-point_of.ensures)
