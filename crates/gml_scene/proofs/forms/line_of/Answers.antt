-- One more point is written, and at the end all are.
use Rattle.std.proofs.Common.{ap, ◌∙◌}
use Rattle.std.specs.Prelude.{pos, codes}
use Rattle.plane_geom.specs.declared.point.Point.{Point}
use Rattle.gml_text.specs.Tree.{no_pairs, list}
use Rattle.gml_text.specs.View.{content, pairs}
use Rattle.gml_scene.specs.Changes.{one, all_of}
use Rattle.gml_scene.specs.Forms.{line_point}
use Rattle.gml_scene.proofs.PairLists.{content_list}
use Rattle.gml_scene.proofs.Walks.{written_more, all_taken}
use Rattle.gml_scene.proofs.forms.line_of.Goals as goal

pub loop-point-preserved : goal.loop-point-preserved
loop-point-preserved c =
    let d : Point = record { x = pos 0; y = pos 0 } in
    written_more line_point c.args.points.now c.loop-point.point-index d no_pairs (pairs c.loop-point.list.items) (pairs c.push.new.list.items)
    (one (codes "point") (content c.in_ok-point_of.field-0)) c.loop-point-test.true c.loop-point.invariant c.in_ok-push.ensures (ap (one (codes "point")) c.in_ok-point_of.ensures)

pub returns : goal.returns
returns c =
    content_list c.loop-point.list ∙ ap list (c.loop-point.invariant ∙ ap (all_of line_point) (all_taken c.args.points.now c.loop-point.point-index c.loop-point-test.false))
