-- One more extent, if the line meets it.
use Rattle.std.proofs.Common.{◌∙◌, Bool, Some, None, Vec, Global, cond, get_or, pos, sym, ap}
use Rattle.side_touches.specs.declared.extent.Extent.{Extent}
use Rattle.side_touches.specs.declared.side.Side.{Side}
use Rattle.side_touches.specs.Sides.{extent_met}
use Rattle.side_touches.proofs.Members.{pushed_more, pushed_same}
use Rattle.side_touches.proofs.side.push_met.Goals as goal
use Rattle.side_touches.proofs.side.push_met.Goals.{then-is_met_by+in_ok-push, else-is_met_by}

no_side : Side
no_side = record { at = pos 0; extent = record { lo = pos 0; hi = pos 0 } }

pub loop-side-preserved : goal.loop-side-preserved
unfolding no_side
loop-side-preserved c =
    let h = extent_met c.args.line.now in
    let xs = c.args.here.now in
    let i = c.loop-side.side-index in
    let was = c.args.extents.now.items in
    let now = c.loop-side.extents.items in
    let side = get_or xs i no_side in
    let inside = c.loop-side-test.true in
    elim c.if-is_met_by.branch [
      | then-is_met_by+in_ok-push w ↦
          ap (λ (v : Vec Extent Global). v.items) w.extents-is ∙ w.in_ok-push.ensures.items
          ∙ pushed_more h xs i no_side was now side.extent inside c.loop-side.invariant (ap (λ (t : Bool). cond t (Some side.extent) None) (sym w.if-is_met_by.ensures))
      | else-is_met_by w ↦
          ap (λ (v : Vec Extent Global). v.items) w.extents-is
          ∙ pushed_same h xs i no_side was now inside c.loop-side.invariant (ap (λ (t : Bool). cond t (Some side.extent) None) (sym w.if-is_met_by.ensures))
    ]
