-- One more edit is made, or it is refused.
use Rattle.std.proofs.Common.{pos}
use Rattle.scene_model.specs.declared.edit.Edit.{Edit}
use Rattle.scene_model.specs.declared.edit.Edit.TheVariants.{AddNode}
use Rattle.drawing.proofs.Reconnecting.{edited_more, edited_until}
use Rattle.drawing.proofs.drawing.Drawing.edit_all.Goals as goal

abbrev no_edit : Edit
no_edit = AddNode (pos 0) (pos 0) (pos 0) (pos 0) (pos 0)

pub returns-in-Err : goal.returns-in-Err
returns-in-Err c =
    edited_until c.args.edits.now c.loop-edit.edit-index no_edit c.in-Err.fault c.args.self.now c.loop-edit.self c.run.new.self
    c.loop-edit-test.true c.loop-edit.invariant c.in-Err.ensures

pub loop-edit-preserved : goal.loop-edit-preserved
loop-edit-preserved c =
    edited_more c.args.edits.now c.loop-edit.edit-index no_edit c.args.self.now c.loop-edit.self c.run.new.self
    c.loop-edit-test.true c.loop-edit.invariant c.in_default.ensures
