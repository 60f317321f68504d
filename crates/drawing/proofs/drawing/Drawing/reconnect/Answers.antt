-- The edits are those that move the connector, of the scene that is edited.
use Rattle.std.proofs.Common.{w64, ◌≡◌, List, Ok, Err, inl, sym, ap, subst, ◌∙◌}
use Rattle.std.specs.Prelude.{All}
use Rattle.std.proofs.lemmas.Int.{to_z-of_z}
use Rattle.std.proofs.lemmas.Result.{err_from_is_err_and}
use Rattle.scene_model.specs.declared.edit.Edit.{Edit}
use Rattle.scene_model.specs.Edits.{IsDirected}
use Rattle.drawing.specs.Reconnect.{AreEdited, reconnection}
use Rattle.drawing.proofs.Reconnecting.{reconnection_directed}
use Rattle.drawing.proofs.drawing.Drawing.reconnect.Goals as goal

pub edit_all-requires : goal.edit_all-requires
edit_all-requires c =
    let same = to_z-of_z w64 c.args.id c.ranges.id in
    let is = c.deref.ensures.value ∙ c.in-Ok.ensures ∙ ap (λ id. reconnection c.scene.result.now c.args.number c.args.end id c.args.class) same in
    subst (All IsDirected) (sym is) (reconnection_directed c.scene.result.now c.args.number c.args.end c.args.id c.args.class)

pub returns-in_err-edit_all : goal.returns-in_err-edit_all
returns-in_err-edit_all c =
    let same = to_z-of_z w64 c.args.id c.ranges.id in
    let is = c.deref.ensures.value ∙ c.in-Ok.ensures ∙ ap (λ id. reconnection c.scene.result.now c.args.number c.args.end id c.args.class) same
    ∙ ap (λ s. reconnection s c.args.number c.args.end c.args.id c.args.class) c.scene.ensures in
    let p = err_from_is_err_and c.from_residual.result c.from_residual.ensures.1 in
    rw (p.1, p.2) (inl (subst (λ (es : List Edit). AreEdited es (Err c.in_err-edit_all.field-0.0) c.args.self.now c.edit_all.new.self) is c.in_err-edit_all.ensures))

pub returns : goal.returns
returns c =
    let same = to_z-of_z w64 c.args.id c.ranges.id in
    let is = c.deref.ensures.value ∙ c.in-Ok.ensures ∙ ap (λ id. reconnection c.scene.result.now c.args.number c.args.end id c.args.class) same
    ∙ ap (λ s. reconnection s c.args.number c.args.end c.args.id c.args.class) c.scene.ensures in
    (subst (λ (es : List Edit). AreEdited es (Ok tt) c.args.self.now c.edit_all.new.self) is c.in_ok-edit_all.ensures, c.next_number-next.ensures)
