-- One transaction more, with an undo after each third one.
use Rattle.std.proofs.Common.{◌≡◌, ◌+◌, List, ◌++◌, sym, ap, ◌∙◌, append-nil}
use Rattle.std.specs.Prelude.{flat_map}
use Rattle.scene_model.specs.declared.edit.Command.{Command}
use Rattle.form_make.specs.Draws.{first}
use Rattle.form_make.specs.Made.{made_transaction, made_undo}
use Rattle.form_make.proofs.DrawLemmas.{first-zero, state_after-zero}
use Rattle.form_make.proofs.Steps.{commands_more, move_at, three_draws, undo_none, undo_one}
use Rattle.form_make.proofs.commands.made_commands.Goals as goal
use Rattle.form_make.proofs.commands.made_commands.Goals.{then-place-eq2+in_ok-push, else-place-eq2}

pub loop-place-init : goal.loop-place-init
loop-place-init c = record {
  commands = c.new-commands.ensures.items ∙ ap (flat_map (λ (commands : List Command). commands)) (sym (first-zero (made_transaction c.skip.new.self.state)));
  draws = sym (state_after-zero c.skip.new.self.state);
}

pub loop-place-preserved : goal.loop-place-preserved
loop-place-preserved c =
    let start = c.skip.new.self.state in
    let k = c.loop-place.place in
    let made = c.drawn_move.ensures.edit ∙ move_at start k c.loop-place.draws.state c.loop-place.invariant.draws in
    let mid = c.push_transaction.new.commands.items in
    let more : (new : List Command) → new ≡ mid ++ made_undo k → new ≡ flat_map (λ commands. commands) (first (k + 1) (made_transaction start)) = λ new is.
    commands_more start k c.loop-place.commands.items mid new c.drawn_move.result c.loop-place.invariant.commands made c.in_ok-push_transaction.ensures is in
    record {
      commands = elim c.if-place-eq2.branch [
        | then-place-eq2+in_ok-push w ↦ more _ (ap (λ v. v.items) w.commands-is ∙ w.in_ok-push.ensures.items ∙ ap (λ xs. mid ++ xs) (sym (undo_one k w.if-place-eq2.true)))
        | else-place-eq2 w ↦ more _ (ap (λ v. v.items) w.commands-is ∙ sym (append-nil mid) ∙ ap (λ xs. mid ++ xs) (sym (undo_none k w.if-place-eq2.false)))
      ];
      draws = three_draws start k c.loop-place.draws.state c.drawn_move.new.draws.state c.loop-place.invariant.draws c.drawn_move.ensures.draws;
    }
