-- A command that is done searched what the session's two counts differ by.
use Rattle.std.proofs.Common.{◌≡◌, ◌-◌, subst, arith}
use Rattle.scene_model.specs.Valid.{IsValid}
use Rattle.script_replay.proofs.Done.{done_replied}
use Rattle.script_replay.proofs.script.reply_to.Goals as goal

pub returns-in-Ok : goal.returns-in-Ok
returns-in-Ok g c =
    let old = c.args.session.now in
    let new = c.run-answer.new.self in
    let searched = c.searched.result - c.searched-before.result in
    let valid : IsValid new.world.present = subst IsValid c.scene.ensures.scene c.valid.ensures in
    let counted : searched ≡ new.searched - old.searched = omega (arith, c.searched.ensures, c.searched-before.ensures) in
    rw c.done_reply.ensures
    (done_replied c.args.command.now old new searched c.right.ensures valid c.requires.countable counted c.in-Ok.ensures.call.ok c.in-Ok.ensures.searches)
