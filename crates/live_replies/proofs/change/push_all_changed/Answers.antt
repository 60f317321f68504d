-- One place on.
use Rattle.std.proofs.Common.{◌++◌}
use Rattle.live_replies.specs.Changes.{changes_text, drawn_of}
use Rattle.live_replies.proofs.ChangeTexts.{one_on}
use Rattle.live_replies.proofs.change.push_all_changed.Goals as goal

pub loop-place-preserved : goal.loop-place-preserved
loop-place-preserved c =
    let lines = c.args.lines.now in
    let changed = c.args.changed.now in
    one_on lines changed c.loop-place.place c.index-lines-place.result _ c.loop-place-test.true c.requires c.index-lines-place.is
    (c.args.out.now.items ++ changes_text (drawn_of lines changed)) c.loop-place.out.items c.push_if_changed.new.out.items c.loop-place.invariant c.in_ok-push_if_changed.ensures
