-- The connectors that are gone, and then the lines that changed.
use Rattle.std.proofs.Common.{◌≡◌, ◌++◌, subst}
use Rattle.std.specs.Prelude.{OnOk}
use Rattle.drawing.specs.Changes.{Asked}
use Rattle.live_replies.specs.Changes.{changes, changes_text}
use Rattle.live_replies.proofs.ChangeTexts.{both_ok}
use Rattle.live_replies.proofs.change.push_changes.Goals as goal

pub returns : goal.returns
returns c =
    let read : Asked = record { lines = c.lines.result.now; changed = c.changed.result.now; gone = c.gone.result.now } in
    let same : read ≡ c.args.compared.now = (λ i. record { lines = c.lines.ensures i; changed = c.changed.ensures.changed i; gone = c.gone.ensures i }) in
    subst (λ (a : Asked). OnOk c.push_all_changed.result (c.push_all_changed.new.out.items ≡ c.args.out.now.items ++ changes_text (changes a))) same
    (both_ok c.push_all_changed.result c.args.out.now.items c.push_all_gone.new.out.items c.push_all_changed.new.out.items read.lines read.changed read.gone
    c.in_ok-push_all_gone.ensures c.push_all_changed.ensures)
