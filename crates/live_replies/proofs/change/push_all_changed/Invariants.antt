-- What is reported so far, and the lines that are left, give the whole.
use Rattle.std.proofs.Common.{◌≡◌, ◌++◌, drop}
use Rattle.live_replies.specs.Changes.{changes_text, drawn_of}
use Rattle.live_replies.proofs.change.push_all_changed.Given as goal

abbrev pub invariant-loop-place : goal.invariant-loop-place
invariant-loop-place l =
    l.out.items ++ changes_text (drawn_of (drop l.place l.lines) (drop l.place l.changed)) ≡ l.fn.out.items ++ changes_text (drawn_of l.lines l.changed)
