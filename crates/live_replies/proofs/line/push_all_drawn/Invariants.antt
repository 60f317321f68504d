-- What is reported so far, and the elements that are left, give the whole.
use Rattle.std.proofs.Common.{◌≡◌, ◌++◌, drop}
use Rattle.live_replies.specs.Texts.{drawn_texts}
use Rattle.live_replies.proofs.line.push_all_drawn.Given as goal

abbrev pub invariant-loop-line : goal.invariant-loop-line
invariant-loop-line l = l.out.items ++ drawn_texts (drop l.line-index l.lines) ≡ l.fn.out.items ++ drawn_texts l.lines
