-- What is reported so far, and the elements that are left, give the whole.
use Rattle.std.proofs.Common.{◌≡◌, ◌++◌, drop}
use Rattle.live_replies.specs.Texts.{corners_text}
use Rattle.live_replies.proofs.line.push_corners.Given as goal

abbrev pub invariant-loop-corner : goal.invariant-loop-corner
invariant-loop-corner l = l.out.items ++ corners_text (drop l.corner-index l.corners) ≡ l.fn.out.items ++ corners_text l.corners
