-- The corners so far, and those of the words that are left, give the whole.
use Rattle.std.proofs.Common.{◌≡◌, map, length}
use Rattle.live_replies.specs.Forms.{corners_of}
use Rattle.live_replies.proofs.Corners.{together}
use Rattle.live_replies.proofs.form.corners_of.Given as goal

abbrev pub invariant-loop-left : goal.invariant-loop-left
invariant-loop-left l = together l.corners.items (corners_of (map (λ w. w.now) l.left)) ≡ corners_of (map (λ w. w.now) l.words)

abbrev pub decreases-loop-left : goal.decreases-loop-left
decreases-loop-left l = length l.left
