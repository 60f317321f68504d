-- The lines so far are there.
use Rattle.std.proofs.Common.{◌≡◌, take}
use Rattle.route_session.specs.Shares.{line_runs}
use Rattle.route_session.proofs.shares.drawn_lines.Given as goal

abbrev pub invariant-loop-line : goal.invariant-loop-line
invariant-loop-line l = l.drawn.items ≡ line_runs (take l.line-index l.lines)
