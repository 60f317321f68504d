-- What the runs so far take up is there.
use Rattle.std.proofs.Common.{ℕ, ◌<◌, length}
use Rattle.std.specs.Prelude.{All, Contains}
use Rattle.channel_bundles.specs.Groups.{IsSpan, span_at}
use Rattle.channel_bundles.proofs.groups.spans_of.Given as goal

abbrev pub invariant-loop-place : goal.invariant-loop-place
invariant-loop-place l = All (IsSpan (length l.members)) l.spans.items × ((k : ℕ) → k < l.place → Contains l.spans.items (span_at l.by l.nudge l.members l.groups k))
