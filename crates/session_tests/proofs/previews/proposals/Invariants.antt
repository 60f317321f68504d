-- The proposals so far may be asked.
use Rattle.std.proofs.Common.{◌≡◌, All, length}
use Rattle.preview.specs.Previews.{IsProposable}
use Rattle.session_tests.proofs.previews.proposals.Given as goal

abbrev pub invariant-loop-asks : goal.invariant-loop-asks
invariant-loop-asks l = record {
  each : All IsProposable l.proposals.items;
  len : length l.proposals.items ≡ l.asks-index;
}
