-- The rules so far are given to the bundles of their classes.
use Rattle.channel_bundles.proofs.Sharing.{AreGiven}
use Rattle.channel_bundles.proofs.shares.share_out.Given as goal

abbrev pub invariant-loop-rule : goal.invariant-loop-rule
invariant-loop-rule l = AreGiven l.seats l.rules l.rule-index l.fn.found l.found
