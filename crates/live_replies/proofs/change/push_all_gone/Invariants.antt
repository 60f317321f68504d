-- What is reported so far, and the connectors that are left, give the whole.
use Rattle.std.proofs.Common.{◌≡◌, ◌++◌, drop}
use Rattle.std.specs.List.{flat_map}
use Rattle.live_replies.specs.Texts.{gone_text}
use Rattle.live_replies.proofs.change.push_all_gone.Given as goal

abbrev pub invariant-loop-edge : goal.invariant-loop-edge
invariant-loop-edge l = l.out.items ++ flat_map gone_text (drop l.edge-index l.gone) ≡ l.fn.out.items ++ flat_map gone_text l.gone
