-- What is reported so far, and the elements that are left, give the whole.
use Rattle.std.proofs.Common.{◌≡◌, ◌++◌, drop}
use Rattle.live_replies.specs.Why.{unrouted_texts}
use Rattle.live_replies.proofs.why.push_all_unrouted.Given as goal

abbrev pub invariant-loop-unrouted : goal.invariant-loop-unrouted
invariant-loop-unrouted l = l.out.items ++ unrouted_texts (drop l.unrouted-index l.list) ≡ l.fn.out.items ++ unrouted_texts l.list
