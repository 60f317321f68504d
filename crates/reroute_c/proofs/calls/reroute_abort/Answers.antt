-- An abort takes no memory.
use Rattle.reroute_c.proofs.Aborted.{aborted}
use Rattle.reroute_c.proofs.calls.reroute_abort.Goals as goal

pub returns-clause-faults : goal.returns-clause-faults
returns-clause-faults c = λ there.
    aborted c.args.handle.now.drawing c.call.new.handle.drawing c.call.result there (c.call.ensures.open there) c.call.ensures.call
