-- So it is at the endings so far.
use Rattle.std.proofs.Common.{take, All}
use Rattle.route_audit.specs.Ends.{MayEndAt}
use Rattle.route_audit.proofs.ends.may_all_end.Given as goal

abbrev pub invariant-loop-ending : goal.invariant-loop-ending
invariant-loop-ending l = All (MayEndAt l.problem.task.now l.claim l.labels.rows.now) (take l.ending-index l.endings)
