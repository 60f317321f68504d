-- The lines so far were read, and the others are left.
use Rattle.std.proofs.Common.{length}
use Rattle.proof_text.proofs.Parting.{HaveRead}
use Rattle.proof_text.proofs.read.read_lines.Given as goal

abbrev pub invariant-loop-rest : goal.invariant-loop-rest
invariant-loop-rest l = HaveRead l.bytes l.rest l.line (l.reader.done.items, l.reader.last)

abbrev pub decreases-loop-rest : goal.decreases-loop-rest
decreases-loop-rest l = length l.rest
