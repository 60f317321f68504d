-- What is written so far, and the proofs that are left, give the whole.
use Rattle.std.proofs.Common.{◌≡◌, ◌++◌, drop}
use Rattle.proof_text.specs.Text.{proofs_text}
use Rattle.proof_text.proofs.write.push_proofs.Given as goal

abbrev pub invariant-loop-proof : goal.invariant-loop-proof
invariant-loop-proof l = l.out.items ++ proofs_text (drop l.proof-index l.proofs) ≡ l.fn.out.items ++ proofs_text l.proofs
