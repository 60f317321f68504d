-- One proof on.
use Rattle.std.proofs.Common.{◌++◌, ap, ◌∙◌}
use Rattle.proof_text.specs.Text.{proof_lines, proof_text, proofs_lines, proofs_text}
use Rattle.proof_text.proofs.LineBytes.{text_of_lines-append}
use Rattle.proof_text.proofs.Writing.{written_on}
use Rattle.proof_text.proofs.write.push_proofs.Goals as goal

pub loop-proof-preserved : goal.loop-proof-preserved
loop-proof-preserved c =
    let out = c.loop-proof.out.items in
    written_on proof_text proofs_text (λ p ps. text_of_lines-append (proof_lines p) (proofs_lines ps))
    (c.args.out.now.items ++ proofs_text c.args.proofs.now) out c.push_proof.new.out.items c.args.proofs.now c.loop-proof.proof-index c.proof-item.result
    c.loop-proof-test.true c.loop-proof.invariant (c.in_ok-push_proof.ensures ∙ ap (λ p. out ++ proof_text p) c.proof-item.is)
