-- The lines of the edge, of the points and of the rows.
use Rattle.std.proofs.Common.{append_assoc}
use Rattle.proof_text.proofs.LineBytes.{text_of_lines-append}
use Rattle.proof_text.proofs.write.push_proof.Goals as goal

pub returns : goal.returns
returns c = rw (c.in_ok-push_rows.ensures, c.in_ok-push_claimed.ensures, c.in_ok-push_edge.ensures, c.as_slice.ensures, text_of_lines-append)
    (simp append_assoc)
