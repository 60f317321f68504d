-- White space and comments go on.
use Rattle.std.proofs.Common.{sym, ◌∙◌, arith}
use Rattle.gml_text.proofs.Standing.{space_goes, comment_begins}
use Rattle.gml_text.proofs.scan.gap_end.Goals as goal

pub loop-end-preserved-then-is_space : goal.loop-end-preserved-then-is_space
loop-end-preserved-then-is_space c = record {
  after = omega arith;
  within = omega arith;
  ends = λ here fs ps stands.
      space_goes c.args.bytes.now c.loop-end.end here fs ps c.loop-end-test.true (sym c.is_space.ensures ∙ c.if-is_space.true)
      (c.loop-end.invariant.ends here fs ps stands);
}

pub loop-end-preserved : goal.loop-end-preserved
loop-end-preserved c = record {
  after = omega (arith, c.comment_end-end.ensures.after);
  within = c.comment_end-end.ensures.within;
  ends = λ here fs ps stands.
      c.comment_end-end.ensures.ends here fs ps
      (comment_begins c.args.bytes.now c.loop-end.end here fs ps c.loop-end-test.true (sym c.is_space.ensures ∙ c.if-is_space.false) c.if-bytes-end-eq35.true
      (c.loop-end.invariant.ends here fs ps stands));
}
