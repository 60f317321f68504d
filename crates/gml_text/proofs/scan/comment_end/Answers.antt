-- A comment goes on to its line feed.
use Rattle.std.proofs.Common.{arith}
use Rattle.gml_text.proofs.Standing.{comment_goes}
use Rattle.gml_text.proofs.scan.comment_end.Goals as goal

pub loop-end-preserved : goal.loop-end-preserved
loop-end-preserved c = record {
  after = omega arith;
  within = omega arith;
  goes = λ here fs ps stands.
      comment_goes c.args.bytes.now c.loop-end.end here fs ps c.loop-end-test.true c.if-bytes-end-ne10.true (c.loop-end.invariant.goes here fs ps stands);
}
