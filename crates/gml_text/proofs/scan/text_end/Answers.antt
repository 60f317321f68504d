-- A string goes on to its quote.
use Rattle.std.proofs.Common.{arith}
use Rattle.gml_text.proofs.Standing.{text_goes}
use Rattle.gml_text.proofs.scan.text_end.Goals as goal

pub loop-end-preserved : goal.loop-end-preserved
loop-end-preserved c = record {
  after = omega arith;
  within = omega arith;
  ends = λ key fs ps stands.
      text_goes c.args.bytes.now c.args.from c.loop-end.end key fs ps c.loop-end.invariant.after c.loop-end-test.true c.if-bytes-end-ne34.true
      (c.loop-end.invariant.ends key fs ps stands);
}
