-- A key goes on over its bytes.
use Rattle.std.proofs.Common.{◌≤◌, sym, ◌∙◌, arith}
use Rattle.gml_text.proofs.Standing.{key_goes}
use Rattle.gml_text.proofs.scan.key_end.Goals as goal

pub loop-end-preserved : goal.loop-end-preserved
loop-end-preserved c =
    let above : c.args.at ≤ c.loop-end.end = omega (arith, c.loop-end.invariant.after) in
    record {
      after = omega arith;
      within = omega arith;
      ends = λ fs ps stands.
          key_goes c.args.bytes.now c.args.at c.loop-end.end fs ps above c.loop-end-test.true (sym c.is_key_byte.ensures ∙ c.if-is_key_byte.true)
          (c.loop-end.invariant.ends fs ps stands);
    }
