-- A number goes on over its bytes.
use Rattle.std.proofs.Common.{◌≤◌, sym, ◌∙◌, arith}
use Rattle.gml_text.proofs.Standing.{number_goes}
use Rattle.gml_text.proofs.scan.number_end.Goals as goal

pub loop-end-preserved : goal.loop-end-preserved
loop-end-preserved c =
    let above : c.args.at ≤ c.loop-end.end = omega (arith, c.loop-end.invariant.after) in
    record {
      after = omega arith;
      within = omega arith;
      ends = λ key fs ps stands.
          number_goes c.args.bytes.now c.args.at c.loop-end.end key c.loop-end.part c.in-Some.next fs ps above c.loop-end-test.true
          (sym c.after.ensures ∙ c.in-Some.is) (c.loop-end.invariant.ends key fs ps stands);
    }
