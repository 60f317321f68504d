-- Test by test.
use Rattle.std.proofs.Common.{refl, arith}
use Rattle.route_audit.proofs.rows.is_fit.Goals as goal

pub returns : goal.returns
returns c = (
  λ yes. record {
    stage = omega (arith, c.if-row-last.false);
    some = c.if-not-has_label.ensures.0 refl;
    right = c.has_right_labels.ensures.0 yes;
  },
  λ row. c.has_right_labels.ensures.1 row.right,
)
