-- What holds while lines are written.
use Rattle.std.proofs.Common.{◌≡◌, ◌++◌, take}
use Rattle.gml_text.specs.Printed.{printed_inside}
use Rattle.gml_text.specs.View.{pairs}
use Rattle.gml_text.proofs.write.+lines.Given as goal

abbrev pub invariant-put_lines-loop-pair : goal.invariant-put_lines-loop-pair
invariant-put_lines-loop-pair l = l.out.items ≡ l.fn.out.items ++ printed_inside l.level (pairs (take l.pair-index l.list))
