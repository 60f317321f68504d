-- What holds while spaces are written.
use Rattle.std.proofs.Common.{◌≡◌, ◌++◌}
use Rattle.gml_text.specs.Printed.{indent}
use Rattle.gml_text.proofs.write.put_indent.Given as goal

abbrev pub invariant-loop : goal.invariant-loop
invariant-loop l = l.out.items ≡ l.fn.out.items ++ indent l.counter
