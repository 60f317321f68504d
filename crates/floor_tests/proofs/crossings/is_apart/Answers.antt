-- No line that is there overlaps, and so none shares a point.
use Rattle.std.proofs.Common.{ℕ}
use Rattle.std.proofs.lemmas.List.Elements.{All-contains}
use Rattle.plane_geom.specs.declared.floor.Line.{Line}
use Rattle.floor_tests.specs.Lines.{Overlap}
use Rattle.floor_tests.proofs.Meeting.{overlap}
use Rattle.floor_tests.proofs.crossings.is_apart.Goals as goal

pub returns : goal.returns
returns c = λ t l other p is whole on_other on_line.
    let entries = c.lines_in_order.result.now in
    let Clear : Line × ℕ → Type 0 = λ entry. Overlap entry.0 c.args.line → ⊥ in
    All-contains Clear entries (other, l) (c.are_clear.ensures t) ((c.lines_in_order.ensures.listed other l).1 is)
    (overlap other c.args.line p whole on_other on_line)
