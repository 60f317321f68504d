-- One line is under one id.
use Rattle.std.proofs.Common.{Some, ap, sym, ◌∙◌}
use Rattle.plane_geom.specs.declared.floor.Line.{Line}
use Rattle.line_lists.proofs.OnLine.{same_line}
use Rattle.line_lists.proofs.Finished.{one_id}
use Rattle.line_lists.proofs.laws.one_number.Goals as goal

pub returns-clause-of_number : goal.returns-clause-of_number
returns-clause-of_number c = λ a lists arena are id other n h k.
    let same = same_line h.0 k.0 (sym h.1.listed ∙ k.1.listed) in
    one_id a arena id other h.0 h.1.is (k.1.is ∙ ap (λ (l : Line). Some l) (sym same))
