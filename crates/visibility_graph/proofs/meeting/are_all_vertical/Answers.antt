-- All others are vertical where the last one is.
use Rattle.std.proofs.Common.{◌≡◌, ap, ◌∙◌, sym, get_or, length, ◌-◌, arith, rules}
use Rattle.plane_geom.specs.declared.point.Way.TheVariants.{Vertical}
use Rattle.plane_geom.specs.declared.floor.Line.{Line}
use Rattle.visibility_graph.proofs.Parted.{not_met_alongside, vertical_upto}
use Rattle.visibility_graph.proofs.meeting.are_all_vertical.Goals as goal

pub returns-in-Vertical-Some : goal.returns-in-Vertical-Some
returns-in-Vertical-Some c = λ vertical k d l.
    let others = c.args.others.now in
    let runs : c.in-Vertical-Some.last.now.way ≡ Vertical = search rules in
    let last = c.in-Vertical-Some.ensures.item.3.1 d in
    not_met_alongside c.args.line.now (get_or others k d) c.in-Vertical-Some.is-0
    (vertical_upto others k (length others - 1) d c.requires (omega arith) (omega arith) (ap (λ (m : Line). m.way) (sym last) ∙ runs))
