-- Pair by pair, what was read is what the list has.
use Rattle.std.proofs.Common.{◌+◌, List, drop, ap, sym, ◌∙◌}
use Rattle.std.specs.Prelude.{codes}
use Rattle.plane_geom.specs.declared.point.Point.{Point}
use Rattle.gml_text.specs.View.{content, pairs}
use Rattle.diagram_read.specs.Edges.{with_via}
use Rattle.diagram_read.specs.Faults.{each}
use Rattle.diagram_read.specs.Values.{values_at}
use Rattle.diagram_read.proofs.Lists.{values_here, values_past}
use Rattle.diagram_read.proofs.Steps.{one_more}
use Rattle.diagram_read.proofs.edges.add_all_via.Goals as goal
use Rattle.diagram_read.proofs.edges.add_all_via.Goals.{then-has_key+in_ok-add_via, else-has_key}

pub loop-pair-preserved : goal.loop-pair-preserved
loop-pair-preserved c =
    let key = codes "via" in
    let list = c.args.list.now in
    let i = c.loop-pair.pair-index in
    let p = c.pair-item.result in
    let so_far = c.loop-pair.via in
    let within = c.loop-pair-test.true in
    let is = c.pair-item.is in
    let step = with_via c.args.place c.args.before in
    let rest = values_at key (pairs (drop (i + 1) list)) in
    elim c.if-has_key.branch [
      | then-has_key+in_ok-add_via w ↦
          (let here = values_here key list i p within is (sym c.has_key.ensures ∙ w.if-has_key.true) in
          one_more step (each step c.args.via.now (values_at key (pairs list))) so_far w.add_via.new.via (content p.value) rest (c.loop-pair.invariant ∙ ap (each step so_far) here) w.in_ok-add_via.ensures
          ∙ ap (λ (ps : List Point). each step ps rest) (sym w.via-is))
      | else-has_key w ↦
          c.loop-pair.invariant
          ∙ ap (each step so_far) (values_past key list i p within is (sym c.has_key.ensures ∙ w.if-has_key.false))
          ∙ ap (λ (ps : List Point). each step ps rest) (sym w.via-is)
    ]
