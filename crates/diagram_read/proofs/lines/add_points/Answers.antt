-- Pair by pair, what was read is what the `Line` has.
use Rattle.std.proofs.Common.{◌+◌, List, drop, ap, sym, ◌∙◌, rules}
use Rattle.std.specs.Prelude.{codes}
use Rattle.plane_geom.specs.declared.point.Point.{Point}
use Rattle.gml_text.specs.View.{pairs}
use Rattle.diagram_read.specs.Faults.{each}
use Rattle.diagram_read.specs.Lines.{with_point}
use Rattle.diagram_read.specs.Values.{lists_at}
use Rattle.diagram_read.proofs.Lists.{lists_here, lists_no, lists_past}
use Rattle.diagram_read.proofs.Steps.{one_more}
use Rattle.diagram_read.proofs.lines.add_points.Goals as goal
use Rattle.diagram_read.proofs.lines.add_points.Goals.{
  then-has_key+in-Some+in_ok-add_point,
  else-has_key,
  else-has_key-via-else-has_key,
  else-has_key-via-then-has_key+in-None-1,
}

pub loop-pair-preserved : goal.loop-pair-preserved
loop-pair-preserved c =
    let key = codes "point" in
    let line = c.args.line.now in
    let i = c.loop-pair.pair-index in
    let p = c.pair-item.result in
    let points = c.loop-pair.points in
    let within = c.loop-pair-test.true in
    let is = c.pair-item.is in
    let step = with_point c.args.number in
    let rest = lists_at key (pairs (drop (i + 1) line)) in
    elim c.if-has_key.branch [
      | then-has_key+in-Some+in_ok-add_point w ↦
          (let inner = pairs w.in-Some.list.now in
          let here = lists_here key line i p inner within is (sym c.has_key.ensures ∙ w.if-has_key.true) (sym w.in-Some.ensures) in
          one_more step (each step c.args.points.now (lists_at key (pairs line))) points w.add_point.new.points inner rest (c.loop-pair.invariant ∙ ap (each step points) here) w.in_ok-add_point.ensures
          ∙ ap (λ (ps : List Point). each step ps rest) (sym w.points-is))
      | else-has_key w ↦ elim w.else-has_key.branch [
        | else-has_key-via-else-has_key v ↦
            c.loop-pair.invariant
            ∙ ap (each step points) (lists_past key line i p within is (sym c.has_key.ensures ∙ v.if-has_key.false))
            ∙ ap (λ (ps : List Point). each step ps rest) (sym w.points-is)
        | else-has_key-via-then-has_key+in-None-1 v ↦
            c.loop-pair.invariant ∙ ap (each step points) (lists_no key line i p within is (search rules)) ∙ ap (λ (ps : List Point). each step ps rest) (sym w.points-is)
      ]
    ]
