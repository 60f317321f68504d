-- An entry's port is in the box of an origin; where the run is held from a turn, one of the two sides is touched.
use Rattle.std.proofs.Common.{◌≡◌, ◌<◌, length, arith, rules, w64, to_z, of_z, FitsSigned, IsTrue, Some, true≢false, inl, inr, sym, ap, subst, ◌∙◌}
use Rattle.std.specs.Prelude.{Any, Vec, slice_get}
use Rattle.std.specs.declared.alloc.Global.{Global}
use Rattle.std.proofs.Math.Logic.{∥∥₁_elim}
use Rattle.std.proofs.lemmas.Int.{ints, to_z-of_z}
use Rattle.std.proofs.lemmas.Option.{slice_get-get_or}
use Rattle.search_problem.specs.Bounds.{origins_after, origins_in}
use Rattle.plane_geom.specs.Along.{across, reach, way_of}
use Rattle.plane_geom.specs.Point.{opposite}
use Rattle.plane_geom.specs.Rect.{HasWithin}
use Rattle.plane_geom.specs.declared.point.Dir.{Dir}
use Rattle.plane_geom.specs.declared.point.Point.{Point}
use Rattle.walk_laws.specs.Sides.{held_to}
use Rattle.search_problem.specs.declared.origin.Origin.{Origin}
use Rattle.side_touches.specs.Touches.{IsTouched}
use Rattle.exit_spread.proofs.Holding.Runs.{entry_in_box, run_on, two_across}
use Rattle.exit_spread.proofs.held.may_begin.Goals as goal
use Rattle.exit_spread.proofs.held.may_begin.Goals.{then-may_be_held, else-may_be_held, then-may_be_held-2, else-may_be_held-2}

pub returns-else-has_checkpoint : goal.returns-else-has_checkpoint
returns-else-has_checkpoint c lists of c' q here on level far (inl (i, e, lt, is, same)) =
    let p = c.args.problem.now in
    let box = entry_in_box p c.requires.ready e (i, lt, is) in
    let way = c.way-else-has_checkpoint.ensures in
    let fits : FitsSigned w64 c.args.at = search rules in
    let meets = simp to_z-of_z at c.has_entry.ensures in
    let within : 0 < length p.origins.items = omega (arith, c.requires.ready.all_stages) in
    let first = slice_get-get_or p.origins.items 0 c.index.result.now within in
    let origins : origins_after p.origins.items 0 ≡ c.deref.result.now =
    ap origins_in first ∙ ap (λ (v : Vec Origin Global). v.items) (sym c.index.ensures) ∙ sym c.deref.ensures.value in
    meets e.port (subst (Any (λ (o : Origin). HasWithin o.ports e.port)) origins box) (subst (λ w. across w e.port ≡ c.args.at) (sym way) (same ∙ level))
returns-else-has_checkpoint c lists of c' q here on level far (inr (inl any)) = elim c.if-may_be_held-2.branch as (λ _. IsTrue c.has_entry.result) [
  | then-may_be_held-2 w ↦ absurd (true≢false (sym w.if-may_be_held-2.true ∙ sym w.value-is ∙ c.if-has_checkpoint.false))
  | else-may_be_held-2 w ↦ (
      let fits : FitsSigned w64 c.args.at = search rules in
      let has = simp to_z-of_z at w.has_checkpoint.ensures in
      let there : Any (λ (v : Point). across w.way.result v ≡ c.args.at) w.as_slice.result.now =
      subst (λ xs. Any (λ (v : Point). across w.way.result v ≡ c.args.at) xs) (sym w.as_slice.ensures)
      (subst (λ z. Any (λ (v : Point). across z v ≡ c.args.at) c.args.problem.now.task.now.via) (sym w.way.ensures)
      (subst (λ z. Any (λ (v : Point). across (way_of c.args.heading) v ≡ z) c.args.problem.now.task.now.via) level any)) in
      absurd (true≢false (sym (has there) ∙ sym w.value-is ∙ c.if-has_checkpoint.false)))
]
returns-else-has_checkpoint c lists of c' q here on level far (inr (inr b)) = elim c.if-may_be_held-2.branch as (λ _. IsTrue c.has_entry.result) [
  | then-may_be_held-2 w ↦ absurd (true≢false (sym w.if-may_be_held-2.true ∙ sym w.value-is ∙ c.if-has_checkpoint.false))
  | else-may_be_held-2 w ↦ (elim c.if-may_be_held.branch as (λ _. IsTrue c.has_entry.result) [
    | then-may_be_held v ↦ absurd (true≢false (sym v.if-may_be_held.true ∙ sym v.value-is ∙ w.if-may_be_held-2.false))
    | else-may_be_held v ↦ (
        let p = c.args.problem.now in
        let h = c.args.heading in
        let on_line = run_on p.arena.now lists c.requires.ready.arena of.are_lists h b.from c' b.point q b.lies b.here here in
        let listed : slice_get lists.lines c.args.line ≡ Some on_line.0 = ap (slice_get lists.lines) (sym on) ∙ on_line.1 in
        let touched : (x : Dir) → b.before ≡ x → IsTouched p.solids.now (held_to x c.args.next) h b.point q =
        λ x same. subst (λ z. IsTouched p.solids.now (held_to z c.args.next) h b.point q) same b.held in
        let end : reach h q ≡ to_z w64 (of_z w64 c.args.end) = omega (arith, ints, far) in
        absurd (∥∥₁_elim of.are_touches (λ (x y : ⊥). absurd x) (λ are. elim (two_across b.before h b.turns) as (λ _. ⊥) [
          | inl same ↦ true≢false (sym (c.may_be_held.ensures lists.lines p.solids.now on_line.0 are listed b.point q on_line.2 end
              (touched c.crosswise-before.result (same ∙ sym c.crosswise-before.ensures))) ∙ v.if-may_be_held.false)
          | inr same ↦ true≢false (sym (v.may_be_held-else-may_be_held.ensures lists.lines p.solids.now on_line.0 are listed b.point q on_line.2 end
              (touched v.opposite.result (same ∙ ap opposite (sym c.crosswise-before.ensures) ∙ sym v.opposite.ensures))) ∙ sym v.value-is ∙ w.if-may_be_held-2.false)
        ])))
  ])
]
