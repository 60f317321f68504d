-- The run to the exit is on its line, and touches the side or has the checkpoint.
use Rattle.std.proofs.Common.{◌≡◌, ◌≤ℤ◌, ◌<◌, ℤ, IsSomeAnd, Option, Some, None, All, length, inl, inr, sym, ap, subst, ◌∙◌, arith, w64, to_z, of_z}
use Rattle.std.specs.Prelude.{slice_get}
use Rattle.std.proofs.Math.Logic.{∥∥₁_elim}
use Rattle.std.proofs.Props.{props}
use Rattle.std.proofs.lemmas.Int.{ints}
use Rattle.std.proofs.lemmas.List.Elements.{All-contains}
use Rattle.std.proofs.lemmas.Option.{same_Some}
use Rattle.plane_geom.specs.Along.{reach}
use Rattle.plane_geom.specs.declared.point.Dir.{Dir}
use Rattle.plane_geom.specs.declared.point.Point.{Point}
use Rattle.walk_laws.specs.Sides.{IsHeldTo, held_to}
use Rattle.move_model.specs.Stations.{line_between}
use Rattle.side_touches.specs.Touches.{IsTouched}
use Rattle.line_lists.specs.Lists.{number_of}
use Rattle.exit_spread.specs.Propagating.{LiesUpTo}
use Rattle.exit_spread.proofs.Known.Numbers.{lists_number}
use Rattle.move_model.proofs.GoingOn.Rests.{crossing_on_sheet}
use Rattle.line_arena.specs.Arena.{LiesFurther}
use Rattle.line_arena.proofs.Arenas.ArenaLaws.{one_point}
use Rattle.exit_spread.proofs.Holding.Runs.{lies_on, line_within, run_on}
use Rattle.exit_spread.proofs.Sizes.{reach_within}
use Rattle.exit_spread.proofs.Known.Lines.{further_across, lies_by_reach}
use Rattle.exit_spread.proofs.held.held_from.Goals as goal

-- that a number is no greater than what there is has one proof
some_prop : (o : Option ℤ) (x : ℤ) → IsProp (IsSomeAnd o (λ z. x ≤ℤ z))
some_prop None x = λ (y z : ⊥). absurd y
some_prop (Some z) x = hlevel props

-- what is no less than the greater is no less than the lesser
further_back : (o : Option ℤ) (x y : ℤ) → x ≤ℤ y → IsSomeAnd o (λ z. y ≤ℤ z) → IsSomeAnd o (λ z. x ≤ℤ z)
further_back None x y h g = g
further_back (Some z) x y h g = omega (arith, ints, h, g)

pub last_checkpoint-checkpoint-requires-clause-at_within : goal.last_checkpoint-checkpoint-requires-clause-at_within
last_checkpoint-checkpoint-requires-clause-at_within c =
    let r = c.requires.ready in
    crossing_on_sheet r.floor c.args.problem.now.arena.now c.args.run.now.kept.crossing c.args.run.now.end r.arena r.problem.stands c.requires.of.2.here

pub touched_from-touched-requires-clause-line : goal.touched_from-touched-requires-clause-line
touched_from-touched-requires-clause-line c =
    let of = c.requires.of in
    let run = of.2 in
    subst (λ n. n < length c.args.touches.now) run.kept.on
    (line_within c.args.problem.now of.0 c.args.touches.now c.requires.ready of.1 c.args.run.now.heading c.args.run.now.kept.crossing c.args.run.now.end run.here)

pub touched_from-touched-requires-clause-at : goal.touched_from-touched-requires-clause-at
touched_from-touched-requires-clause-at c =
    let r = c.requires.ready in
    let kept = c.requires.of.2.kept in
    let at : c.args.run.now.kept.at ≡ reach c.args.run.now.heading kept.point = kept.at in
    let within = reach_within c.args.run.now.heading kept.point (crossing_on_sheet r.floor c.args.problem.now.arena.now c.args.run.now.kept.crossing kept.point r.arena r.problem.stands kept.here) in
    let low = within.low in
    let high = within.high in
    record { low = omega (arith, ints, low, at); high = omega (arith, ints, high, at) }

pub returns : goal.returns
returns c lists of run c' q behind (inl none) = absurd (let wrong : ◌≡◌ {A = Option Dir} None (Some c.in-Some.next) = sym none ∙ c.in-Some.is in cc)
returns c lists of run c' q behind (inr (b, r, is, here, held)) =
    let p = c.args.problem.now in
    let h = c.args.run.now.heading in
    let end = c.args.run.now.end in
    let arena = c.requires.ready.arena in
    let next : b ≡ c.in-Some.next = same_Some b c.in-Some.next (sym is ∙ c.in-Some.is) in
    let there : r ≡ end = one_point p.arena.now c.args.run.now.kept.crossing r end arena here run.here in
    let at : c.args.run.now.kept.at ≡ reach h end = run.kept.at ∙ ap (reach h) (one_point p.arena.now c.args.run.now.kept.crossing run.kept.point end arena run.kept.here run.here) in
    let to : IsHeldTo p.solids.now p.task.now.via (held_to c.args.before c.in-Some.next) (line_between h q end) =
    subst (λ z. IsHeldTo p.solids.now p.task.now.via (held_to c.args.before c.in-Some.next) (line_between h q z)) there (subst (λ z. IsHeldTo p.solids.now p.task.now.via (held_to c.args.before z) (line_between h q r)) next held) in
    let before = behind.counts.before in
    let lies : LiesFurther p.arena.now h c' c.args.run.now.kept.crossing =
    lies_by_reach p.arena.now arena h (number_of lists) (lists_number p.arena.now lists arena of.are_lists) c' c.args.run.now.kept.crossing q end behind.here run.here (behind.on ∙ sym run.kept.on) (omega (arith, ints, before, at)) in
    elim to as (λ _. IsSomeAnd c.greater.result (λ z. reach h q ≤ℤ z)) [
      | inl touched ↦ (
          let on = run_on p.arena.now lists arena of.are_lists h c' c.args.run.now.kept.crossing q end lies behind.here run.here in
          let listed : slice_get lists.lines c.args.run.now.line ≡ Some on.0 = ap (slice_get lists.lines) (sym run.kept.on) ∙ on.1 in
          let ends : reach h end ≡ to_z w64 (of_z w64 c.args.run.now.kept.at) = omega (arith, ints, at) in
          let side : IsTouched p.solids.now c.held_to.result h q end = subst (λ s. IsTouched p.solids.now s h q end) (sym c.held_to.ensures) touched in
          c.greater.ensures.first (reach h q) (∥∥₁_elim of.are_touches (some_prop c.touched_from-touched.result (reach h q)) (λ are. ((c.touched_from-touched.ensures lists.lines p.solids.now on.0 are listed).runs q end on.2 ends).0 side)))
      | inr any ↦ (
          let v : Point = any.1 in
          let on = lies_on h q end v any.4 in
          let level = further_across p.arena.now arena h c' c.args.run.now.kept.crossing q end lies behind.here run.here in
          let from = on.from in
          let upto : LiesUpTo v h end = record { across = on.across ∙ sym level; upto = on.to } in
          let some = All-contains (λ (x : Point). LiesUpTo x h end → IsSomeAnd c.last_checkpoint-checkpoint.result (λ z. reach h x ≤ℤ z)) p.task.now.via v
          (subst (All (λ (x : Point). LiesUpTo x h end → IsSomeAnd c.last_checkpoint-checkpoint.result (λ z. reach h x ≤ℤ z))) c.as_slice.ensures c.last_checkpoint-checkpoint.ensures) (any.0, any.2, any.3) upto in
          c.greater.ensures.second (reach h q) (further_back c.last_checkpoint-checkpoint.result (reach h q) (reach h v) from some))
    ]
