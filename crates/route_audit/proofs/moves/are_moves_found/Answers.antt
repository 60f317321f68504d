-- Each row stands at its crossing, and one row more is found.
use Rattle.std.proofs.Common.{◌≡◌, All, true, false, subst, refl, arith}
use Rattle.std.proofs.lemmas.List.{take_all}
use Rattle.std.proofs.lemmas.List.Elements.{All-more}
use Rattle.plane_geom.specs.declared.point.Dir.{Dir}
use Rattle.proof_model.specs.declared.proof.LabelRow.{LabelRow}
use Rattle.route_audit.specs.Moves.{AreMovesInFound}
use Rattle.route_audit.proofs.moves.are_moves_found.Goals as goal

pub are_moves_of_row_found-requires-clause-small : goal.are_moves_of_row_found-requires-clause-small
are_moves_of_row_found-requires-clause-small c = λ h label is.
    let r = c.requires.ready in
    let row = (c.requires.rows r.floor r.problem).each c.loop-place.place _ c.loop-place-test.true in
    let small = row.small h label is in
    omega (arith, small)

pub returns-then-not-are_moves_of_row_found : goal.returns-then-not-are_moves_of_row_found
returns-then-not-are_moves_of_row_found c = λ floor problem. (
  λ never. absurd (let both : false ≡ true = never in cc),
  λ all. (c.if-not-are_moves_of_row_found.ensures floor problem).1 (all c.loop-place.place _ c.loop-place-test.true),
)

pub loop-place-preserved : goal.loop-place-preserved
loop-place-preserved c = λ floor problem.
    let a = c.args in
    All-more (λ (r : LabelRow). (d : Dir) → AreMovesInFound floor a.problem.now.task.now a.claim.now a.labels.now.rows.now r d) a.labels.now.rows.now
    c.loop-place.place _ c.loop-place-test.true (c.loop-place.invariant floor problem) ((c.if-not-are_moves_of_row_found.ensures floor problem).0 refl)

pub returns : goal.returns
returns c = λ floor problem.
    let a = c.args in (
      λ _. subst (All (λ (r : LabelRow). (d : Dir) → AreMovesInFound floor a.problem.now.task.now a.claim.now a.labels.now.rows.now r d))
          (take_all c.loop-place.place a.labels.now.rows.now c.loop-place-test.false) (c.loop-place.invariant floor problem),
      λ _. refl,
    )
