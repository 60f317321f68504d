-- Direction by direction.
use Rattle.std.proofs.Common.{◌≡◌, ℕ, true, false, get_or, refl, below_more}
use Rattle.plane_geom.specs.declared.point.Dir.{Dir}
use Rattle.plane_geom.specs.declared.point.Dir.TheVariants.{East}
use Rattle.route_search.proofs.Moving.Directions.{directions, each}
use Rattle.route_audit.specs.Moves.{AreMovesInFound}
use Rattle.route_audit.proofs.moves.are_moves_of_row_found.Goals as goal

pub returns-then-not-are_moves_found_in : goal.returns-then-not-are_moves_found_in
returns-then-not-are_moves_found_in c = λ floor problem. (
  λ never. absurd (let both : false ≡ true = never in cc),
  λ all. (c.if-not-are_moves_found_in.ensures floor problem).1 (all (get_or directions c.loop-dir.dir-index East)),
)

pub loop-dir-preserved : goal.loop-dir-preserved
loop-dir-preserved c = λ floor problem.
    let a = c.args in
    below_more (λ (k : ℕ). AreMovesInFound floor a.problem.now.task.now a.claim.now a.labels.now.rows.now a.row.now
    (get_or directions k East)) c.loop-dir.dir-index
    (c.loop-dir.invariant floor problem) ((c.if-not-are_moves_found_in.ensures floor problem).0 refl)

pub returns : goal.returns
returns c = λ floor problem.
    let a = c.args in
    let fact : Dir → Type 0 = λ d. AreMovesInFound floor a.problem.now.task.now a.claim.now a.labels.now.rows.now a.row.now d in (
      λ _. each fact c.loop-dir.dir-index (c.loop-dir.invariant floor problem) c.loop-dir-test.false,
      λ _. refl,
    )
