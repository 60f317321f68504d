-- The right claim of the answer, with the least labels below it.
use Rattle.std.proofs.Common.{◌≤◌, ◌^◌, List, sym, subst}
use Rattle.std.specs.Prelude.{IfOk}
use Rattle.plane_geom.specs.declared.rect.Solid.{Solid}
use Rattle.line_arena.specs.Arena.{Arena}
use Rattle.proof_search.specs.Provers.{AreLeastOn}
use Rattle.proof_search.specs.Scopes.{claim_of, most_of}
use Rattle.proof_search.specs.declared.scope.Scope.{Scope}
use Rattle.proof_search.proofs.RowsInOrder.LeastRows.{made_least, small_scope}
use Rattle.proof_search.proofs.prover.Prover.proof.Goals as goal

pub spread_rows-rows-requires-clause-small : goal.spread_rows-rows-requires-clause-small
spread_rows-rows-requires-clause-small c =
    let f = c.args.self.now.finder in
    let on = c.requires.problem in
    subst (λ (s : Scope). most_of s ≤ 10 ^ 18) (sym c.scope_for-scope.ensures)
    (small_scope f.arena.now f.solids.now c.args.task.now on.0 on.1 c.in_ok-route.route c.in_ok-route.ensures.answer)

pub returns-clause-least : goal.returns-clause-least
returns-clause-least c =
    let f = c.args.self.now.finder in
    let g = c.find.new.self in
    let task = c.args.task.now in
    let rows = c.spread_rows-rows.result in
    let kept = c.in_ok-route.ensures in
    let on_arena = subst (λ (a : Arena). IfOk rows (AreLeastOn a g.solids.now task (claim_of c.scope_for-scope.result))) kept.arena c.spread_rows-rows.ensures in
    let on_solids = subst (λ (ss : List Solid). IfOk rows (AreLeastOn f.arena.now ss task (claim_of c.scope_for-scope.result))) kept.solids on_arena in
    let least = subst (λ (s : Scope). IfOk rows (AreLeastOn f.arena.now f.solids.now task (claim_of s))) c.scope_for-scope.ensures on_solids in
    made_least f.arena.now f.solids.now task c.in_ok-route.route rows c.proof_of.result kept.answer least c.proof_of.ensures.claim c.proof_of.ensures.rows
