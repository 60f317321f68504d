-- The least proofs of all connectors, by a prover on the scene's graph, prove the scene.
use Rattle.std.proofs.Common.{subst}
use Rattle.plane_geom.specs.declared.floor.Floor.{Floor}
use Rattle.line_arena.specs.Stands.{StandsFor}
use Rattle.scene_model.specs.Routing.{floor_of}
use Rattle.proof_search.proofs.WholeScenes.Connectors.{all_prove}
use Rattle.proof_search.proofs.WholeScenes.Writable.{proofs_writable}
use Rattle.proof_search.proofs.scene.prove.Goals as goal
use Rattle.proof_search.proofs.scene.prove.Goals.{After-laws}

-- the arena stands for the scene's floor
stands : (c : After-laws) → StandsFor (floor_of c.args.scene.now) c.arena.result.now
stands c = subst (λ (f : Floor). StandsFor f c.arena.result.now) c.requires c.arena.ensures.stands

pub returns-clause-prove : goal.returns-clause-prove
returns-clause-prove c =
    all_prove c.args.scene.now c.arena.result.now c.valid.ensures c.laws.ensures.arena (stands (goal.at.returns-clause-prove c).After-laws)
    c.proofs_of.result c.proofs_of.ensures

pub returns-clause-writable : goal.returns-clause-writable
returns-clause-writable c =
    let s = c.args.scene.now in
    let a = c.arena.result.now in
    let on = stands (goal.at.returns-clause-writable c).After-laws in
    proofs_writable s a c.valid.ensures c.laws.ensures.arena on c.proofs_of.result
    (all_prove s a c.valid.ensures c.laws.ensures.arena on c.proofs_of.result c.proofs_of.ensures)
