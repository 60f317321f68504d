-- What is searched and claimed for the answer of a task.
use Rattle.std.specs.Prelude.{List, Option, Some, None}
use Rattle.plane_geom.specs.declared.floor.Floor.{Floor}
use Rattle.plane_geom.specs.declared.rect.Solid.{Solid}
use Rattle.line_arena.specs.Arena.{Arena}
use Rattle.move_model.specs.Problems.{IsProblem}
use Rattle.walk_model.specs.declared.route.Route.{Route}
use Rattle.walk_model.specs.declared.task.Task.{Task}
use Rattle.proof_model.specs.declared.proof.Claim.{Claim}
use Rattle.proof_model.specs.declared.proof.Claim.TheVariants.{Cost, Cut}
use Rattle.proof_model.specs.declared.proof.LabelRow.{LabelRow}
use Rattle.proof_model.specs.declared.proof.Proof.{Proof}
use Rattle.proof_model.specs.LeastLabels.{AreLeastLabels, IsRightClaim}
use Rattle.proof_search.specs.declared.prover.Prover.{Prover}
use Rattle.proof_search.specs.declared.scope.Scope.{Scope}
use Rattle.proof_search.specs.declared.scope.Scope.TheVariants.{Below, Every}
use Rattle.proof_search.specs.Spots.{AreSpots}

-- below the cost of the route, all walks are labelled; where there is no route, all are
abbrev pub scope_for : Option Route → Scope
scope_for (Some r) = Below r.cost
scope_for None = Every

-- what the answer claims
abbrev pub claim_for : Option Route → Claim
claim_for (Some r) = Cost r.cost r.points
claim_for None = Cut

-- on each floor of the task for which the arena stands, these are the least labels
abbrev pub AreLeastOn : Arena → List Solid → Task → Claim → List LabelRow → Type 0
AreLeastOn a solids task claim rows = (floor : Floor) → IsProblem floor a solids task → AreLeastLabels floor task claim rows

-- the proof has the right claim of the task, and the least labels
pub record IsLeastFor (a : Arena) (solids : List Solid) (task : Task) (p : Proof) : Type 0 where
  pub claim : IsRightClaim solids task p.claim
  pub labels : AreLeastOn a solids task p.claim p.rows

-- a prover has the crossings of its arena
abbrev pub HasSpots : Prover → Type 0
HasSpots p = AreSpots p.finder.arena.now p.spots.items
