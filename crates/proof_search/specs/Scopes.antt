-- What a search labels walks with, and which claim its labels are for. No public clause cites this module.
use Rattle.std.specs.Prelude.{ℕ, List, [], nat_lt, if◌then◌else◌, Option, Some, None}
use Rattle.plane_geom.specs.declared.floor.Floor.{Floor}
use Rattle.walk_model.specs.declared.task.Task.{Task}
use Rattle.proof_model.specs.declared.proof.Claim.{Claim}
use Rattle.proof_model.specs.declared.proof.Claim.TheVariants.{Cost, Cut}
use Rattle.proof_model.specs.LeastLabels.{Comes, Step}
use Rattle.proof_model.specs.Places.{Place}
use Rattle.proof_search.specs.declared.scope.Scope.{Scope}
use Rattle.proof_search.specs.declared.scope.Scope.TheVariants.{Below, Every}

-- the label that a walk of this cost gives to the place that it reaches, if it gives one
abbrev pub label_for : Scope → ℕ → Option ℕ
label_for (Below most) cost = if nat_lt cost most then Some cost else None
label_for Every cost = Some 0

-- labels are below this
abbrev pub most_of : Scope → ℕ
most_of (Below most) = most
most_of Every = 1

-- the claim that the labels are for, without its line
abbrev pub claim_of : Scope → Claim
claim_of (Below most) = Cost most []
claim_of Every = Cut

-- a walk reaches the place at this cost; where all walks are labelled alike, at any cost
abbrev pub ComesBy : Scope → Floor → Task → Place → ℕ → Type 0
ComesBy (Below most) floor task x cost = (steps : List Step) × Comes floor task steps x cost
ComesBy Every floor task x cost = (steps : List Step) × (n : ℕ) × Comes floor task steps x n
