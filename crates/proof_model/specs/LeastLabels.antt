-- The least labels: the label of a place is the cost of a cheapest walk that reaches it.
use Rattle.std.specs.Prelude.{ℕ, ◌≡◌, ◌+◌, ◌<◌, List, [], ◌∷◌, All, AllPairs, Some, IsSome, IsTrue}
use Rattle.plane_geom.specs.declared.point.Dir.{Dir}
use Rattle.plane_geom.specs.declared.rect.Solid.{Solid}
use Rattle.plane_geom.specs.declared.floor.Floor.{Floor}
use Rattle.walk_model.specs.declared.route.Route.{Route}
use Rattle.walk_model.specs.declared.task.Task.{Task}
use Rattle.walk_model.specs.Order.{HasNoWalk, IsFirst, IsRouteOf, Triple}
use Rattle.scene_model.specs.declared.edge.Edge.{Edge}
use Rattle.scene_model.specs.Scene.{Scene}
use Rattle.scene_model.specs.Routing.{floor_of, solids, task_of}
use Rattle.proof_model.specs.declared.proof.Claim.{Claim}
use Rattle.proof_model.specs.declared.proof.Claim.TheVariants.{Cost, Cut}
use Rattle.proof_model.specs.declared.proof.LabelRow.{LabelRow}
use Rattle.proof_model.specs.declared.proof.Proof.{Proof}
use Rattle.proof_model.specs.Labels.{is_before, label_in, label_of}
use Rattle.proof_model.specs.Places.{Place, IsEntry, IsMove}
use Rattle.proof_model.specs.Rules.{IsFound}

-- a move of a walk: the place that it leaves, and what it costs
pub record Step : Type 0 where
  pub from : Place
  pub cost : ℕ

-- a walk that enters and makes these moves, listed from the last to the first, reaches the place at this cost
abbrev pub Comes : Floor → Task → List Step → Place → ℕ → Type 0
Comes floor task [] x cost = IsEntry floor task x cost
Comes floor task (s ∷ ss) x cost =
    (before : ℕ) × Comes floor task ss s.from before × IsMove floor task s.from s.cost x × (cost ≡ before + s.cost)

-- some walk reaches the place at the label's cost, below the claimed one; for a cut, at some cost, and the label is 0
abbrev pub IsLabelReached : Floor → Task → Claim → Place → ℕ → Type 0
IsLabelReached floor task (Cost most points) x label = (label < most) × (steps : List Step) × Comes floor task steps x label
IsLabelReached floor task Cut x label = (label ≡ 0) × (steps : List Step) × (cost : ℕ) × Comes floor task steps x cost

-- the rows rise, each has a label, each label is reached, and no walk reaches a place for less than its label
pub record AreLeastLabels (floor : Floor) (task : Task) (claim : Claim) (rows : List LabelRow) : Type 0 where
  pub rise : AllPairs (λ a b. IsTrue (is_before a b)) rows
  pub some : All (λ r. (h : Dir) × IsSome (label_in r h)) rows
  pub reached : (x : Place) (label : ℕ) → label_of rows x ≡ Some label → IsLabelReached floor task claim x label
  pub least : (x : Place) (steps : List Step) (cost : ℕ) → Comes floor task steps x cost → IsFound claim rows x cost

-- the claim is the cost and the points of the first walk's route, or a cut where no walk is legal
abbrev pub IsRightClaim : List Solid → Task → Claim → Type 0
IsRightClaim solids task (Cost cost points) =
    (t : Triple) × (r : Route) × IsFirst solids task t × IsRouteOf task r t × (r.cost ≡ cost) × (r.points ≡ points)
IsRightClaim solids task Cut = HasNoWalk solids task

-- the proof has the connector's number, the right claim and the least labels: there is one for each connector
pub record IsLeastProof (s : Scene) (e : Edge) (p : Proof) : Type 0 where
  pub edge : p.edge ≡ e.number
  pub claim : IsRightClaim (solids s) (task_of s e) p.claim
  pub labels : AreLeastLabels (floor_of s) (task_of s e) p.claim p.rows
