-- When a claim is true: over all legal walks, without a word of labels.
use Rattle.std.specs.Prelude.{ℕ, ◌≡◌, ◌≤◌, List}
use Rattle.plane_geom.specs.declared.point.Point.{Point}
use Rattle.plane_geom.specs.declared.rect.Solid.{Solid}
use Rattle.walk_model.specs.declared.task.Task.{Task}
use Rattle.walk_model.specs.Line.{Draws}
use Rattle.walk_model.specs.Order.{HasNoWalk, IsLegalTriple, Triple, triple_cost}
use Rattle.proof_model.specs.declared.proof.Claim.{Claim}
use Rattle.proof_model.specs.declared.proof.Claim.TheVariants.{Cost, Cut}

-- the line draws a legal walk of this cost, and no legal walk costs less
pub record IsLeastClaim (solids : List Solid) (task : Task) (points : List Point) (cost : ℕ) : Type 0 where
  pub walk : Triple
  pub legal : IsLegalTriple solids task walk
  pub draws : Draws points walk.walk
  pub reached : triple_cost task walk ≡ cost
  pub least : (other : Triple) → IsLegalTriple solids task other → cost ≤ triple_cost task other

-- the line draws a legal walk of the claimed cost and none costs less; or, for a cut, no walk is legal
abbrev pub IsTrueClaim : List Solid → Task → Claim → Type 0
IsTrueClaim solids task (Cost cost points) = IsLeastClaim solids task points cost
IsTrueClaim solids task Cut = HasNoWalk solids task
