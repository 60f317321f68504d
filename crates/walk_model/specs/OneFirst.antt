-- The properties of the order of walks.
use Rattle.std.specs.Prelude.{◌≡◌, ◌≢◌, ◌⊎◌, ◌↔◌, List}
use Rattle.plane_geom.specs.declared.rect.Solid.{Solid}
use Rattle.walk_model.specs.declared.task.Task.{Task}
use Rattle.walk_model.specs.Order.{Triple, IsLegalTriple, IsBefore, IsFirst, HasNoWalk, triple_cost}
use Rattle.walk_model.specs.Legal.{cost_with}

-- the order is total on the legal walks, and there is a first one if there is any
pub record HasOneFirst (solids : List Solid) (task : Task) : Type 0 where
  pub total : (a b : Triple) → IsLegalTriple solids task a → IsLegalTriple solids task b → a ≢ b → IsBefore task a b ⊎ IsBefore task b a
  pub one_way : (a b : Triple) → IsBefore task a b → IsBefore task b a → ⊥
  pub transitive : (a b c : Triple) → IsBefore task a b → IsBefore task b c → IsBefore task a c
  pub some : (t : Triple) → IsLegalTriple solids task t → (first : Triple) × IsFirst solids task first
  pub one : (a b : Triple) → IsFirst solids task a → IsFirst solids task b → a ≡ b
  pub cost : (t : Triple) (l : IsLegalTriple solids task t) → triple_cost task t ≡ cost_with task.penalty l.start t.walk l.end
  pub none : HasNoWalk solids task ↔ ((t : Triple) → IsFirst solids task t → ⊥)
