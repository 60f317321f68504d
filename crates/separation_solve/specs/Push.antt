-- Flow that is sent along a way. No public clause cites this module.
use Rattle.std.specs.Prelude.{◌≡◌, ◌≢◌, ℕ, ℤ, pos, ◌+ℤ◌, ◌*ℤ◌, ◌≤ℤ◌, List, length, EachIndex}
use Rattle.separation_solve.specs.declared.network.Network.{Network}
use Rattle.separation_solve.specs.declared.reach.Reach.{Reach}
use Rattle.separation_model.specs.Sum.{here}
use Rattle.separation_model.specs.Bundle.{int_at}
use Rattle.separation_solve.specs.Network.{IsTight, items_of, link_at, net_flow, total_flow}
use Rattle.separation_solve.specs.Reach.{step_at}

-- the flow is the network's, with the amount sent from the step at `at` to the target
pub record IsSent (n : Network) (r : Reach) (target at : ℕ) (amount : ℤ) (flow : List ℤ) : Type 0 where
  pub links : length flow ≡ length n.flow.items
  pub sign : EachIndex flow (λ j. pos 0 ≤ℤ int_at flow j)
  pub tight : EachIndex flow (λ j. int_at flow j ≢ pos 0 → IsTight n.places.items (link_at n.links.items j))
  pub most : EachIndex flow (λ j. int_at flow j ≤ℤ (int_at n.flow.items j +ℤ amount))
  pub net : (i : ℕ) → (net_flow n.links.items flow i +ℤ here (step_at r.steps.items at).node i amount)
      ≡ net_flow n.links.items n.flow.items i +ℤ here (step_at r.steps.items target).node i amount
  pub total : (total_flow flow +ℤ (pos at *ℤ amount)) ≤ℤ (total_flow n.flow.items +ℤ (pos target *ℤ amount))

-- only the flow has changed
pub record KeepsRest (old new : Network) : Type 0 where
  pub links : new.links ≡ old.links
  pub tight : new.tight ≡ old.tight
  pub wants : new.wants ≡ old.wants
  pub weights : new.weights ≡ old.weights
  pub places : new.places ≡ old.places
  pub mirrored : new.mirrored ≡ old.mirrored
  pub excess : new.excess ≡ old.excess

-- the node is the wall, or has at least this excess
abbrev pub TakesAmount : Network → ℕ → ℤ → Type 0
TakesAmount n i amount = i ≢ items_of n → amount ≤ℤ int_at n.excess.items i
