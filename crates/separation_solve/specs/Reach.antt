-- Searches for a way on which flow can go.
use Rattle.std.specs.Prelude.{◌≡◌, ◌⊎◌, ℕ, ◌+◌, ◌<◌, ◌≤◌, ℤ, pos, negsuc, neg_ℤ, ◌+ℤ◌, ◌*ℤ◌, ◌≤ℤ◌, ◌<ℤ◌, List, length, EachIndex, slice_index_or, Option, Some, None, IsSome, is_none, MatchOption, sum_by, if◌then◌else◌}
use Rattle.separation_solve.specs.declared.fraction.Fraction.{Fraction}
use Rattle.separation_solve.specs.declared.network.Network.{Network}
use Rattle.separation_solve.specs.declared.reach.Step.{Step}
use Rattle.separation_solve.specs.declared.reach.Reach.{Reach}
use Rattle.separation_model.specs.Bundle.{int_at}
use Rattle.separation_solve.specs.Network.{IsTight, items_of, link_at, place_at}

-- the value that is read past the last step: a step at the first node
abbrev pub no_step : Step
no_step = record { node = 0; via = None; offset = pos 0; capacity = pos 0 }

-- the step at the index
abbrev pub step_at : List Step → ℕ → Step
step_at steps k = slice_index_or steps k no_step

-- the node's step; past the last node, none
abbrev pub found_at : List (Option ℕ) → ℕ → Option ℕ
found_at found i = slice_index_or found i None

-- flow can go from the first node to the second over the link
abbrev pub IsLead : Network → ℕ → ℕ → ℕ → Type 0
IsLead n j a b =
    let link = link_at n.links.items j in
    ((link.from ≡ a) × (link.to ≡ b) × IsTight n.places.items link)
    ⊎ ((link.to ≡ a) × (link.from ≡ b) × (pos 0 <ℤ int_at n.flow.items j))

-- flow can go over the link from the first step to the next: at most the first step's capacity, and against the link at most its flow
pub record IsAfter (n : Network) (j : ℕ) (step next : Step) : Type 0 where
  pub link : j < length n.links.items
  pub lead : IsLead n j step.node next.node
  pub less : next.capacity ≤ℤ step.capacity
  pub back : (link_at n.links.items j).from ≡ next.node → next.capacity ≤ℤ int_at n.flow.items j

-- the second place is at this offset to the right of the first one, over its denominator
pub record StandsAt (offset : ℤ) (first second : Fraction) : Type 0 where
  pub num : second.num ≡ first.num +ℤ (offset *ℤ pos first.den)
  pub den : second.den ≡ first.den

-- a step is at its offset, and flow can go there
pub record IsStep (n : Network) (start : ℕ) (step : Step) : Type 0 where
  pub node : step.node ≤ items_of n
  pub stands : StandsAt step.offset (place_at n.places.items start) (place_at n.places.items step.node)
  pub low : negsuc 3999999999 ≤ℤ step.offset
  pub high : step.offset ≤ℤ pos 4000000000
  pub some : pos 0 <ℤ step.capacity
  pub most : step.capacity ≤ℤ neg_ℤ (int_at n.excess.items start)

-- how the step at the index was reached
abbrev pub IsComeBy : Network → List Step → ℕ → Type 0
IsComeBy n steps k = MatchOption (step_at steps k).via (k ≡ 0)
    (λ via. (via.parent < k) × IsAfter n via.link (step_at steps via.parent) (step_at steps k))

-- 1 for a node that was not reached, otherwise 0
abbrev pub not_found : Option ℕ → ℕ
not_found found = if is_none found then 1 else 0

-- steps to which flow can go from the start, an item that is pulled to the right, each node once
pub record IsReach (n : Network) (start : ℕ) (r : Reach) : Type 0 where
  pub nodes : length r.found.items ≡ items_of n + 1
  pub start_item : start < items_of n
  pub start_short : int_at n.excess.items start <ℤ pos 0
  pub some : 0 < length r.steps.items
  pub first : (step_at r.steps.items 0).node ≡ start
  pub steps : EachIndex r.steps.items (λ k. IsStep n start (step_at r.steps.items k))
  pub come_by : EachIndex r.steps.items (IsComeBy n r.steps.items)
  pub once : EachIndex r.steps.items (λ k. found_at r.found.items (step_at r.steps.items k).node ≡ Some k)
  pub found : (i k : ℕ) → found_at r.found.items i ≡ Some k → (k < length r.steps.items) × ((step_at r.steps.items k).node ≡ i)
  pub count : length r.steps.items + sum_by not_found r.found.items ≡ length r.found.items

-- the step that the table gives a node, if any, is one of the steps and is at the node
pub record IsTable (count : ℕ) (r : Reach) : Type 0 where
  pub nodes : length r.found.items ≡ count
  pub steps : EachIndex r.steps.items (λ k. (step_at r.steps.items k).node < count)
  pub found : (i k : ℕ) → found_at r.found.items i ≡ Some k → (k < length r.steps.items) × ((step_at r.steps.items k).node ≡ i)

-- the node of the first step
abbrev pub start_of : Reach → ℕ
start_of r = (step_at r.steps.items 0).node

-- a step that follows one of those already there
pub record IsFollowing (n : Network) (r : Reach) (step : Step) : Type 0 where
  pub is_step : IsStep n (start_of r) step
  pub come_by : MatchOption step.via ⊥ (λ via. (via.parent < length r.steps.items) × IsAfter n via.link (step_at r.steps.items via.parent) step)

-- a step over the link satisfies the invariant of steps, if the one before it does
pub record IsLedTo (n : Network) (j parent : ℕ) (step next : Step) : Type 0 where
  pub via : next.via ≡ Some (record { parent = parent; link = j })
  pub after : IsAfter n j step next
  pub is_step : (start : ℕ) → IsStep n start step → IsStep n start next

-- the earlier steps stay, and so do the nodes that they found
pub record KeepsSteps (old new : Reach) : Type 0 where
  pub fewer : length old.steps.items ≤ length new.steps.items
  pub steps : EachIndex old.steps.items (λ k. step_at new.steps.items k ≡ step_at old.steps.items k)
  pub found : (i k : ℕ) → found_at old.found.items i ≡ Some k → found_at new.found.items i ≡ Some k

-- every node to which flow can go from this one is among the steps
abbrev pub AddsLeads : Network → ℕ → Reach → Type 0
AddsLeads n a r = (j b : ℕ) → j < length n.links.items → IsLead n j a b → IsSome (found_at r.found.items b)

-- flow can go nowhere from the node over the link
abbrev pub IsNoLead : Network → ℕ → ℕ → Type 0
IsNoLead n j a = (b : ℕ) → ¬ IsLead n j a b

-- the wall, or an item with an excess
abbrev pub TakesFlow : Network → ℕ → Type 0
TakesFlow n i = (i ≡ items_of n) ⊎ (pos 0 <ℤ int_at n.excess.items i)

-- nodes that are free to move to the right, and are pulled there
pub record IsBlock (n : Network) (start : ℕ) (r : Reach) : Type 0 where
  pub reach : IsReach n start r
  pub closed : (j a b k : ℕ) → j < length n.links.items → IsLead n j a b → found_at r.found.items a ≡ Some k → IsSome (found_at r.found.items b)
  pub none_takes : (i k : ℕ) → found_at r.found.items i ≡ Some k → ¬ TakesFlow n i

-- a way to a node that takes flow
pub record IsWay (n : Network) (start : ℕ) (r : Reach) (k : ℕ) : Type 0 where
  pub reach : IsReach n start r
  pub target : k < length r.steps.items
  pub takes : TakesFlow n (step_at r.steps.items k).node
