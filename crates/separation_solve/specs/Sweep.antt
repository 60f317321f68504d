-- What a sweep may send. No public clause cites this module.
use Rattle.std.specs.Prelude.{◌≡◌, ℕ, ◌<◌, ℤ, pos, ◌+ℤ◌, ◌≤ℤ◌}
use Rattle.separation_solve.specs.declared.network.Network.{Network}
use Rattle.separation_solve.specs.Network.{IsTightAt, link_at, most_force, total_flow, total_size}

-- all flow and all excess together
abbrev pub load : Network → ℤ
load n = total_flow n.flow.items +ℤ total_size n.excess.items

-- the load may grow by this much, if by anything
abbrev pub IsBudget : Network → ℕ → Type 0
IsBudget n left = 0 < left → (load n +ℤ pos left) ≤ℤ pos most_force

-- the index is that of a tight link that leads on from the item
pub record LeadsOn (n : Network) (item j : ℕ) : Type 0 where
  pub tight : IsTightAt n.places.items n.links.items j
  pub from : (link_at n.links.items j).from ≡ item
