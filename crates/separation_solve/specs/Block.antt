-- Blocks: the nodes that were reached, which move together.
use Rattle.std.specs.Prelude.{◌≡◌, ℕ, zero, suc, ◌*◌, ◌/◌, ◌<◌, ◌≤◌, Bool, true, false, ℤ, pos, ◌+ℤ◌, ◌-ℤ◌, ◌*ℤ◌, ◌<ℤ◌, List, length, is_some, unwrap_or, Option, Some, option_map, slice_index, if◌then◌else◌}
use Rattle.separation_solve.specs.declared.fraction.Fraction.{Fraction}
use Rattle.separation_solve.specs.declared.network.Link.{Link}
use Rattle.separation_solve.specs.declared.network.Network.{Network}
use Rattle.separation_solve.specs.declared.reach.Reach.{Reach}
use Rattle.separation_model.specs.Sum.{sum_below}
use Rattle.separation_model.specs.Bundle.{int_at}
use Rattle.separation_model.specs.Least.{square}
use Rattle.separation_solve.specs.Reduced.{IsReduced, IsWithin}
use Rattle.separation_solve.specs.Fraction.{IsNotBeyond, most_weight}
use Rattle.separation_solve.specs.Network.{items_of, place_at}
use Rattle.separation_solve.specs.Reach.{found_at, step_at}

-- the index of each node's step is one of the steps
abbrev pub IsFound : Reach → Type 0
IsFound r = (i k : ℕ) → found_at r.found.items i ≡ Some k → k < length r.steps.items

-- the distance from the start to the node, if it was reached
abbrev pub offset_of : Reach → ℕ → Option ℤ
offset_of r node = option_map (λ step. (step_at r.steps.items step).offset) (found_at r.found.items node)

-- whether the node was reached
abbrev pub is_member : Reach → ℕ → Bool
is_member r node = is_some (offset_of r node)

-- the offset of a member
abbrev pub member_offset : Reach → ℕ → ℤ
member_offset r node = unwrap_or (offset_of r node) (pos 0)

-- the item's weight if it is a member, otherwise 0
abbrev pub member_weight : Network → Reach → ℕ → ℤ
member_weight n r i = if is_member r i then pos (slice_index n.weights.items i) else pos 0

-- how far right of its want the item is when the start is at 0
abbrev pub ahead_of_want : Network → Reach → ℕ → ℤ
ahead_of_want n r i = member_offset r i -ℤ int_at n.wants.items i

-- the sum of the weights of the members among the first items
abbrev pub block_weight : Network → Reach → ℕ → ℤ
block_weight n r items = sum_below items (member_weight n r)

-- how far right of their wants they are together, weighted, when the start is at 0
abbrev pub block_moment : Network → Reach → ℕ → ℤ
block_moment n r items = sum_below items (λ i. member_weight n r i *ℤ ahead_of_want n r i)

-- a place to the right of the start's, in lowest terms, that is not too far and whose denominator is not too large
pub record IsAim (n : Network) (start : ℕ) (place : Fraction) : Type 0 where
  pub reduced : IsReduced place.num place.den
  pub within : IsWithin 10000000000 place.num place.den
  pub den : place.den ≤ most_weight
  pub ahead : ((place_at n.places.items start).num *ℤ pos place.den) <ℤ (place.num *ℤ pos (place_at n.places.items start).den)

-- the link leads from a member to a node outside
abbrev pub LeadsOut : Reach → Link → Type 0
LeadsOut r link = (is_member r link.from ≡ true) × (is_member r link.to ≡ false)

-- the place of the start at which the link is tight
abbrev pub contact_of : Network → Reach → Link → Fraction
contact_of n r link =
    let to = place_at n.places.items link.to in
    record { num = to.num -ℤ ((link.gap +ℤ member_offset r link.from) *ℤ pos to.den); den = to.den }

-- with the start at the place, a link that leads out is kept
abbrev pub StaysKept : Network → Reach → Fraction → Link → Type 0
StaysKept n r place link = LeadsOut r link → IsNotBeyond place (contact_of n r link)

-- the link leads out, and the place is an aim at which it is tight
pub record IsContact (n : Network) (start : ℕ) (r : Reach) (link : Link) (place : Fraction) : Type 0 where
  pub out : LeadsOut r link
  pub is : place ≡ contact_of n r link
  pub aim : IsAim n start place

-- the members among the first items are as far from the place as they are from the start, and all others are where they were
pub record PlacesBlock (old : List Fraction) (items : ℕ) (r : Reach) (place : Fraction) (new : List Fraction) : Type 0 where
  pub count : length new ≡ length old
  pub members : (i : ℕ) → i < items → is_member r i ≡ true → place_at new i ≡ record { num = place.num +ℤ (member_offset r i *ℤ pos place.den); den = place.den }
  pub others : (i : ℕ) → i < items → is_member r i ≡ false → place_at new i ≡ place_at old i
  pub beyond : (i : ℕ) → items ≤ i → place_at new i ≡ place_at old i

-- only places have changed
pub record ChangesPlaces (old new : Network) : Type 0 where
  pub links : new.links ≡ old.links
  pub tight : new.tight ≡ old.tight
  pub wants : new.wants ≡ old.wants
  pub weights : new.weights ≡ old.weights
  pub mirrored : new.mirrored ≡ old.mirrored
  pub flow : new.flow ≡ old.flow
  pub excess : new.excess ≡ old.excess

-- 1 · 2 · .. · n
unfoldable pub factorial : ℕ → ℕ
factorial zero = 1
factorial (suc n) = suc n * factorial n

-- the square of an item's displacement over a common denominator, with its weight
abbrev pub squared : ℕ → ℕ → ℤ → Fraction → ℤ
squared common weight want place = pos weight *ℤ square (pos (common / place.den) *ℤ (place.num -ℤ (pos place.den *ℤ want)))

-- the weighted sum of squared displacements, over the square of a multiple of all denominators
abbrev pub objective : Network → ℤ
objective n = sum_below (items_of n) (λ i. squared (factorial most_weight) (slice_index n.weights.items i) (int_at n.wants.items i) (place_at n.places.items i))
