-- Networks: the places of a bundle's items, with the multipliers of its rules and limits as a flow.
use Rattle.std.specs.Prelude.{◌≡◌, ◌≢◌, ℕ, ◌+◌, ◌<◌, ◌≤◌, ℤ, pos, neg_ℤ, ◌+ℤ◌, ◌-ℤ◌, ◌*ℤ◌, ◌≤ℤ◌, unsigned_abs, List, [], ◌∷◌, ◌++◌, map, length, All, EachIndex, Contains, slice_index, slice_index_or, if◌then◌else◌, Vec}
use Rattle.separation_model.specs.Arena.{Arena}
use Rattle.separation_model.specs.declared.bundle.Item.{Item}
use Rattle.separation_model.specs.declared.bundle.Rule.{Rule}
use Rattle.separation_model.specs.declared.bundle.Bundle.{Bundle}
use Rattle.separation_solve.specs.declared.fraction.Fraction.{Fraction}
use Rattle.separation_solve.specs.declared.network.Link.{Link}
use Rattle.separation_solve.specs.declared.network.Network.{Network}
use Rattle.separation_model.specs.Sum.{sum_below, sum_at}
use Rattle.plane_geom.specs.Point.{IsCoordinate}
use Rattle.separation_model.specs.Bundle.{asked, int_at, most_items}
use Rattle.separation_solve.specs.Reduced.{IsReduced, IsWithin}
use Rattle.separation_solve.specs.Fraction.{most_weight}

-- the value that is read past the last place: 0
abbrev pub no_place : Fraction
no_place = record { num = pos 0; den = 1 }

-- the place of the node
abbrev pub place_at : List Fraction → ℕ → Fraction
place_at places i = slice_index_or places i no_place

-- the value that is read past the last link: a link of the first node with itself
abbrev pub no_link : Link
no_link = record { from = 0; to = 0; gap = pos 0 }

-- the link at the index
abbrev pub link_at : List Link → ℕ → Link
link_at links j = slice_index_or links j no_link

-- the number of items
abbrev pub items_of : Network → ℕ
items_of n = length n.wants.items

-- the distance of the nodes is at least the gap
abbrev pub IsKept : List Fraction → Link → Type 0
IsKept places link =
    let a = place_at places link.from in
    let b = place_at places link.to in
    (link.gap *ℤ pos a.den *ℤ pos b.den) ≤ℤ ((b.num *ℤ pos a.den) -ℤ (a.num *ℤ pos b.den))

-- the distance of the nodes is exactly the gap, over one denominator
pub record IsTight (places : List Fraction) (link : Link) : Type 0 where
  pub den : (place_at places link.from).den ≡ (place_at places link.to).den
  pub apart : (place_at places link.to).num -ℤ (place_at places link.from).num ≡ link.gap *ℤ pos (place_at places link.from).den

-- the flow into the node, less the flow out of it
abbrev pub net_flow : List Link → List ℤ → ℕ → ℤ
net_flow links flow i = sum_at (λ l. l.to) i links flow -ℤ sum_at (λ l. l.from) i links flow

-- twice the weighted displacement of the item, over its denominator
abbrev pub force : Network → ℕ → ℤ
force n i =
    let place = place_at n.places.items i in
    pos 2 *ℤ pos (slice_index n.weights.items i) *ℤ (place.num -ℤ (pos place.den *ℤ int_at n.wants.items i))

-- the sum of the absolute values
abbrev pub total_size : List ℤ → ℤ
total_size zs = sum_below (length zs) (λ i. pos (unsigned_abs (int_at zs i)))

-- the sum of the numbers
abbrev pub total_flow : List ℤ → ℤ
total_flow zs = sum_below (length zs) (int_at zs)

-- the greatest sum of the forces of all items
abbrev pub most_force : ℕ
most_force = 92480000000000000000000000000

-- two different nodes below `nodes`, and a gap that is a coordinate
pub record IsLink (nodes : ℕ) (link : Link) : Type 0 where
  pub from : link.from < nodes
  pub to : link.to < nodes
  pub apart : link.from ≢ link.to
  pub gap : IsCoordinate link.gap

-- the index is in the lists of both nodes of its link
pub record IsListed (links : List Link) (lists : List (Vec ℕ Arena)) (j : ℕ) : Type 0 where
  pub at_from : (d : Vec ℕ Arena) → Contains (slice_index_or lists (link_at links j).from d).items j
  pub at_to : (d : Vec ℕ Arena) → Contains (slice_index_or lists (link_at links j).to d).items j

-- the index is that of a tight link
pub record IsTightAt (places : List Fraction) (links : List Link) (j : ℕ) : Type 0 where
  pub link : j < length links
  pub tight : IsTight places (link_at links j)

-- the tight links are in the lists of both their nodes, and no others are
pub record ListsTight (places : List Fraction) (links : List Link) (lists : List (Vec ℕ Arena)) : Type 0 where
  pub listed : (j : ℕ) → IsTightAt places links j → IsListed links lists j
  pub no_others : All (λ (v : Vec ℕ Arena). All (IsTightAt places links) v.items) lists

-- the item has an upper limit, a link to the wall, and a lower one, from the wall
pub record IsLimited (items : ℕ) (links : List Link) (i : ℕ) : Type 0 where
  pub upper : ℕ
  pub upper_within : upper < length links
  pub upper_from : (link_at links upper).from ≡ i
  pub upper_to : (link_at links upper).to ≡ items
  pub lower : ℕ
  pub lower_within : lower < length links
  pub lower_from : (link_at links lower).from ≡ items
  pub lower_to : (link_at links lower).to ≡ i

-- the parts of a network fit together
pub record IsFrame (n : Network) : Type 0 where
  pub few : items_of n ≤ most_items
  pub weights : length n.weights.items ≡ items_of n
  pub excess : length n.excess.items ≡ items_of n
  pub places : length n.places.items ≡ items_of n + 1
  pub lists : length n.tight.items ≡ items_of n + 1
  pub flow : length n.flow.items ≡ length n.links.items
  pub light : All (λ w. w ≤ 4) n.weights.items
  pub heavy : All (λ w. 1 ≤ w) n.weights.items
  pub wants : All IsCoordinate n.wants.items
  pub links : EachIndex n.links.items (λ j. IsLink (items_of n + 1) (link_at n.links.items j))
  pub limited : EachIndex n.wants.items (IsLimited (items_of n) n.links.items)

-- a fraction of the sheet in lowest terms, with a denominator that is not too large
pub record IsSpot (place : Fraction) : Type 0 where
  pub reduced : IsReduced place.num place.den
  pub light : place.den ≤ most_weight
  pub within : IsWithin 2000000000 place.num place.den

-- places of the nodes that keep all links
pub record AreKept (n : Network) : Type 0 where
  pub spots : EachIndex n.places.items (λ i. IsSpot (place_at n.places.items i))
  pub wall_num : (place_at n.places.items (items_of n)).num ≡ pos 0
  pub wall_den : (place_at n.places.items (items_of n)).den ≡ 1
  pub kept : EachIndex n.links.items (λ j. IsKept n.places.items (link_at n.links.items j))

-- a flow over tight links, the excess that it leaves to each item, and that it is not too large
pub record IsFlow (n : Network) : Type 0 where
  pub sign : EachIndex n.flow.items (λ j. pos 0 ≤ℤ int_at n.flow.items j)
  pub tight : EachIndex n.flow.items (λ j. int_at n.flow.items j ≢ pos 0 → IsTight n.places.items (link_at n.links.items j))
  pub excess : EachIndex n.excess.items (λ i. int_at n.excess.items i ≡ force n i -ℤ net_flow n.links.items n.flow.items i)
  pub small : total_size n.excess.items ≤ℤ pos most_force
  pub small_each : EachIndex n.flow.items (λ j. (int_at n.flow.items j +ℤ total_size n.excess.items) ≤ℤ pos most_force)
  pub small_all : (total_flow n.flow.items +ℤ (pos (items_of n) *ℤ total_size n.excess.items)) ≤ℤ (pos (items_of n) *ℤ pos most_force)

-- the invariant of a network between calls
pub record IsSound (n : Network) : Type 0 where
  pub frame : IsFrame n
  pub kept : AreKept n
  pub tight : ListsTight n.places.items n.links.items n.tight.items
  pub flow : IsFlow n

-- the link after left and right are exchanged
abbrev pub turned_link : Link → Link
turned_link link = record { from = link.to; to = link.from; gap = link.gap }

-- the place after left and right are exchanged
abbrev pub turned_place : Fraction → Fraction
turned_place place = record { num = neg_ℤ place.num; den = place.den }

-- the links, with left and right as in the bundle
abbrev pub upright_links : Network → List Link
upright_links n = if n.mirrored then map turned_link n.links.items else n.links.items

-- the wants, with left and right as in the bundle
abbrev pub upright_wants : Network → List ℤ
upright_wants n = if n.mirrored then map neg_ℤ n.wants.items else n.wants.items

-- the places, with left and right as in the bundle
abbrev pub upright_places : Network → List Fraction
upright_places n = if n.mirrored then map turned_place n.places.items else n.places.items

-- the bundle's data have not changed, nor which side is left
pub record KeepsBundle (old new : Network) : Type 0 where
  pub links : new.links ≡ old.links
  pub wants : new.wants ≡ old.wants
  pub weights : new.weights ≡ old.weights
  pub mirrored : new.mirrored ≡ old.mirrored

-- both are of the same items, rules and limits
pub record IsSameBundle (old new : Network) : Type 0 where
  pub links : upright_links new ≡ upright_links old
  pub wants : upright_wants new ≡ upright_wants old
  pub weights : new.weights.items ≡ old.weights.items

-- a rule as a link
abbrev pub rule_link : ℤ → Rule → Link
rule_link gap rule = record { from = rule.left; to = rule.right; gap = asked gap rule }

-- the lower limits of the items from the index on, as links
abbrev pub lower_links : ℕ → ℕ → List Item → List Link
lower_links wall i [] = []
lower_links wall i (item ∷ items) = record { from = wall; to = i; gap = item.lo } ∷ lower_links wall (i + 1) items

-- the upper limits of the items from the index on, as links
abbrev pub upper_links : ℕ → ℕ → List Item → List Link
upper_links wall i [] = []
upper_links wall i (item ∷ items) = record { from = i; to = wall; gap = neg_ℤ item.hi } ∷ upper_links wall (i + 1) items

-- the rules, the lower limits and the upper limits as links
abbrev pub links_of : Bundle → ℤ → List Link
links_of b gap =
    let wall = length b.items.items in
    (map (rule_link gap) b.rules.items ++ lower_links wall 0 b.items.items) ++ upper_links wall 0 b.items.items

-- the network is of the bundle, with the gap
pub record IsNetworkOf (b : Bundle) (gap : ℤ) (n : Network) : Type 0 where
  pub links : upright_links n ≡ links_of b gap
  pub wants : upright_wants n ≡ map (λ (item : Item). item.want) b.items.items
  pub weights : n.weights.items ≡ map (λ (item : Item). item.weight) b.items.items
