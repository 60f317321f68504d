-- Separations, joins and links.
use Rattle.std.specs.Prelude.{◌≡◌, ℕ, suc, ◌+◌, ◌<◌, ◌≤◌, ◌==◌, ℤ, pos, ◌+ℤ◌, ◌≤ℤ◌, int_lt, Bool, true, false, Option, Some, None, IsSome, List, [], ◌∷◌, ◌++◌, length, slice_index_or, if◌then◌else◌}
use Rattle.std.specs.Int.{int_min, int_max}
use Rattle.plane_geom.specs.declared.point.Dir.TheVariants.{East}
use Rattle.segment_order.specs.declared.run.Run.{Run}
use Rattle.segment_order.specs.Run.{no_run}
use Rattle.separation_model.specs.declared.bundle.Item.{Item}
use Rattle.separation_model.specs.declared.bundle.Rule.{Rule}
use Rattle.separation_model.specs.Bundle.{IsItem}
use Rattle.channel_bundles.specs.declared.member.Member.{Member}

-- the ranges of two runs share more than a point
abbrev pub overlap : Run → Run → Bool
overlap r s = int_lt (int_max r.lo s.lo) (int_min r.hi s.hi)

-- between two runs of a route there is one other; it is across them, since beside a doubling back both are fixed
abbrev pub is_second_next : Run → Run → Bool
is_second_next r s = if r.place + 2 == s.place then true else s.place + 2 == r.place

-- what two runs of a phase that are not both fixed require of each other: a separation (true), a join (false) or nothing
abbrev pub asks_movable : Run → Run → Option Bool
asks_movable r s =
    if r.edge == s.edge
    then (if is_second_next r s then Some false else None)
    else (if overlap r s then Some true else None)

-- the same for any two runs
abbrev pub asks : Member → Member → Option Bool
asks a b =
    if a.fixed then (if b.fixed then None else asks_movable a.run b.run) else asks_movable a.run b.run

-- the limits alone do not keep the two apart as they require
abbrev pub presses : ℤ → Member → Member → Bool → Bool
presses nudge a b spaced = int_lt b.low (if spaced then a.high +ℤ nudge else a.high)

-- the rule, if one is required and it presses
abbrev pub linked : ℤ → Member → Member → Option Bool → Option Bool
linked nudge a b None = None
linked nudge a b (Some spaced) = if presses nudge a b spaced then Some spaced else None

-- the rule that links the two, if there is one: true if it is spaced
abbrev pub link : ℤ → Member → Member → Option Bool
link nudge a b = linked nudge a b (asks a b)

-- the rule from the item i to the item j
abbrev pub rule_if : ℕ → ℕ → Option Bool → List Rule
rule_if i j None = []
rule_if i j (Some spaced) = record { left = i; right = j; spaced = spaced } ∷ []

-- the rules from the item i to those from j on
abbrev pub rules_from : ℤ → ℕ → Member → ℕ → List Member → List Rule
rules_from nudge i m j [] = []
rules_from nudge i m j (s ∷ rest) = rule_if i j (link nudge m s) ++ rules_from nudge i m (suc j) rest

-- the rules among the items from i on, by their left items and then by their right ones
abbrev pub rules_after : ℤ → ℕ → List Member → List Rule
rules_after nudge i [] = []
rules_after nudge i (m ∷ rest) = rules_from nudge i m (suc i) rest ++ rules_after nudge (suc i) rest

-- the value that is read past the last run
abbrev pub no_member : Member
no_member = record { run = record no_run { heading = East }; fixed = false; low = pos 0; high = pos 0; weight = 0 }

-- the run at the place, counted from 0
abbrev pub member_at : List Member → ℕ → Member
member_at members i = slice_index_or members i no_member

-- a link leads from the run at place i to the later one at place j
pub record IsLink (nudge : ℤ) (members : List Member) (i j : ℕ) : Type 0 where
  pub forward : i < j
  pub within : j < length members
  pub linked : IsSome (link nudge (member_at members i) (member_at members j))

-- the run as an item, wanted at its present coordinate
abbrev pub item_of : Member → Item
item_of m = record { want = m.run.at; lo = m.low; hi = m.high; weight = m.weight }

-- the runs are accepted as items
abbrev pub IsMember : Member → Type 0
IsMember m = IsItem (item_of m)

-- the wanted nudge is from 0 to 10^6
pub record IsNudge (nudge : ℤ) : Type 0 where
  pub low : pos 0 ≤ℤ nudge
  pub high : nudge ≤ℤ pos 1000000

-- the value at each place is a lower bound of the lower limits of the runs from that place on
pub record AreClear (members : List Member) (clear : List ℤ) : Type 0 where
  pub count : length clear ≡ length members
  pub least : (j k : ℕ) → j < length members → j ≤ k → k < length members → slice_index_or clear j (pos 0) ≤ℤ (member_at members k).low
