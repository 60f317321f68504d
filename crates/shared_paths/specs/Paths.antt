-- The paths that two routes share, their ends and their side.
use Rattle.std.specs.Prelude.{◌≡◌, ◌≢◌, Bool, true, false, List, [], ◌∷◌, All, Option, None, Some}
use Rattle.std.specs.declared.cmp.Ordering.{Ordering}
use Rattle.std.specs.declared.cmp.Ordering.TheVariants.{Less, Equal, Greater}
use Rattle.segment_order.specs.declared.run.Run.{Run}
use Rattle.segment_order.specs.declared.side.Side.{Side}
use Rattle.segment_order.specs.declared.side.Side.TheVariants.{Left, Right}
use Rattle.segment_order.specs.Side.{near_side}
use Rattle.segment_order.specs.Ray.{entry_cmp}
use Rattle.shared_paths.specs.declared.path.End.{End}
use Rattle.shared_paths.specs.declared.path.End.TheVariants.{Tie, Parts}
use Rattle.shared_paths.specs.Pairs.{Pair, IsPair, GoesOn, first_entry, next_pair, outward}

-- each pair goes on to the next, ahead along the first route, and the last one to none
abbrev pub RunOn : List Run → List Run → Pair → List Pair → Type 0
RunOn a b p [] = GoesOn a b true p → ⊥
RunOn a b p (q ∷ ps) = GoesOn a b true p × (q ≡ next_pair a b true p) × RunOn a b q ps

-- the path from the pair through the others: it is as long as it may be, to both ends
pub record IsShared (a b : List Run) (first : Pair) (others : List Pair) : Type 0 where
  pub first_is : IsPair a b first
  pub pairs : All (IsPair a b) others
  pub runs_on : RunOn a b first others
  pub begins : (p : Pair) → IsPair a b p → GoesOn a b true p → next_pair a b true p ≢ first

-- the last of the pairs
abbrev pub last_of : Pair → List Pair → Pair
last_of p [] = p
last_of p (q ∷ ps) = last_of q ps

-- the other hand
abbrev pub other_side : Side → Side
other_side Left = Right
other_side Right = Left

-- a hand of one who leaves the path, as a hand of one who goes ahead
abbrev pub seen_ahead : Bool → Side → Side
seen_ahead true side = side
seen_ahead false side = other_side side

-- an end by the order of the two routes there: the one that stands before the other is on the near hand
abbrev pub end_by : Ordering → Bool → Side → End
end_by Less ahead near = Parts (seen_ahead ahead near)
end_by Equal ahead near = Tie
end_by Greater ahead near = Parts (seen_ahead ahead (other_side near))

-- the end of a path at the pair, ahead or back
abbrev pub end_at : List Run → List Run → Bool → Pair → End
end_at a b ahead p = end_by (entry_cmp (first_entry a p.a (outward a ahead p)) (first_entry b p.b (outward a ahead p))) ahead (near_side (outward a ahead p))

-- the hand on which both ends of a path are, if they are on one
abbrev pub agreed : Side → Side → Option Side
agreed Left Left = Some Left
agreed Right Right = Some Right
agreed _ _ = None

abbrev pub side_of : End → End → Option Side
side_of Tie Tie = None
side_of (Parts side) Tie = Some side
side_of Tie (Parts side) = Some side
side_of (Parts side) (Parts other) = agreed side other

-- the side of the path from the pair through the others
abbrev pub side_along : List Run → List Run → Pair → List Pair → Option Side
side_along a b first others = side_of (end_at a b false first) (end_at a b true (last_of first others))
