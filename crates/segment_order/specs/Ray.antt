-- Rays, which follow a route away from one of its runs.
use Rattle.std.specs.Prelude.{◌≡◌, ◌≢◌, ℕ, ◌-◌, ℤ, pos, ◌-ℤ◌, Bool, true, false, Option, Some, None, List, [], ◌∷◌, take, drop, ◌++◌, map, reverse, All, if◌then◌else◌}
use Rattle.std.specs.declared.cmp.Ordering.{Ordering}
use Rattle.std.specs.Cmp.Lexicographic.{slice_cmp}
use Rattle.std.specs.Ordering.{nat_cmp, int_cmp, ordering_then}
use Rattle.plane_geom.specs.declared.point.Dir.{Dir}
use Rattle.plane_geom.specs.declared.point.Dir.TheVariants.{East, South, West, North}
use Rattle.plane_geom.specs.Point.{opposite}
use Rattle.segment_order.specs.declared.side.Side.{Side}
use Rattle.segment_order.specs.declared.side.Side.TheVariants.{Left, Right}
use Rattle.segment_order.specs.declared.run.Run.{Run}
use Rattle.segment_order.specs.declared.ray.Ray.{Ray}
use Rattle.segment_order.specs.declared.ray.Entry.{Entry}
use Rattle.segment_order.specs.declared.ray.Entry.TheVariants.{Near, Stop, Far}
use Rattle.segment_order.specs.Side.{turn_to, near_side}

-- how far the run's end is in the direction: its coordinate, negated for West and North
abbrev pub reach_in : Dir → Run → ℤ
reach_in East r = r.hi
reach_in South r = r.hi
reach_in West r = pos 0 -ℤ r.lo
reach_in North r = pos 0 -ℤ r.lo

-- the entry of a turn to the side, at this distance in the direction
abbrev pub entry_of : Side → ℤ → Side → Entry
entry_of Left z Left = Near z
entry_of Right z Right = Near z
entry_of _ z _ = Far z

-- the entry at the turn if there is one, and then the others; if there is no turn the ray stops
abbrev pub entries_after : Side → ℤ → Option Side → List Entry → List Entry
entries_after near z None rest = Stop ∷ []
entries_after near z (Some side) rest = entry_of near z side ∷ rest

-- the entries of one who travels in the direction as far as z, and then along these runs; the near side stays the same
abbrev pub entries : Side → Dir → ℤ → List Run → List Entry
entries near d z [] = Stop ∷ []
entries near d z (r ∷ rs) = entries_after near z (turn_to d r.heading) (entries near r.heading (reach_in r.heading r) rs)

-- the run travelled in the opposite direction
abbrev pub turned_round : Run → Run
turned_round r = record r { heading = opposite r.heading }

-- the runs that one reaches who leaves the run in the direction
abbrev pub trail : Bool → List Run → List Run
trail true rest = rest
trail false rest = map turned_round (reverse rest)

abbrev pub is_heading : Dir → Dir → Bool
is_heading East East = true
is_heading South South = true
is_heading West West = true
is_heading North North = true
is_heading _ _ = false

-- the ray that leaves the run of the route in the direction
abbrev pub ray : List Run → Run → Dir → List Entry
ray route r d = entries (near_side d) d (reach_in d r)
    (if is_heading r.heading d then drop r.place route else map turned_round (reverse (take (r.place - 1) route)))

-- the entries that a ray still has
abbrev pub entries_of : Ray → List Entry
entries_of ray = entries ray.near ray.heading ray.reach (trail ray.onward ray.rest.now)

-- the entries after the first one
abbrev pub entries_left : Option Ray → List Entry
entries_left None = []
entries_left (Some ray) = entries_of ray

-- the run as one goes along it who follows its route onward, or back
abbrev pub travelled : Bool → Run → Run
travelled true r = r
travelled false r = turned_round r

-- the kind of an entry, from 0 to 2, and its rank within the kind
abbrev pub rank_of : Entry → ℕ
rank_of (Near p) = 0
rank_of Stop = 1
rank_of (Far p) = 2

abbrev pub value_of : Entry → ℤ
value_of (Near p) = p
value_of Stop = pos 0
value_of (Far p) = pos 0 -ℤ p

-- turns to the near side by rising numbers, then a stop, then turns to the far side by falling numbers
abbrev pub entry_cmp : Entry → Entry → Ordering
entry_cmp a b = ordering_then (nat_cmp (rank_of a) (rank_of b)) (int_cmp (value_of a) (value_of b))

-- the order of two rays that have come in one direction as far as z, with these runs to come
abbrev pub compare_abreast : Bool → Side → Dir → ℤ → List Run → List Run → Ordering
compare_abreast onward near d z a b = slice_cmp entry_cmp (entries near d z (trail onward a)) (entries near d z (trail onward b))

-- a ray ends with a stop, and has no other one
pub record EndsAtOnlyStop (ray : List Entry) : Type 0 where
  pub turns : List Entry
  pub no_stop : All (λ e. e ≢ Stop) turns
  pub last : ray ≡ turns ++ Stop ∷ []
