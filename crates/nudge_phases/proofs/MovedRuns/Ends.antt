-- Facts on single runs: their ends, and how far a place lies along them.
use Rattle.std.proofs.Common.{◌≡◌, ℤ, ◌≤ℤ◌, false, refl, sym, ap, subst, ◌∙◌, arith}
use Rattle.std.proofs.lemmas.Int.{ints}
use Rattle.plane_geom.specs.declared.point.Point.{Point}
use Rattle.plane_geom.specs.declared.point.Dir.{Dir}
use Rattle.plane_geom.specs.declared.point.Dir.TheVariants.{East, South, West, North}
use Rattle.plane_geom.specs.declared.point.Way.{Way}
use Rattle.plane_geom.specs.declared.point.Way.TheVariants.{Vertical, Horizontal}
use Rattle.plane_geom.specs.Point.{IsCoordinate, opposite}
use Rattle.plane_geom.specs.Floor.{point_on, Holds}
use Rattle.segment_order.specs.declared.run.Run.{Run}
use Rattle.plane_geom.specs.Along.{across, along}
use Rattle.segment_order.specs.Run.{IsRun, end_in, line_of_run}
use Rattle.nudge_phases.proofs.AlongRuns.Ends.{far_end, end_far}
use Rattle.channel_bundles.specs.Route.{is_way}
use Rattle.channel_bundles.specs.Limits.{IsReached}
use Rattle.nudge_phases.specs.Moved.{stretch}

-- the other way
abbrev pub turned : Way → Way
turned Vertical = Horizontal
turned Horizontal = Vertical

pub by_way : {P : Type 0} (v w : Way) → (v ≡ w → P) → (v ≡ turned w → P) → P
by_way Vertical Vertical f g = f refl
by_way Vertical Horizontal f g = g refl
by_way Horizontal Vertical f g = g refl
by_way Horizontal Horizontal f g = f refl

pub other_way : (v w : Way) → v ≡ turned w → is_way v w ≡ false
other_way Vertical Vertical e = cc
other_way Vertical Horizontal e = refl
other_way Horizontal Vertical e = refl
other_way Horizontal Horizontal e = cc

-- the two coordinates of a point of a line
pub across_on : (w : Way) (at z : ℤ) → across w (point_on w at z) ≡ at
across_on Vertical at z = refl
across_on Horizontal at z = refl

pub along_on : (w : Way) (at z : ℤ) → along w (point_on w at z) ≡ z
along_on Vertical at z = refl
along_on Horizontal at z = refl

pub across_turned : (w : Way) (p : Point) → across (turned w) p ≡ along w p
across_turned Vertical p = refl
across_turned Horizontal p = refl

pub along_turned : (w : Way) (p : Point) → along (turned w) p ≡ across w p
along_turned Vertical p = refl
along_turned Horizontal p = refl

-- a point of the one line is one of the line across it
pub on_turned : (w : Way) (a b : ℤ) → point_on w a b ≡ point_on (turned w) b a
on_turned Vertical a b = refl
on_turned Horizontal a b = refl

pub across_end : (d : Dir) (r : Run) → across r.way (end_in d r) ≡ r.at
across_end d r = ap (across r.way) (end_far d r) ∙ across_on r.way r.at (far_end d r)

pub along_end : (d : Dir) (r : Run) → along r.way (end_in d r) ≡ far_end d r
along_end d r = ap (along r.way) (end_far d r) ∙ along_on r.way r.at (far_end d r)

-- the order of places along a heading
pub reached_same : (d : Dir) (z : ℤ) → IsReached d z z
reached_same East z = omega (arith, ints)
reached_same South z = omega (arith, ints)
reached_same West z = omega (arith, ints)
reached_same North z = omega (arith, ints)

pub reached_on : (d : Dir) (a b c : ℤ) → IsReached d a b → IsReached d b c → IsReached d a c
reached_on East a b c h k = omega (arith, ints)
reached_on South a b c h k = omega (arith, ints)
reached_on West a b c h k = omega (arith, ints)
reached_on North a b c h k = omega (arith, ints)

pub reached_back : (d : Dir) (a b : ℤ) → IsReached (opposite d) a b → IsReached d b a
reached_back East a b h = h
reached_back South a b h = h
reached_back West a b h = h
reached_back North a b h = h

pub back_reached : (d : Dir) (a b : ℤ) → IsReached d b a → IsReached (opposite d) a b
back_reached East a b h = h
back_reached South a b h = h
back_reached West a b h = h
back_reached North a b h = h

-- what lies on the run lies between its begin and its end
pub from_begin : (d : Dir) (r : Run) (z : ℤ) → r.lo ≤ℤ z → z ≤ℤ r.hi → IsReached d (far_end (opposite d) r) z
from_begin East r z h k = h
from_begin South r z h k = h
from_begin West r z h k = k
from_begin North r z h k = k

pub to_end : (d : Dir) (r : Run) (z : ℤ) → r.lo ≤ℤ z → z ≤ℤ r.hi → IsReached d z (far_end d r)
to_end East r z h k = k
to_end South r z h k = k
to_end West r z h k = h
to_end North r z h k = h

-- the drawn run
pub stretch_way : (d : Dir) (r : Run) (p q : ℤ) → (stretch d r p q).way ≡ r.way
stretch_way East r p q = refl
stretch_way South r p q = refl
stretch_way West r p q = refl
stretch_way North r p q = refl

pub stretch_at : (d : Dir) (r : Run) (p q : ℤ) → (stretch d r p q).at ≡ r.at
stretch_at East r p q = refl
stretch_at South r p q = refl
stretch_at West r p q = refl
stretch_at North r p q = refl

pub stretch_heading : (d : Dir) (r : Run) (p q : ℤ) → (stretch d r p q).heading ≡ r.heading
stretch_heading East r p q = refl
stretch_heading South r p q = refl
stretch_heading West r p q = refl
stretch_heading North r p q = refl

pub stretch_edge : (d : Dir) (r : Run) (p q : ℤ) → (stretch d r p q).edge ≡ r.edge
stretch_edge East r p q = refl
stretch_edge South r p q = refl
stretch_edge West r p q = refl
stretch_edge North r p q = refl

pub stretch_place : (d : Dir) (r : Run) (p q : ℤ) → (stretch d r p q).place ≡ r.place
stretch_place East r p q = refl
stretch_place South r p q = refl
stretch_place West r p q = refl
stretch_place North r p q = refl

pub stretch_begin : (d : Dir) (r : Run) (p q : ℤ) → end_in (opposite d) (stretch d r p q) ≡ point_on r.way r.at p
stretch_begin East r p q = refl
stretch_begin South r p q = refl
stretch_begin West r p q = refl
stretch_begin North r p q = refl

pub stretch_end : (d : Dir) (r : Run) (p q : ℤ) → end_in d (stretch d r p q) ≡ point_on r.way r.at q
stretch_end East r p q = refl
stretch_end South r p q = refl
stretch_end West r p q = refl
stretch_end North r p q = refl

pub stretch_holds : (d : Dir) (r : Run) (p q z : ℤ) (c : Point) → IsReached d p z → IsReached d z q → c ≡ point_on r.way r.at z → Holds (line_of_run (stretch d r p q)) c
stretch_holds East r p q z c h k e = record { along = z; from = h; to = k; here = e }
stretch_holds South r p q z c h k e = record { along = z; from = h; to = k; here = e }
stretch_holds West r p q z c h k e = record { along = z; from = k; to = h; here = e }
stretch_holds North r p q z c h k e = record { along = z; from = k; to = h; here = e }

pub stretch_is_run : (d : Dir) (r : Run) (p q : ℤ) → IsRun r → d ≡ r.heading → IsCoordinate p → IsCoordinate q → IsReached d p q → IsRun (stretch d r p q)
stretch_is_run East r p q h e a b o = record { way = h.way; at = h.at; lo = a; hi = b; ordered = o }
stretch_is_run South r p q h e a b o = record { way = h.way; at = h.at; lo = a; hi = b; ordered = o }
stretch_is_run West r p q h e a b o = record { way = h.way; at = h.at; lo = b; hi = a; ordered = o }
stretch_is_run North r p q h e a b o = record { way = h.way; at = h.at; lo = b; hi = a; ordered = o }

pub far_coordinate : (d : Dir) (r : Run) → IsRun r → IsCoordinate (far_end d r)
far_coordinate East r h = h.hi
far_coordinate South r h = h.hi
far_coordinate West r h = h.lo
far_coordinate North r h = h.lo

-- the place of a point on a run
pub holds_along : (r : Run) (c : Point) (h : Holds (line_of_run r) c) → along r.way c ≡ h.along
holds_along r c h = ap (along r.way) h.here ∙ along_on r.way r.at h.along

pub held_from : (d : Dir) (r : Run) (c : Point) → Holds (line_of_run r) c → IsReached d (far_end (opposite d) r) (along r.way c)
held_from d r c h = subst (IsReached d (far_end (opposite d) r)) (sym (holds_along r c h)) (from_begin d r h.along h.from h.to)

pub held_to : (d : Dir) (r : Run) (c : Point) → Holds (line_of_run r) c → IsReached d (along r.way c) (far_end d r)
held_to d r c h = subst (λ z. IsReached d z (far_end d r)) (sym (holds_along r c h)) (to_end d r h.along h.from h.to)

-- the run at another coordinate
pub end_moved : (d : Dir) (r : Run) (z : ℤ) → end_in d (record r { at = z }) ≡ point_on r.way z (far_end d r)
end_moved East r z = refl
end_moved South r z = refl
end_moved West r z = refl
end_moved North r z = refl

pub here_on : (r : Run) (c : Point) → Holds (line_of_run r) c → c ≡ point_on r.way r.at (along r.way c)
here_on r c h = h.here ∙ ap (point_on r.way r.at) (sym (holds_along r c h))

pub stretch_same : (d : Dir) (r : Run) → stretch d r (far_end (opposite d) r) (far_end d r) ≡ r
stretch_same East r = refl
stretch_same South r = refl
stretch_same West r = refl
stretch_same North r = refl
