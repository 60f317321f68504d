-- The crossings of an arena, listed by y and then by x. No public clause cites this module.
use Rattle.std.specs.Prelude.{ℕ, ◌≡◌, ◌⊎◌, ◌&&◌, ◌||◌, Bool, int_lt, List, All, AllPairs, Contains, true}
use Rattle.std.specs.Ordering.{int_eq}
use Rattle.plane_geom.specs.declared.point.Point.{Point}
use Rattle.plane_geom.specs.declared.point.Way.TheVariants.{Horizontal}
use Rattle.plane_geom.specs.declared.floor.Line.{Line}
use Rattle.plane_geom.specs.Floor.{Holds}
use Rattle.line_arena.specs.Arena.{Arena, IsOn, StandsAt}
use Rattle.proof_search.specs.declared.spots.Spot.{Spot}

-- whether the first point stands before the second: by y, then x
abbrev pub comes_before : Point → Point → Bool
comes_before p q = int_lt p.y q.y || (int_eq p.y q.y && int_lt p.x q.x)

-- each spot stands before all later ones
abbrev pub AreRising : List Spot → Type 0
AreRising spots = AllPairs (λ s t. comes_before s.at t.at ≡ true) spots

-- the spots are all crossings with the points where they stand, in order
pub record AreSpots (a : Arena) (spots : List Spot) : Type 0 where
  pub stand : All (λ s. StandsAt a s.crossing s.at) spots
  pub all : (c : ℕ) (q : Point) → StandsAt a c q → Contains spots (record { at = q; crossing = c })
  pub rise : AreRising spots

-- the spot stands before all points of the line
abbrev pub IsBeforeLine : Line → Spot → Type 0
IsBeforeLine line s = (q : Point) → Holds line q → comes_before s.at q ≡ true

-- the crossings of the line became the spots
pub record HasLineCome (a : Arena) (line : Line) (id : ℕ) (old new : List Spot) : Type 0 where
  pub kept : (s : Spot) → Contains old s → Contains new s
  pub only : (s : Spot) → Contains new s → Contains old s ⊎ (StandsAt a s.crossing s.at × Holds line s.at)
  pub all : (c : ℕ) (q : Point) → StandsAt a c q → IsOn a id c → Contains new (record { at = q; crossing = c })
  pub rise : AreRising new

-- the spot is a crossing of one of the horizontal lines
pub record IsOfLines (a : Arena) (lines : List (Line × ℕ)) (s : Spot) : Type 0 where
  pub stands : StandsAt a s.crossing s.at
  pub entry : Line × ℕ
  pub listed : Contains lines entry
  pub way : entry.0.way ≡ Horizontal
  pub holds : Holds entry.0 s.at

-- the spots are the crossings of the horizontal ones of the lines
pub record AreOfLines (a : Arena) (lines : List (Line × ℕ)) (spots : List Spot) : Type 0 where
  pub only : (s : Spot) → Contains spots s → IsOfLines a lines s
  pub all : (e : Line × ℕ) → Contains lines e → e.0.way ≡ Horizontal → (c : ℕ) (q : Point) → StandsAt a c q → IsOn a e.1 c →
      Contains spots (record { at = q; crossing = c })
  pub rise : AreRising spots
