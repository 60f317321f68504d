-- Small cases of the definitions, at coordinates of a few thousandths. Each is found by computing.
use Rattle.std.proofs.Common.{◌≡◌, true, false, ℤ, pos, negsuc, List, [], ◌∷◌, refl}
use Rattle.plane_geom.specs.declared.point.Point.{Point}
use Rattle.plane_geom.specs.declared.point.Dir.{Dir}
use Rattle.plane_geom.specs.declared.point.Dir.TheVariants.{East, South, West, North}
use Rattle.plane_geom.specs.declared.rect.Solid.{Solid}
use Rattle.walk_model.specs.declared.task.Choice.{Choice}
use Rattle.walk_model.specs.Line.{walk_through}
use Rattle.walk_model.specs.Legal.{IsLegal}
use Rattle.walk_model.proofs.Ranking.Deciding.{is_legal, legal_reflects, refuted, shown}

abbrev at : ℤ → ℤ → Point
at x y = record { x = x; y = y }

abbrev solid : ℤ → ℤ → ℤ → ℤ → ℤ → Solid
solid node left top right bottom = record { node = node; rect = record { left = left; top = top; right = right; bottom = bottom } }

abbrev choice : ℤ → Point → Dir → Point → Choice
choice node pin dir port = record { node = node; pin = pin; dir = dir; port = port; cost = 0 }

-- the line from the start choice's pin through the points is a legal walk
record Accepts (solids : List Solid) (via : List Point) (s e : Choice) (line : List Point) : Type 0 where
  legal : IsLegal solids via s (walk_through s.pin line) e

record Refuses (solids : List Solid) (via : List Point) (s e : Choice) (line : List Point) : Type 0 where
  illegal : IsLegal solids via s (walk_through s.pin line) e → ⊥

accepted : {solids : List Solid} {via : List Point} {s e : Choice} {line : List Point} → is_legal solids via s (walk_through s.pin line) e ≡ true → Accepts solids via s e line
accepted {solids} {via} {s} {e} {line} h = record { legal = shown _ (legal_reflects solids via s (walk_through s.pin line) e) h }

refused : {solids : List Solid} {via : List Point} {s e : Choice} {line : List Point} → is_legal solids via s (walk_through s.pin line) e ≡ false → Refuses solids via s e line
refused {solids} {via} {s} {e} {line} h = record { illegal = refuted _ (legal_reflects solids via s (walk_through s.pin line) e) h }

-- two boxes whose buffered boxes touch, so that both ports are one point
abbrev touching : List Solid
touching = solid (pos 1) (negsuc 0) (negsuc 0) (pos 1) (pos 1) ∷ solid (pos 2) (pos 1) (negsuc 0) (pos 3) (pos 1) ∷ []

-- equal checkpoints are passed at one point, which may be a port
ports_meet : Accepts (touching) (at (pos 1) (pos 0) ∷ at (pos 1) (pos 0) ∷ []) (choice (pos 1) (at (pos 0) (pos 0)) East (at (pos 1) (pos 0))) (choice (pos 2) (at (pos 2) (pos 0)) West (at (pos 1) (pos 0))) (at (pos 2) (pos 0) ∷ [])
ports_meet = accepted refl

-- a checkpoint at a pin does not lie between the ports
pin_is_not_between : Refuses (touching) (at (pos 2) (pos 0) ∷ []) (choice (pos 1) (at (pos 0) (pos 0)) East (at (pos 1) (pos 0))) (choice (pos 2) (at (pos 2) (pos 0)) West (at (pos 1) (pos 0))) (at (pos 2) (pos 0) ∷ [])
pin_is_not_between = refused refl

-- boxes of no size whose buffered boxes overlap
abbrev overlapping : List Solid
overlapping = solid (pos 1) (negsuc 0) (negsuc 0) (pos 1) (pos 1) ∷ solid (pos 2) (pos 0) (negsuc 0) (pos 2) (pos 1) ∷ []

-- both stubs on one line have no room
stubs_overlap : Refuses (overlapping) ([]) (choice (pos 1) (at (pos 0) (pos 0)) East (at (pos 1) (pos 0))) (choice (pos 2) (at (pos 1) (pos 0)) West (at (pos 0) (pos 0))) (at (pos 1) (pos 0) ∷ [])
stubs_overlap = refused refl

-- the way around has
round_about : Accepts (overlapping) ([]) (choice (pos 1) (at (pos 0) (pos 0)) North (at (pos 0) (negsuc 0))) (choice (pos 2) (at (pos 1) (pos 0)) North (at (pos 1) (negsuc 0))) (at (pos 0) (negsuc 0) ∷ at (pos 1) (negsuc 0) ∷ at (pos 1) (pos 0) ∷ [])
round_about = accepted refl

-- two boxes, and two others that share a side
abbrev corridor : List Solid
corridor = solid (pos 1) (negsuc 0) (negsuc 0) (pos 1) (pos 1) ∷ solid (pos 2) (negsuc 0) (pos 6) (pos 1) (pos 8) ∷ solid (pos 3) (negsuc 2) (pos 2) (pos 0) (pos 5) ∷ solid (pos 4) (pos 0) (pos 2) (pos 3) (pos 5) ∷ []

-- a corridor of no width is open
corridor_of_width_zero : Accepts (corridor) ([]) (choice (pos 1) (at (pos 0) (pos 0)) South (at (pos 0) (pos 1))) (choice (pos 2) (at (pos 0) (pos 7)) North (at (pos 0) (pos 6))) (at (pos 0) (pos 7) ∷ [])
corridor_of_width_zero = accepted refl

-- the inside of a solid beside it is not
beside_the_corridor : Refuses (corridor) ([]) (choice (pos 1) (at (pos 0) (pos 0)) South (at (pos 0) (pos 1))) (choice (pos 2) (at (pos 0) (pos 7)) North (at (pos 0) (pos 6))) (at (pos 0) (pos 1) ∷ at (pos 1) (pos 1) ∷ at (pos 1) (pos 6) ∷ at (pos 0) (pos 6) ∷ at (pos 0) (pos 7) ∷ [])
beside_the_corridor = refused refl

-- a solid from x = 1 on, to whose side a port comes
abbrev at_side : List Solid
at_side = solid (pos 1) (negsuc 0) (negsuc 0) (pos 1) (pos 1) ∷ solid (pos 2) (pos 0) (pos 4) (pos 2) (pos 6) ∷ solid (pos 3) (pos 1) (negsuc 1) (pos 4) (pos 3) ∷ []

-- a solid from x = 0 on, which holds the port
abbrev holds_port : List Solid
holds_port = solid (pos 1) (negsuc 0) (negsuc 0) (pos 1) (pos 1) ∷ solid (pos 2) (pos 0) (pos 4) (pos 2) (pos 6) ∷ solid (pos 3) (pos 0) (negsuc 1) (pos 4) (pos 3) ∷ []

-- a port on the side of another solid is free
port_on_side : Accepts (at_side) ([]) (choice (pos 1) (at (pos 0) (pos 0)) East (at (pos 1) (pos 0))) (choice (pos 2) (at (pos 1) (pos 5)) North (at (pos 1) (pos 4))) (at (pos 1) (pos 0) ∷ at (pos 1) (pos 5) ∷ [])
port_on_side = accepted refl

-- a stub inside another solid is not
stub_inside : Refuses (holds_port) ([]) (choice (pos 1) (at (pos 0) (pos 0)) East (at (pos 1) (pos 0))) (choice (pos 2) (at (pos 1) (pos 5)) North (at (pos 1) (pos 4))) (at (pos 1) (pos 0) ∷ at (pos 1) (pos 5) ∷ [])
stub_inside = refused refl

-- the box of a group has no solid, but its stub goes to the edge of its buffered box
abbrev group : List Solid
group = solid (pos 2) (pos 3) (negsuc 0) (pos 5) (pos 1) ∷ []

-- after its port a walk may come back over the pin of a group
back_over_pin : Accepts (group) (at (pos 0) (pos 0) ∷ []) (choice (pos 1) (at (pos 0) (pos 0)) West (at (negsuc 0) (pos 0))) (choice (pos 2) (at (pos 4) (pos 0)) West (at (pos 3) (pos 0))) (at (negsuc 0) (pos 0) ∷ at (pos 4) (pos 0) ∷ [])
back_over_pin = accepted refl

-- it may not where the box has a solid
back_over_solid : Refuses (solid (pos 1) (negsuc 0) (negsuc 0) (pos 1) (pos 1) ∷ solid (pos 2) (pos 3) (negsuc 0) (pos 5) (pos 1) ∷ []) (at (pos 0) (pos 0) ∷ []) (choice (pos 1) (at (pos 0) (pos 0)) West (at (negsuc 0) (pos 0))) (choice (pos 2) (at (pos 4) (pos 0)) West (at (pos 3) (pos 0))) (at (negsuc 0) (pos 0) ∷ at (pos 4) (pos 0) ∷ [])
back_over_solid = refused refl

-- the box of the source reaches into the buffered box of the target
abbrev nested : List Solid
nested = solid (pos 1) (negsuc 1) (negsuc 1) (pos 2) (pos 2) ∷ solid (pos 2) (pos 1) (negsuc 0) (pos 5) (pos 1) ∷ []

-- a stub meets the solid of the other end
stub_in_other_end : Refuses (nested) ([]) (choice (pos 1) (at (pos 0) (pos 0)) East (at (pos 2) (pos 0))) (choice (pos 2) (at (pos 3) (pos 0)) North (at (pos 3) (negsuc 0))) (at (pos 2) (pos 0) ∷ at (pos 2) (negsuc 1) ∷ at (pos 3) (negsuc 1) ∷ at (pos 3) (pos 0) ∷ [])
stub_in_other_end = refused refl

-- another choice does not
stub_beside_other_end : Accepts (nested) ([]) (choice (pos 1) (at (pos 0) (pos 0)) North (at (pos 0) (negsuc 1))) (choice (pos 2) (at (pos 3) (pos 0)) North (at (pos 3) (negsuc 0))) (at (pos 0) (negsuc 1) ∷ at (pos 3) (negsuc 1) ∷ at (pos 3) (pos 0) ∷ [])
stub_beside_other_end = accepted refl

-- two boxes far apart
abbrev apart : List Solid
apart = solid (pos 1) (negsuc 0) (negsuc 0) (pos 1) (pos 1) ∷ solid (pos 2) (pos 6) (negsuc 0) (pos 8) (pos 1) ∷ []

-- to come back to a checkpoint takes a doubling back
doubles_back : Accepts (apart) (at (pos 5) (pos 0) ∷ at (pos 2) (pos 0) ∷ []) (choice (pos 1) (at (pos 0) (pos 0)) East (at (pos 1) (pos 0))) (choice (pos 2) (at (pos 7) (pos 0)) West (at (pos 6) (pos 0))) (at (pos 5) (pos 0) ∷ at (pos 2) (pos 0) ∷ at (pos 7) (pos 0) ∷ [])
doubles_back = accepted refl

-- checkpoints are passed in their order
in_order : Refuses (apart) (at (pos 5) (pos 0) ∷ at (pos 2) (pos 0) ∷ []) (choice (pos 1) (at (pos 0) (pos 0)) East (at (pos 1) (pos 0))) (choice (pos 2) (at (pos 7) (pos 0)) West (at (pos 6) (pos 0))) (at (pos 7) (pos 0) ∷ [])
in_order = refused refl
