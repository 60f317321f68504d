-- What differs between lines that were reported and others.
use Rattle.std.specs.Prelude.{ℕ, ◌<◌, ◌==◌, ◌&&◌, Bool, true, false, not, List, [], ◌∷◌, Option, None, Some, is_some, find, filter, map, AllPairs}
use Rattle.std.specs.Ordering.{int_eq, nat_cmp}
use Rattle.std.specs.declared.cmp.Ordering.{Ordering}
use Rattle.std.specs.declared.cmp.Ordering.TheVariants.{Less, Greater}
use Rattle.plane_geom.specs.declared.point.Point.{Point}
use Rattle.walk_model.specs.declared.route.WrittenRoute.{WrittenRoute}

-- the lines are of different connectors, in the order of their numbers
abbrev pub AreInOrder : List WrittenRoute → Type 0
AreInOrder lines = AllPairs (λ q r. q.edge < r.edge) lines

-- the line of this connector among these
abbrev pub line_of : List WrittenRoute → ℕ → Option WrittenRoute
line_of lines edge = find (λ l. l.edge == edge) lines

-- both are the same corners
abbrev pub are_same_corners : List Point → List Point → Bool
are_same_corners [] [] = true
are_same_corners [] (q ∷ qs) = false
are_same_corners (p ∷ ps) [] = false
are_same_corners (p ∷ ps) (q ∷ qs) = (int_eq p.x q.x && int_eq p.y q.y) && are_same_corners ps qs

-- the line that was found has these corners
abbrev pub has_corners : Option WrittenRoute → List Point → Bool
has_corners None corners = false
has_corners (Some l) corners = are_same_corners l.points corners

-- the line differs from the one that was reported of its connector, if one was
abbrev pub is_changed : List WrittenRoute → WrittenRoute → Bool
is_changed reported l = not (has_corners (line_of reported l.edge) l.points)

-- the connectors of which a line was reported and that have none among these
abbrev pub gone_between : List WrittenRoute → List WrittenRoute → List ℕ
gone_between reported lines = map (λ l. l.edge) (filter (λ l. not (is_some (line_of lines l.edge))) reported)

-- which of two lines has the lesser number; no line comes after all
abbrev pub order_of : Option WrittenRoute → Option WrittenRoute → Ordering
order_of None line = Greater
order_of (Some reported) None = Less
order_of (Some reported) (Some line) = nat_cmp reported.edge line.edge

-- the lines that were asked for last, of each whether it changed, and the connectors that are gone
pub record Asked : Type 0 where
  pub lines : List WrittenRoute
  pub changed : List Bool
  pub gone : List ℕ

-- these lines, compared with those that were reported
abbrev pub asked_of : List WrittenRoute → List WrittenRoute → Asked
asked_of reported lines = record {
  lines = lines;
  changed = map (is_changed reported) lines;
  gone = gone_between reported lines;
}
