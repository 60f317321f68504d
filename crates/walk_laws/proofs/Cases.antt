-- Small cases at coordinates of a few thousandths: the meaning of the definitions, and that a premise of the laws is needed.
use Rattle.std.proofs.Common.{◌≡◌, ℤ, pos, [], ◌∷◌, get_or, All, refl, sym, ap, subst, ◌∙◌, arith}
use Rattle.std.proofs.lemmas.Int.{ints}
use Rattle.std.proofs.lemmas.List.Elements.{All-cons, All-nil}
use Rattle.plane_geom.specs.declared.point.Point.{Point}
use Rattle.plane_geom.specs.declared.point.Dir.TheVariants.{East, South, West}
use Rattle.plane_geom.specs.declared.point.Way.{Way}
use Rattle.plane_geom.specs.declared.point.Way.TheVariants.{Vertical, Horizontal}
use Rattle.plane_geom.specs.declared.floor.Line.{Line}
use Rattle.plane_geom.specs.declared.floor.Floor.{Floor}
use Rattle.plane_geom.specs.Rect.{HasInside, Meets}
use Rattle.plane_geom.specs.Floor.{Holds, IsCrossing, IsKept, point_on}
use Rattle.plane_geom.proofs.LongestPiece.{meets_barred}
use Rattle.walk_model.specs.declared.task.Choice.{Choice}
use Rattle.walk_model.specs.declared.task.Task.{Task}
use Rattle.walk_model.specs.Order.{Triple, IsFirst, IsLegalTriple}
use Rattle.walk_model.proofs.Ranking.First.{one_first}
use Rattle.walk_model.proofs.Ranking.Deciding.{legal_reflects, shown}
use Rattle.walk_laws.specs.Lines.{run_line}
use Rattle.walk_laws.specs.Runs.{runs_of_way}
use Rattle.walk_laws.proofs.OnKeptLines.Lines.{chosen}

-- two runs go East and West, and one South; to go on begins none, to double back does
two_horizontal : runs_of_way Horizontal (East ∷ East ∷ South ∷ West ∷ []) ≡ 2
two_horizontal = refl

one_vertical : runs_of_way Vertical (East ∷ East ∷ South ∷ West ∷ []) ≡ 1
one_vertical = refl

back_again : runs_of_way Horizontal (East ∷ West ∷ West ∷ []) ≡ 2
back_again = refl

abbrev at : ℤ → ℤ → Point
at x y = record { x = x; y = y }

-- a run to the West ends where its line begins
west_line : run_line (at (pos 5) (pos 1)) West 3 ≡ record { way = Horizontal; at = pos 1; lo = pos 2; hi = pos 5 }
west_line = refl

-- no crossing lies inside a solid
vertical_outside : (floor : Floor) (l : Line) (p : Point) → IsKept floor l → l.way ≡ Vertical → Holds l p → All (λ s. HasInside s.rect p → ⊥) floor.solids
vertical_outside floor l p kept way h k s inside within =
    let r = (get_or floor.solids k s).rect in
    let here : p ≡ point_on Vertical l.at h.along = h.here ∙ ap (λ (w : Way). point_on w l.at h.along) way in
    let x : p.x ≡ l.at = ap (λ (q : Point). q.x) here in
    let y : p.y ≡ h.along = ap (λ (q : Point). q.y) here in
    let piece = kept.longest.piece in
    let meets : Meets r (point_on Vertical l.at l.lo) (point_on Vertical l.at l.hi) = meets_barred r Vertical l.at l.lo l.hi
    (record { low = omega (arith, ints, x, within.x.0); high = omega (arith, ints, x, within.x.1); some = omega (arith, ints, within.y.0, within.y.1) })
    piece.ordered (omega (arith, ints, y, h.from, within.y.1)) (omega (arith, ints, y, h.to, within.y.0)) in
    piece.free k s inside (subst (λ (w : Way). Meets r (point_on w l.at l.lo) (point_on w l.at l.hi)) (sym way) meets)

-- both ends at the node of the one solid, and both ports inside it at its middle
abbrev floor : Floor
floor = record { solids = record { node = pos 1; rect = record { left = pos 0; top = pos 0; right = pos 4; bottom = pos 4 } } ∷ []; anchors = at (pos 2) (pos 2) ∷ [] }

abbrev start : Choice
start = record { node = pos 1; pin = at (pos 1) (pos 2); dir = East; port = at (pos 2) (pos 2); cost = 0 }

abbrev end : Choice
end = record { node = pos 1; pin = at (pos 3) (pos 2); dir = West; port = at (pos 2) (pos 2); cost = 0 }

abbrev task : Task
task = record { starts = start ∷ []; ends = end ∷ []; via = []; penalty = 1 }

abbrev two_stubs : Triple
two_stubs = record { start = 0; walk = record { start = at (pos 1) (pos 2); steps = East ∷ East ∷ [] }; end = 0 }

legal : IsLegalTriple floor.solids task two_stubs
legal = record { start = start; end = end; is_start = refl; is_end = refl; legal = shown _ (legal_reflects floor.solids [] start two_stubs.walk end) refl }

-- there is a first walk, and its start port is no crossing: an end port inside a solid of its own node has to be ruled out
port_inside : (t : Triple) × (first : IsFirst floor.solids task t) × (IsCrossing floor first.legal.start.port → ⊥)
port_inside =
    let some = (one_first floor.solids task).some two_stubs legal in
    let s = some.1.legal.start in
    let middle : s.port ≡ at (pos 2) (pos 2) =
    chosen (λ (c : Choice). c.port ≡ at (pos 2) (pos 2)) task.starts some.0.start s some.1.legal.is_start (All-cons (λ (c : Choice). c.port ≡ at (pos 2) (pos 2)) start [] refl (All-nil (λ (c : Choice). c.port ≡ at (pos 2) (pos 2)))) in (
      some.0,
      some.1,
      λ crossing.
          let c : IsCrossing floor (at (pos 2) (pos 2)) = subst (IsCrossing floor) middle crossing in
          vertical_outside floor c.vertical (at (pos 2) (pos 2)) c.vertical_kept c.is_vertical c.on_vertical 0 (get_or floor.solids 0 (record { node = pos 1; rect = record { left = pos 0; top = pos 0; right = pos 4; bottom = pos 4 } })) (omega arith)
          (record { x = (omega (arith, ints), omega (arith, ints)); y = (omega (arith, ints), omega (arith, ints)) }),
    )
