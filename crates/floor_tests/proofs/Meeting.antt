-- Lines that were looked at stand apart, or meet at a point where no crossing stands.
use Rattle.std.proofs.Common.{◌≡◌, ℕ, ℤ, ◌≤ℤ◌, Some, refl, sym, ap, ◌∙◌, arith}
use Rattle.std.proofs.lemmas.Int.{ints}
use Rattle.std.specs.FinMap.{get}
use Rattle.plane_geom.specs.declared.point.Point.{Point}
use Rattle.plane_geom.specs.declared.point.Way.{Way}
use Rattle.plane_geom.specs.declared.point.Way.TheVariants.{Vertical, Horizontal}
use Rattle.plane_geom.specs.declared.floor.Line.{Line}
use Rattle.plane_geom.specs.Along.{along}
use Rattle.plane_geom.specs.Floor.{AreOnOneWholeLine, Holds, point_on}
use Rattle.line_arena.specs.Arena.{Arena, Meet, StandsAt}
use Rattle.floor_tests.specs.Lines.{Cross, Overlap, point_of}

-- where a line of this way has the point
point_along : (w : Way) (at z : ℤ) → along w (point_on w at z) ≡ z
point_along Vertical at z = refl
point_along Horizontal at z = refl

held : (l : Line) (p : Point) (h : Holds l p) → along l.way p ≡ h.along
held l p h = ap (along l.way) h.here ∙ point_along l.way l.at h.along

-- lines of one whole line that share a point overlap
pub overlap : (l m : Line) (p : Point) → AreOnOneWholeLine l m → Holds l p → Holds m p → Overlap l m
overlap l m p whole on_l on_m =
    let e = sym (held l p on_l) ∙ ap (λ w. along w p) whole.way ∙ held m p on_m in
    let l_from = on_l.from in
    let l_to = on_l.to in
    let m_from = on_m.from in
    let m_to = on_m.to in
    record {
      way = whole.way;
      at = whole.at;
      from = omega (arith, ints, e, l_from, m_to);
      to = omega (arith, ints, e, m_from, l_to);
    }

holds : (l : Line) (w : Way) (p : Point) (z : ℤ) → l.way ≡ w → p ≡ point_on w l.at z → l.lo ≤ℤ z → z ≤ℤ l.hi → Holds l p
holds l w p z way here from to = record { along = z; from = from; to = to; here = here ∙ ap (λ v. point_on v l.at z) (sym way) }

on_down : (down across : Line) → Cross down across → Holds down (point_of down across)
on_down down across c = holds down Vertical (point_of down across) across.at c.down_runs refl c.down_from c.down_to

on_across : (down across : Line) → Cross down across → Holds across (point_of down across)
on_across down across c = holds across Horizontal (point_of down across) down.at c.across_runs refl c.across_from c.across_to

pub meet : (v : Arena) (i j : ℕ) (down across : Line) → get v.lines i ≡ Some down → get v.lines j ≡ Some across → Cross down across → Meet v i j
meet v i j down across is_i is_j c = record {
  down = down;
  across = across;
  is_down = is_i;
  is_across = is_j;
  down_runs = c.down_runs;
  across_runs = c.across_runs;
  point = point_of down across;
  on_down = on_down down across c;
  on_across = on_across down across c;
}

-- where no crossing stands at the point, the two lines have none
pub new_pair : (v : Arena) (i j : ℕ) (down across : Line) → get v.lines i ≡ Some down → get v.lines j ≡ Some across → Cross down across
    → ((k : ℕ) → StandsAt v k (point_of down across) → ⊥) → (k : ℕ) → get v.crossings k ≡ Some (record { vertical = i; horizontal = j }) → ⊥
new_pair v i j down across is_i is_j c none k is = none k (record {
  pair = record { vertical = i; horizontal = j };
  is = is;
  down = down;
  across = across;
  is_down = is_i;
  is_across = is_j;
  on_down = on_down down across c;
  on_across = on_across down across c;
})
