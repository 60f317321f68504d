-- The line that straight legs draw: its ends, and the line of the arena of which it is a part.
use Rattle.std.proofs.Common.{◌≡◌, ℕ, pos, ◌+ℤ◌, ◌-ℤ◌, ◌≤ℤ◌, List, Option, Some, refl, sym, ap, subst, ◌∙◌, inl, inr, arith}
use Rattle.std.specs.FinMap.{get}
use Rattle.std.proofs.lemmas.Int.{ints}
use Rattle.plane_geom.specs.declared.point.Point.{Point}
use Rattle.plane_geom.specs.declared.point.Dir.{Dir}
use Rattle.plane_geom.specs.declared.point.Dir.TheVariants.{East, South, West, North}
use Rattle.plane_geom.specs.declared.point.Way.{Way}
use Rattle.plane_geom.specs.declared.point.Way.TheVariants.{Vertical, Horizontal}
use Rattle.plane_geom.specs.declared.floor.Line.{Line}
use Rattle.plane_geom.specs.declared.rect.Rect.{Rect}
use Rattle.plane_geom.specs.declared.rect.Solid.{Solid}
use Rattle.plane_geom.specs.Along.{along, way_of}
use Rattle.plane_geom.specs.Floor.{Holds, point_on}
use Rattle.plane_geom.specs.Point.{distance, forward}
use Rattle.plane_geom.proofs.Held.{held_across, held_along}
use Rattle.line_arena.specs.Arena.{Arena, IsArena, IsOn, LiesFurther, Pair, StandsAt, line_along}
use Rattle.line_arena.proofs.Arenas.ArenaLaws.{IsHeldAlong, held_in, placed, same_pair}
use Rattle.walk_laws.specs.Lines.{run_line}
use Rattle.walk_laws.specs.Sides.{IsHeldTo, SharesSideTo}
use Rattle.move_model.specs.Stations.{IsPartOf, LieOnLine, line_between}
use Rattle.move_model.proofs.Moving.Moves.{apart}

-- the line runs the way of the direction
pub way_between : (d : Dir) (p q : Point) → (line_between d p q).way ≡ way_of d
way_between East p q = refl
way_between South p q = refl
way_between West p q = refl
way_between North p q = refl

forward_between : (d : Dir) (p : Point) (n : ℕ) → run_line p d n ≡ line_between d p (forward d n p)
forward_between East p n = refl
forward_between South p n = refl
forward_between West p n = refl
forward_between North p n = refl

pub run_between : (a : Arena) → IsArena a → (d : Dir) (b c : ℕ) (p q : Point) → LiesFurther a d b c → StandsAt a b p → StandsAt a c q → run_line p d (distance p q) ≡ line_between d p q
run_between a arena d b c p q f at_p at_q = forward_between d p (distance p q) ∙ ap (line_between d p) (sym (apart a d b c p q arena f at_p at_q).1)

-- ---- a longer line is held as well

shares_longer : (side : Dir) (l m : Line) (r : Rect) → IsPartOf l m → SharesSideTo side l r → SharesSideTo side m r
shares_longer East l m r h (way, at, low, high) = let from = h.from in let to = h.to in (sym h.way ∙ way, at ∙ h.at, omega (arith, ints, from, low), omega (arith, ints, to, high))
shares_longer South l m r h (way, at, low, high) = let from = h.from in let to = h.to in (sym h.way ∙ way, at ∙ h.at, omega (arith, ints, from, low), omega (arith, ints, to, high))
shares_longer West l m r h (way, at, low, high) = let from = h.from in let to = h.to in (sym h.way ∙ way, at ∙ h.at, omega (arith, ints, from, low), omega (arith, ints, to, high))
shares_longer North l m r h (way, at, low, high) = let from = h.from in let to = h.to in (sym h.way ∙ way, at ∙ h.at, omega (arith, ints, from, low), omega (arith, ints, to, high))

holds_more : (l m : Line) (p : Point) → IsPartOf l m → Holds l p → Holds m p
holds_more l m p h g =
    let from = h.from in
    let to = h.to in
    let low = g.from in
    let high = g.to in
    record { along = g.along; from = omega (arith, ints, from, low); to = omega (arith, ints, to, high); here = g.here ∙ ap (λ (w : Way). point_on w l.at g.along) h.way ∙ ap (λ z. point_on m.way z g.along) h.at }

pub held_longer : (solids : List Solid) (via : List Point) (side : Dir) (l m : Line) → IsPartOf l m → IsHeldTo solids via side l → IsHeldTo solids via side m
held_longer solids via side l m h (inl (i, s, within, is, shares)) = inl (i, s, within, is, shares_longer side l m s.rect h shares)
held_longer solids via side l m h (inr (i, c, within, is, holds)) = inr (i, c, within, is, holds_more l m c h holds)

-- ---- the line of the arena

low_along : (way : Way) (l : Line) (p : Point) → l.way ≡ way → Holds l p → l.lo ≤ℤ along way p
low_along way l p e h = subst (λ z. l.lo ≤ℤ z) (sym (held_along way l p e h)) h.from

high_along : (way : Way) (l : Line) (p : Point) → l.way ≡ way → Holds l p → along way p ≤ℤ l.hi
high_along way l p e h = subst (λ z. z ≤ℤ l.hi) (sym (held_along way l p e h)) h.to

part_of : (d : Dir) (l : Line) (p q : Point) → l.way ≡ way_of d → Holds l p → Holds l q → IsPartOf (line_between d p q) l
part_of East l p q e h g = record { way = sym e; at = held_across Horizontal l p e h; from = low_along Horizontal l p e h; to = high_along Horizontal l q e g }
part_of South l p q e h g = record { way = sym e; at = held_across Vertical l p e h; from = low_along Vertical l p e h; to = high_along Vertical l q e g }
part_of West l p q e h g = record { way = sym e; at = held_across Horizontal l p e h; from = low_along Horizontal l q e g; to = high_along Horizontal l p e h }
part_of North l p q e h g = record { way = sym e; at = held_across Vertical l p e h; from = low_along Vertical l q e g; to = high_along Vertical l p e h }

on_pair : (a : Arena) (d : Dir) (c id : ℕ) (pair : Pair) → get a.crossings c ≡ Some pair → line_along d pair ≡ id → IsOn a id c
on_pair a East c id pair is e = record { pair = pair; is = is; on = inr e }
on_pair a South c id pair is e = record { pair = pair; is = is; on = inl e }
on_pair a West c id pair is e = record { pair = pair; is = is; on = inr e }
on_pair a North c id pair is e = record { pair = pair; is = is; on = inl e }

same_line : (x y : Line) → ◌≡◌ {A = Option Line} (Some x) (Some y) → x ≡ y
same_line x y e = cc

pub lie_on_line : (a : Arena) → IsArena a → (d : Dir) (b c : ℕ) (p q : Point) → LiesFurther a d b c → StandsAt a b p → StandsAt a c q → LieOnLine a d b c p q
lie_on_line a arena d b c p q f at_b at_c =
    let u = placed a b p arena at_b in
    let v = placed a c q arena at_c in
    let h : IsHeldAlong a u.pair p d = held_in a b p d u in
    let k : IsHeldAlong a v.pair q d = held_in a c q d v in
    let ids : line_along d v.pair ≡ line_along d u.pair =
    ap (line_along d) (same_pair v.pair f.there (sym v.is ∙ f.is_there)) ∙ f.line ∙ ap (line_along d) (same_pair f.here u.pair (sym f.is_here ∙ u.is)) in
    let lines : k.line ≡ h.line = same_line k.line h.line (sym k.is ∙ ap (get a.lines) ids ∙ h.is) in
    record {
      id = line_along d u.pair;
      line = h.line;
      is = h.is;
      first = on_pair a d b (line_along d u.pair) u.pair u.is refl;
      second = on_pair a d c (line_along d u.pair) v.pair v.is ids;
      part = part_of d h.line p q h.way h.on (subst (λ l. Holds l q) lines k.on);
    }

-- a run that begins further back draws a longer line
pub begun_sooner : (a : Arena) → IsArena a → (d : Dir) (z b : ℕ) (r p q : Point) → LiesFurther a d z b → StandsAt a z r → StandsAt a b p → IsPartOf (line_between d p q) (line_between d r q)
begun_sooner a arena d z b r p q f at_r at_p = let on = apart a d z b r p arena f at_r at_p in by_dir d on.1
  where
    by_dir : (e : Dir) → p ≡ forward e (distance r p) r → IsPartOf (line_between e p q) (line_between e r q)
    by_dir East on = let x : p.x ≡ r.x +ℤ pos (distance r p) = ap (λ (k : Point). k.x) on in record { way = refl; at = ap (λ (k : Point). k.y) on; from = omega (arith, ints, x); to = omega (arith, ints) }
    by_dir South on = let y : p.y ≡ r.y +ℤ pos (distance r p) = ap (λ (k : Point). k.y) on in record { way = refl; at = ap (λ (k : Point). k.x) on; from = omega (arith, ints, y); to = omega (arith, ints) }
    by_dir West on = let x : p.x ≡ r.x -ℤ pos (distance r p) = ap (λ (k : Point). k.x) on in record { way = refl; at = ap (λ (k : Point). k.y) on; from = omega (arith, ints); to = omega (arith, ints, x) }
    by_dir North on = let y : p.y ≡ r.y -ℤ pos (distance r p) = ap (λ (k : Point). k.y) on in record { way = refl; at = ap (λ (k : Point). k.x) on; from = omega (arith, ints); to = omega (arith, ints, y) }

-- and so does one that ends further on
pub ended_later : (a : Arena) → IsArena a → (d : Dir) (c e : ℕ) (p q r : Point) → LiesFurther a d c e → StandsAt a c q → StandsAt a e r → IsPartOf (line_between d p q) (line_between d p r)
ended_later a arena d c e p q r f at_q at_r = let on = apart a d c e q r arena f at_q at_r in by_dir d on.1
  where
    by_dir : (e : Dir) → r ≡ forward e (distance q r) q → IsPartOf (line_between e p q) (line_between e p r)
    by_dir East on = let x : r.x ≡ q.x +ℤ pos (distance q r) = ap (λ (k : Point). k.x) on in record { way = refl; at = refl; from = omega (arith, ints); to = omega (arith, ints, x) }
    by_dir South on = let y : r.y ≡ q.y +ℤ pos (distance q r) = ap (λ (k : Point). k.y) on in record { way = refl; at = refl; from = omega (arith, ints); to = omega (arith, ints, y) }
    by_dir West on = let x : r.x ≡ q.x -ℤ pos (distance q r) = ap (λ (k : Point). k.x) on in record { way = refl; at = refl; from = omega (arith, ints, x); to = omega (arith, ints) }
    by_dir North on = let y : r.y ≡ q.y -ℤ pos (distance q r) = ap (λ (k : Point). k.y) on in record { way = refl; at = refl; from = omega (arith, ints, y); to = omega (arith, ints) }
