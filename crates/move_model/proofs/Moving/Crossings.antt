-- Crossings of an arena, one further on than the other along a line.
use Rattle.std.proofs.Common.{◌≡◌, ◌⊎◌, ℕ, ◌<◌, ◌<ℤ◌, Option, Some, refl, sym, ap, subst, ◌∙◌, inl, inr, arith}
use Rattle.std.specs.FinMap.{get}
use Rattle.std.proofs.lemmas.Bool.Decides.{eqb_tells}
use Rattle.std.proofs.lemmas.Int.{ints}
use Rattle.plane_geom.specs.declared.point.Point.{Point}
use Rattle.plane_geom.specs.declared.point.Dir.{Dir}
use Rattle.plane_geom.specs.declared.point.Dir.TheVariants.{East, South, West, North}
use Rattle.plane_geom.specs.declared.floor.Line.{Line}
use Rattle.plane_geom.specs.declared.floor.Floor.{Floor}
use Rattle.plane_geom.specs.Along.{across, reach, way_of}
use Rattle.plane_geom.specs.Floor.{Holds, IsKept}
use Rattle.plane_geom.specs.Point.{forward, opposite}
use Rattle.plane_geom.proofs.Headings.{same_point}
use Rattle.plane_geom.proofs.Held.{held_across}
use Rattle.plane_geom.proofs.Steps.{distance_up}
use Rattle.line_arena.specs.Arena.{Arena, IsArena, IsNearest, LiesFurther, StandsAt, line_along}
use Rattle.line_arena.specs.Stands.{StandsFor}
use Rattle.line_arena.proofs.Arenas.ArenaLaws.{IsHeldAlong, further_on, further_turned, held_in, never_further, one_further, one_point, placed, same_pair}
use Rattle.walk_laws.proofs.OnKeptLines.Lines.{one_line}
use Rattle.walk_laws.proofs.Steps.Straight.{reach-forward}

same_line : (x y : Line) → ◌≡◌ {A = Option Line} (Some x) (Some y) → x ≡ y
same_line x y e = cc

turned_twice : (d : Dir) → opposite (opposite d) ≡ d
turned_twice East = refl
turned_twice South = refl
turned_twice West = refl
turned_twice North = refl

-- the point is n steps on in the direction, and one line contains both points
pub record IsAlong (floor : Floor) (p : Point) (d : Dir) (n : ℕ) (q : Point) : Type 0 where
  pub line : Line
  pub kept : IsKept floor line
  pub way : line.way ≡ way_of d
  pub begin : Holds line p
  pub end : Holds line q
  pub some : 0 < n
  pub straight : q ≡ forward d n p

-- of two points at one coordinate, the one that lies further in a direction stands some steps on
steps_on : (d : Dir) (p q : Point) → across (way_of d) p ≡ across (way_of d) q → reach d p <ℤ reach d q → (n : ℕ) × (0 < n) × (q ≡ forward d n p)
steps_on East p q e h = let k = distance_up p.x q.x (omega (arith, ints)) in (k.0, omega (arith, ints, k.1, h), same_point q (forward East k.0 p) (sym k.1) (sym e))
steps_on South p q e h = let k = distance_up p.y q.y (omega (arith, ints)) in (k.0, omega (arith, ints, k.1, h), same_point q (forward South k.0 p) (sym e) (sym k.1))
steps_on West p q e h = let k = distance_up q.x p.x (omega (arith, ints, h)) in (k.0, omega (arith, ints, k.1, h), same_point q (forward West k.0 p) (omega (arith, ints, k.1)) (sym e))
steps_on North p q e h = let k = distance_up q.y p.y (omega (arith, ints, h)) in (k.0, omega (arith, ints, k.1, h), same_point q (forward North k.0 p) (sym e) (omega (arith, ints, k.1)))

module _ (a : Arena) (arena : IsArena a) where
  -- a crossing that lies further in a direction stands on the line of the first one
  record IsOnLine (d : Dir) (b : ℕ) (p q : Point) : Type 0 where
    id : ℕ
    line : Line
    is : get a.lines id ≡ Some line
    way : line.way ≡ way_of d
    begin : Holds line p
    end : Holds line q

  on_line : (d : Dir) (b c : ℕ) (p q : Point) → LiesFurther a d b c → StandsAt a b p → StandsAt a c q → IsOnLine d b p q
  on_line d b c p q f at_b at_c =
      let u = placed a b p arena at_b in
      let v = placed a c q arena at_c in
      let h : IsHeldAlong a u.pair p d = held_in a b p d u in
      let k : IsHeldAlong a v.pair q d = held_in a c q d v in
      let ids : line_along d v.pair ≡ line_along d u.pair =
      ap (line_along d) (same_pair v.pair f.there (sym v.is ∙ f.is_there)) ∙ f.line ∙ ap (line_along d) (same_pair f.here u.pair (sym f.is_here ∙ u.is)) in
      let lines : k.line ≡ h.line = same_line k.line h.line (sym k.is ∙ ap (get a.lines) ids ∙ h.is) in
      record { id = line_along d u.pair; line = h.line; is = h.is; way = h.way; begin = h.on; end = subst (λ l. Holds l q) lines k.on }

  -- some steps straight on
  pub straight_on : (d : Dir) (b c : ℕ) (p q : Point) → LiesFurther a d b c → StandsAt a b p → StandsAt a c q → (n : ℕ) × (0 < n) × (q ≡ forward d n p)
  straight_on d b c p q f at_b at_c =
      let l = on_line d b c p q f at_b at_c in
      let further : reach d p <ℤ reach d q =
      subst (λ x. reach d x <ℤ reach d q) (one_point a b f.start p arena f.stands_here at_b) (subst (λ x. reach d f.start <ℤ reach d x) (one_point a c f.stop q arena f.stands_there at_c) f.further) in
      steps_on d p q (held_across (way_of d) l.line p l.way l.begin ∙ sym (held_across (way_of d) l.line q l.way l.end)) further

  -- and where the arena stands for a floor, that line is a kept one
  pub along_line : (floor : Floor) → StandsFor floor a → (d : Dir) (b c : ℕ) (p q : Point) → LiesFurther a d b c → StandsAt a b p → StandsAt a c q → (n : ℕ) × IsAlong floor p d n q
  along_line floor stands d b c p q f at_b at_c =
      let l = on_line d b c p q f at_b at_c in
      let on = straight_on d b c p q f at_b at_c in
      (on.0, record { line = l.line; kept = (stands.lines l.line).0 (l.id, l.is); way = l.way; begin = l.begin; end = l.end; some = on.1; straight = on.2 })

  -- and of two crossings on a kept line, the one some steps on lies further
  pub further_along : (floor : Floor) → StandsFor floor a → (d : Dir) (b c : ℕ) (p q : Point) (n : ℕ) → IsAlong floor p d n q → StandsAt a b p → StandsAt a c q → LiesFurther a d b c
  further_along floor stands d b c p q n l at_b at_c =
      let u = placed a b p arena at_b in
      let v = placed a c q arena at_c in
      let h : IsHeldAlong a u.pair p d = held_in a b p d u in
      let k : IsHeldAlong a v.pair q d = held_in a c q d v in
      let first : h.line ≡ l.line = one_line floor h.line l.line p ((stands.lines h.line).0 (line_along d u.pair, h.is)) l.kept (h.way ∙ sym l.way) h.on l.begin in
      let second : k.line ≡ l.line = one_line floor k.line l.line q ((stands.lines k.line).0 (line_along d v.pair, k.is)) l.kept (k.way ∙ sym l.way) k.on l.end in
      let lines : k.line ≡ h.line = second ∙ sym first in
      let ids : line_along d v.pair ≡ line_along d u.pair =
      arena.apart (line_along d v.pair) (line_along d u.pair) k.line h.line q k.is h.is (record { way = ap (λ (m : Line). m.way) lines; at = ap (λ (m : Line). m.at) lines }) k.on (subst (λ m. Holds m q) lines k.on) in
      record {
        here = u.pair;
        there = v.pair;
        is_here = u.is;
        is_there = v.is;
        line = ids;
        start = p;
        stop = q;
        stands_here = at_b;
        stands_there = at_c;
        further = subst (λ x. reach d p <ℤ reach d x) (sym l.straight) (let up = reach-forward d n p in let some = l.some in omega (arith, ints, up, some));
      }

  -- two crossings of one line, of which neither is the other
  pub in_order : (d : Dir) (from b c : ℕ) → LiesFurther a d from b → LiesFurther a d from c → (b ≡ c) ⊎ (LiesFurther a d b c ⊎ LiesFurther a d c b)
  in_order d from b c f g =
      let line : line_along d g.there ≡ line_along d f.there = g.line ∙ ap (line_along d) (same_pair g.here f.here (sym g.is_here ∙ f.is_here)) ∙ sym f.line in
      elim (eqb_tells b c) as (λ _. (b ≡ c) ⊎ (LiesFurther a d b c ⊎ LiesFurther a d c b)) [
        | inl same ↦ inl same.1
        | inr other ↦ inr (one_further a d b c f.there g.there arena f.is_there g.is_there line other.1)
      ]

  -- the nearest crossing has the first one nearest in the direction back
  pub nearest_back : (d : Dir) (from to : ℕ) → IsNearest a d from to → IsNearest a (opposite d) to from
  nearest_back d from to h = record { lies = further_turned a d from to h.lies; others = others }
    where
      -- what is beyond the nearest crossing is not before the first one
      between : (c : ℕ) → LiesFurther a d c to → LiesFurther a d from c → ⊥
      between c g f = elim (h.others c f) as (λ _. ⊥) [
        | inl same ↦ never_further a d to arena (subst (λ k. LiesFurther a d k to) same g)
        | inr past ↦ never_further a d to arena (further_on a d to c to arena past g)
      ]

      others : (c : ℕ) → LiesFurther a (opposite d) to c → (c ≡ from) ⊎ LiesFurther a (opposite d) from c
      others c back =
          let g : LiesFurther a d c to = subst (λ e. LiesFurther a e c to) (turned_twice d) (further_turned a (opposite d) to c back) in
          let line : line_along d g.here ≡ line_along d h.lies.here = sym g.line ∙ ap (line_along d) (same_pair g.there h.lies.there (sym g.is_there ∙ h.lies.is_there)) ∙ h.lies.line in
          elim (eqb_tells c from) as (λ _. (c ≡ from) ⊎ LiesFurther a (opposite d) from c) [
            | inl same ↦ inl same.1
            | inr other ↦ elim (one_further a d c from g.here h.lies.here arena g.is_here h.lies.is_here (sym line) other.1) as (λ _. (c ≡ from) ⊎ LiesFurther a (opposite d) from c) [
              | inl before ↦ inr (further_turned a d c from before)
              | inr behind ↦ absurd (between c g behind)
            ]
          ]

  -- one crossing is the nearest
  pub one_nearest : (d : Dir) (from b c : ℕ) → IsNearest a d from b → IsNearest a d from c → b ≡ c
  one_nearest d from b c h g = elim (h.others c g.lies) as (λ _. b ≡ c) [
    | inl same ↦ sym same
    | inr past ↦ elim (g.others b h.lies) as (λ _. b ≡ c) [
      | inl same ↦ same
      | inr before ↦ absurd (never_further a d b arena (further_on a d b c b arena past before))
    ]
  ]
