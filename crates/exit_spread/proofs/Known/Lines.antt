-- Crossings of one line, by the number of the line and by how far on they lie.
use Rattle.std.proofs.Common.{◌≡◌, ◌⊎◌, ℕ, pos, ◌+ℤ◌, ◌≤ℤ◌, ◌<ℤ◌, Some, refl, sym, ap, subst, ◌∙◌, inl, inr, arith}
use Rattle.std.specs.Int.{int_gap}
use Rattle.std.specs.FinMap.{get}
use Rattle.std.proofs.lemmas.Bool.Decides.{eqb_tells}
use Rattle.std.proofs.lemmas.Int.{ints}
use Rattle.plane_geom.specs.declared.point.Point.{Point}
use Rattle.plane_geom.specs.declared.point.Dir.{Dir}
use Rattle.plane_geom.specs.declared.point.Dir.TheVariants.{East, South, West, North}
use Rattle.plane_geom.specs.declared.point.Way.{Way}
use Rattle.plane_geom.specs.declared.point.Way.TheVariants.{Vertical, Horizontal}
use Rattle.plane_geom.specs.declared.floor.Line.{Line}
use Rattle.plane_geom.specs.Along.{across, along, reach, way_of}
use Rattle.plane_geom.specs.Floor.{Holds, point_on}
use Rattle.plane_geom.specs.Point.{distance}
use Rattle.plane_geom.proofs.Headings.{same_point}
use Rattle.plane_geom.proofs.Held.{held_across, held_along}
use Rattle.line_arena.specs.Arena.{Arena, IsArena, LiesFurther, StandsAt, line_along}
use Rattle.line_arena.proofs.Arenas.ArenaLaws.{IsHeldAlong, held_in, one_further, placed, same_pair}
use Rattle.walk_laws.proofs.Steps.Shift.{across-forward}
use Rattle.walk_laws.proofs.Steps.Straight.{reach-forward}
use Rattle.move_model.proofs.Moving.Moves.{apart}
use Rattle.exit_rows.proofs.Orders.{gap_above}
use Rattle.exit_spread.specs.Ways.{AreNumbered}

-- ---- points of one line

-- a line holds what lies between two of its points
held_within : (way : Way) (l : Line) (p q r : Point) → l.way ≡ way → Holds l p → Holds l q → across way r ≡ across way p → along way p ≤ℤ along way r → along way r ≤ℤ along way q → Holds l r
held_within Vertical l p q r e h g same low high =
    let first = h.from in
    let begin = held_along Vertical l p e h in
    let last = g.to in
    let end = held_along Vertical l q e g in
    record {
      along = r.y;
      from = omega (arith, ints, first, begin, low);
      to = omega (arith, ints, last, end, high);
      here = same_point r (point_on Vertical l.at r.y) (same ∙ held_across Vertical l p e h) refl ∙ ap (λ (w : Way). point_on w l.at r.y) (sym e);
    }
held_within Horizontal l p q r e h g same low high =
    let first = h.from in
    let begin = held_along Horizontal l p e h in
    let last = g.to in
    let end = held_along Horizontal l q e g in
    record {
      along = r.x;
      from = omega (arith, ints, first, begin, low);
      to = omega (arith, ints, last, end, high);
      here = same_point r (point_on Horizontal l.at r.x) refl (same ∙ held_across Horizontal l p e h) ∙ ap (λ (w : Way). point_on w l.at r.x) (sym e);
    }

held_between : (d : Dir) (l : Line) (p q r : Point) → l.way ≡ way_of d → Holds l p → Holds l q → across (way_of d) r ≡ across (way_of d) p → reach d p ≤ℤ reach d r → reach d r ≤ℤ reach d q → Holds l r
held_between East l p q r e h g same low high = held_within Horizontal l p q r e h g same low high
held_between South l p q r e h g same low high = held_within Vertical l p q r e h g same low high
held_between West l p q r e h g same low high =
    let level : p.y ≡ q.y = held_across Horizontal l p e h ∙ sym (held_across Horizontal l q e g) in
    held_within Horizontal l q p r e g h (same ∙ level) (omega (arith, ints, high)) (omega (arith, ints, low))
held_between North l p q r e h g same low high =
    let level : p.x ≡ q.x = held_across Vertical l p e h ∙ sym (held_across Vertical l q e g) in
    held_within Vertical l q p r e g h (same ∙ level) (omega (arith, ints, high)) (omega (arith, ints, low))

-- points of one whole line that are equally far on are one
pub one_by_reach : (d : Dir) (p q : Point) → across (way_of d) p ≡ across (way_of d) q → reach d p ≡ reach d q → p ≡ q
one_by_reach East p q level same = same_point p q same level
one_by_reach South p q level same = same_point p q level same
one_by_reach West p q level same = same_point p q (omega (arith, ints, same)) level
one_by_reach North p q level same = same_point p q level (omega (arith, ints, same))

-- ---- crossings of one line

module _ (a : Arena) (arena : IsArena a) (d : Dir) where
  -- what lies further on is further by its distance
  pub further_reach : (b c : ℕ) (p q : Point) → LiesFurther a d b c → StandsAt a b p → StandsAt a c q → reach d q ≡ reach d p +ℤ pos (distance p q)
  further_reach b c p q f at_p at_q = let on = apart a d b c p q arena f at_p at_q in ap (reach d) on.1 ∙ reach-forward d (distance p q) p

  pub further_less : (b c : ℕ) (p q : Point) → LiesFurther a d b c → StandsAt a b p → StandsAt a c q → reach d p <ℤ reach d q
  further_less b c p q f at_p at_q =
      let on = apart a d b c p q arena f at_p at_q in
      let far = further_reach b c p q f at_p at_q in
      omega (arith, ints, on.0, far)

  pub further_gap : (b c : ℕ) (p q : Point) → LiesFurther a d b c → StandsAt a b p → StandsAt a c q → int_gap (reach d p) (reach d q) ≡ distance p q
  further_gap b c p q f at_p at_q =
      let far = further_reach b c p q f at_p at_q in
      let less = further_less b c p q f at_p at_q in
      let gap = gap_above (reach d p) (reach d q) (omega (arith, ints, less)) in
      omega (arith, ints, gap, far)

  -- and it stands on the same whole line
  pub further_across : (b c : ℕ) (p q : Point) → LiesFurther a d b c → StandsAt a b p → StandsAt a c q → across (way_of d) q ≡ across (way_of d) p
  further_across b c p q f at_p at_q = let on = apart a d b c p q arena f at_p at_q in ap (across (way_of d)) on.1 ∙ across-forward d (distance p q) p

  -- a crossing on the whole line between the two lies between them on their line
  pub lies_between : (b c z : ℕ) (p q r : Point) → LiesFurther a d b c → StandsAt a b p → StandsAt a c q → StandsAt a z r → across (way_of d) r ≡ across (way_of d) p →
      reach d p <ℤ reach d r → reach d r <ℤ reach d q → LiesFurther a d b z × LiesFurther a d z c
  lies_between b c z p q r f at_p at_q at_r level low high =
      let u = placed a b p arena at_p in
      let v = placed a c q arena at_q in
      let w = placed a z r arena at_r in
      let h : IsHeldAlong a u.pair p d = held_in a b p d u in
      let k : IsHeldAlong a v.pair q d = held_in a c q d v in
      let m : IsHeldAlong a w.pair r d = held_in a z r d w in
      let ids : line_along d v.pair ≡ line_along d u.pair =
      ap (line_along d) (same_pair v.pair f.there (sym v.is ∙ f.is_there)) ∙ f.line ∙ ap (line_along d) (same_pair f.here u.pair (sym f.is_here ∙ u.is)) in
      let lines : k.line ≡ h.line = let both : Some k.line ≡ Some h.line = sym k.is ∙ ap (get a.lines) ids ∙ h.is in cc in
      let on : Holds h.line r = held_between d h.line p q r h.way h.on (subst (λ l. Holds l q) lines k.on) level (omega (arith, ints, low)) (omega (arith, ints, high)) in
      let at : h.line.at ≡ m.line.at = sym (held_across (way_of d) h.line r h.way on) ∙ held_across (way_of d) m.line r m.way m.on in
      let same : line_along d u.pair ≡ line_along d w.pair =
      arena.apart (line_along d u.pair) (line_along d w.pair) h.line m.line r h.is m.is (record { way = h.way ∙ sym m.way; at = at }) on m.on in (
        record { here = u.pair; there = w.pair; is_here = u.is; is_there = w.is; line = sym same; start = p; stop = r; stands_here = at_p; stands_there = at_r; further = low },
        record { here = w.pair; there = v.pair; is_here = w.is; is_there = v.is; line = ids ∙ same; start = r; stop = q; stands_here = at_r; stands_there = at_q; further = high },
      )

  module _ (number_of : ℕ → Way → ℕ) (numbered : AreNumbered a number_of) where
    pub one_number : (b c : ℕ) → LiesFurther a d b c → number_of b (way_of d) ≡ number_of c (way_of d)
    one_number b c f = (numbered.one b c d d f.here f.there f.is_here f.is_there).1 (sym f.line)

    -- of two crossings of one line the one that is further on lies further
    pub lies_by_reach : (b c : ℕ) (p q : Point) → StandsAt a b p → StandsAt a c q → number_of b (way_of d) ≡ number_of c (way_of d) → reach d p <ℤ reach d q → LiesFurther a d b c
    lies_by_reach b c p q at_p at_q same less = record {
      here = at_p.pair;
      there = at_q.pair;
      is_here = at_p.is;
      is_there = at_q.is;
      line = sym ((numbered.one b c d d at_p.pair at_q.pair at_p.is at_q.is).0 same);
      start = p;
      stop = q;
      stands_here = at_p;
      stands_there = at_q;
      further = less;
    }

    -- and the one that is no less far on is the other, or lies further
    pub no_nearer : (b c : ℕ) (p q : Point) → StandsAt a b p → StandsAt a c q → number_of b (way_of d) ≡ number_of c (way_of d) → reach d p ≤ℤ reach d q → (b ≡ c) ⊎ LiesFurther a d b c
    no_nearer b c p q at_p at_q same upto = elim (eqb_tells b c) as (λ _. (b ≡ c) ⊎ LiesFurther a d b c) [
      | inl equal ↦ inl equal.1
      | inr other ↦ elim (one_further a d b c at_p.pair at_q.pair arena at_p.is at_q.is (sym ((numbered.one b c d d at_p.pair at_q.pair at_p.is at_q.is).0 same)) other.1) as (λ _. (b ≡ c) ⊎ LiesFurther a d b c) [
        | inl further ↦ inr further
        | inr before ↦ absurd (let less = further_less c b q p before at_q at_p in omega (arith, ints, less, upto))
      ]
    ]
