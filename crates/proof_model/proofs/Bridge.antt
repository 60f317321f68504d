-- What an arena that stands for a floor says of the floor's crossings and of the moves between them.
use Rattle.std.proofs.Common.{◌≡◌, ℕ, ◌+◌, ◌*◌, ◌≤◌, refl, sym, ap, subst, ◌∙◌, inl, inr, arith}
use Rattle.plane_geom.specs.declared.point.Point.{Point}
use Rattle.plane_geom.specs.declared.point.Dir.{Dir}
use Rattle.plane_geom.specs.declared.floor.Floor.{Floor}
use Rattle.plane_geom.specs.Floor.{IsCrossing}
use Rattle.plane_geom.specs.Point.{distance, forward}
use Rattle.plane_geom.proofs.Headings.{forward_distance}
use Rattle.line_arena.specs.Arena.{Arena, IsArena, IsNearest, LiesFurther, StandsAt}
use Rattle.line_arena.specs.Stands.{StandsFor}
use Rattle.line_arena.proofs.Arenas.ArenaLaws.{crossings_of_floor, one_point}
use Rattle.walk_model.specs.declared.task.Task.{Task}
use Rattle.walk_model.specs.Cost.{turn}
use Rattle.walk_model.proofs.CornerByCorner.Scan.{forward-forward}
use Rattle.move_model.specs.declared.place.Place.{Place as Standing}
use Rattle.move_model.specs.Places.{IsMove as Moves}
use Rattle.move_model.proofs.Moving.Crossings.{IsAlong, along_line, further_along, straight_on}
use Rattle.move_model.proofs.Moving.Moves.{same_steps}
use Rattle.proof_model.specs.Crossings.{IsNextCrossing, LiesAhead}
use Rattle.proof_model.specs.Places.{Place, IsMove}

-- the place, whose crossing stands at the point
abbrev pub at_point : Standing → Point → Place
at_point x p = record { stage = x.stage; at = p; heading = x.heading }

module _ (floor : Floor) where
  pub lies_ahead : (p : Point) (d : Dir) (n : ℕ) (q : Point) → IsAlong floor p d n q → LiesAhead floor d p n q
  lies_ahead p d n q l = record { line = l.line; kept = l.kept; way = l.way; begin = l.begin; end = l.end; some = l.some; straight = l.straight }

  pub is_along : (p : Point) (d : Dir) (n : ℕ) (q : Point) → LiesAhead floor d p n q → IsAlong floor p d n q
  is_along p d n q l = record { line = l.line; kept = l.kept; way = l.way; begin = l.begin; end = l.end; some = l.some; straight = l.straight }

  -- one crossing is the next one
  pub one_next : (d : Dir) (p : Point) (m n : ℕ) (q r : Point) → IsNextCrossing floor d p m q → IsNextCrossing floor d p n r → (m ≡ n) × (q ≡ r)
  one_next d p m n q r h g =
      let upto = h.nearest n r g.crossing g.ahead in
      let onto = g.nearest m q h.crossing h.ahead in
      let steps : m ≡ n = omega (arith, upto, onto) in
      (steps, h.ahead.straight ∙ ap (λ k. forward d k p) steps ∙ sym g.ahead.straight)

  module _ (a : Arena) (arena : IsArena a) (stands : StandsFor floor a) where
    pub crossing_of : (c : ℕ) (p : Point) → StandsAt a c p → IsCrossing floor p
    crossing_of c p at = (crossings_of_floor floor a arena stands p).1 (c, at)

    pub crossing_at : (p : Point) → IsCrossing floor p → (c : ℕ) × StandsAt a c p
    crossing_at p crossing = (crossings_of_floor floor a arena stands p).0 crossing

    -- what is nearest in the arena is the next crossing of the floor
    pub next_crossing : (d : Dir) (b c : ℕ) (p q : Point) (n : ℕ) → StandsAt a b p → StandsAt a c q → IsNearest a d b c → q ≡ forward d n p →
        IsNextCrossing floor d p n q
    next_crossing d b c p q n at_b at_c near straight = record {
      crossing = crossing_of c q at_c;
      ahead = subst (λ k. LiesAhead floor d p k q) steps (lies_ahead p d on.0 q on.1);
      nearest = no_nearer;
    }
      where
        on : (k : ℕ) × IsAlong floor p d k q
        on = along_line a arena floor stands d b c p q near.lies at_b at_c

        steps : on.0 ≡ n
        steps = same_steps d on.0 n p (sym on.1.straight ∙ straight)

        no_nearer : (m : ℕ) (r : Point) → IsCrossing floor r → LiesAhead floor d p m r → n ≤ m
        no_nearer m r crossing l =
            let found = crossing_at r crossing in
            elim (near.others found.0 (further_along a arena floor stands d b found.0 p r m (is_along p d m r l) at_b found.1)) as (λ _. n ≤ m) [
              | inl same ↦ (
                  let points : q ≡ r = one_point a c q r arena at_c (subst (λ k. StandsAt a k r) same found.1) in
                  let e : n ≡ m = same_steps d n m p (sym straight ∙ points ∙ l.straight) in
                  omega (arith, e))
              | inr past ↦ (
                  let more = along_line a arena floor stands d c found.0 q r past at_c found.1 in
                  let whole : forward d (n + more.0) p ≡ forward d m p = sym (forward-forward d more.0 n p) ∙ ap (forward d more.0) (sym straight)
                  ∙ sym more.1.straight ∙ l.straight in
                  let e : n + more.0 ≡ m = same_steps d (n + more.0) m p whole in
                  omega (arith, e))
            ]

    -- a move from crossing to crossing of the arena is one on the floor
    pub floor_move : (task : Task) (x : Standing) (p : Point) (n : ℕ) (y : Standing) → StandsAt a x.crossing p → (m : Moves a task.via x n y) →
        IsMove floor task (at_point x p) (n + task.penalty * turn x.heading y.heading) (at_point y m.end)
    floor_move task x p n y at m =
        let begin : m.begin ≡ p = one_point a x.crossing m.begin p arena m.here at in
        record {
          steps = n;
          next = next_crossing y.heading x.crossing y.crossing p m.end n at m.there m.next (m.straight ∙ ap (forward y.heading n) begin);
          stage = m.stage;
          costs = refl;
        }

    -- where no crossing of the arena lies further, the floor has no next crossing
    pub no_next : (d : Dir) (b : ℕ) (p : Point) → StandsAt a b p → ((c : ℕ) → LiesFurther a d b c → ⊥) → (n : ℕ) (q : Point) → IsNextCrossing floor d p n q → ⊥
    no_next d b p at none n q next =
        let found = crossing_at q next.crossing in
        none found.0 (further_along a arena floor stands d b found.0 p q n (is_along p d n q next.ahead) at found.1)

    -- what is nearest in the arena is the only next crossing
    pub only_next : (d : Dir) (b c : ℕ) (p q : Point) → StandsAt a b p → StandsAt a c q → IsNearest a d b c → (n : ℕ) (r : Point) →
        IsNextCrossing floor d p n r → (n ≡ distance p q) × (r ≡ q)
    only_next d b c p q at_b at_c near n r next =
        let on = straight_on a arena d b c p q near.lies at_b at_c in
        let one = one_next d p n on.0 r q next (next_crossing d b c p q on.0 at_b at_c near on.2) in
        let long : on.0 ≡ distance p q = sym (forward_distance d on.0 p) ∙ ap (distance p) (sym on.2) in
        (one.0 ∙ long, one.1)
