-- Straight legs lead from a crossing to those further on along its line.
use Rattle.std.proofs.Common.{◌≡◌, ◌≢◌, ◌⊎◌, ℕ, suc, zero, ◌+◌, ◌≤◌, List, [], ◌∷◌, ◌++◌, All, Some, replicate, refl, sym, ap, subst, ◌∙◌, inl, inr, arith, append-nil}
use Rattle.std.specs.Prelude.{slice_get}
use Rattle.std.proofs.lemmas.List.{replicate-append-replicate}
use Rattle.std.proofs.lemmas.List.Elements.{All-cons, All-head, All-nil, All-tail}
use Rattle.plane_geom.specs.declared.point.Point.{Point}
use Rattle.plane_geom.specs.declared.point.Dir.{Dir}
use Rattle.plane_geom.specs.Point.{distance, forward}
use Rattle.plane_geom.proofs.Headings.{forward_distance}
use Rattle.line_arena.specs.Arena.{Arena, IsArena, IsNearest, LiesFurther, StandsAt}
use Rattle.line_arena.proofs.Arenas.ArenaLaws.{further_on, never_further, one_point}
use Rattle.walk_model.proofs.CornerByCorner.Scan.{forward-forward}
use Rattle.move_model.specs.declared.place.Place.{Place}
use Rattle.move_model.specs.Places.{ComesTo, IsMove}
use Rattle.move_model.specs.Ways.{Leads, Leg, steps_along}
use Rattle.move_model.specs.Stations.{AreStraightLegs, GoesStraight, HasNoneBetween}
use Rattle.move_model.proofs.Moving.Moves.{apart, made_move}
use Rattle.move_model.proofs.Moving.Nearest.{some_nearest}

pub one_straight : (a : Arena) (via : List Point) (x : Place) (l : Leg) → IsMove a via x l.steps l.to → GoesStraight a via x l.to.heading (l ∷ []) l.to
one_straight a via x l m = record {
  front = [];
  last = l;
  all = refl;
  leads = (m, refl);
  straight = All-cons (λ (k : Leg). k.to.heading ≡ l.to.heading) l [] refl (All-nil (λ (k : Leg). k.to.heading ≡ l.to.heading));
  same_stage = All-nil (λ (k : Leg). k.to.stage ≡ x.stage);
}

pub more_straight : (a : Arena) (via : List Point) (x : Place) (d : Dir) (l : Leg) (ls : List Leg) (y : Place) → IsMove a via x l.steps l.to → l.to.heading ≡ d → l.to.stage ≡ x.stage →
    GoesStraight a via l.to d ls y → GoesStraight a via x d (l ∷ ls) y
more_straight a via x d l ls y m on stage g = record {
  front = l ∷ g.front;
  last = g.last;
  all = ap (λ ks. l ∷ ks) g.all;
  leads = (m, g.leads);
  straight = All-cons (λ (k : Leg). k.to.heading ≡ d) l ls on g.straight;
  same_stage = All-cons (λ (k : Leg). k.to.stage ≡ x.stage) l g.front stage (subst (λ n. All (λ (k : Leg). k.to.stage ≡ n) g.front) stage g.same_stage);
}

module _ (a : Arena) (arena : IsArena a) (d : Dir) where
  -- by way of a second crossing it is as far to the third as both distances together
  pub distances_add : (b c e : ℕ) (p q r : Point) → LiesFurther a d b c → LiesFurther a d c e → StandsAt a b p → StandsAt a c q → StandsAt a e r → distance p r ≡ distance p q + distance q r
  distances_add b c e p q r f g at_p at_q at_r =
      let one = apart a d b c p q arena f at_p at_q in
      let two = apart a d c e q r arena g at_q at_r in
      ap (distance p) (two.1 ∙ ap (forward d (distance q r)) one.1 ∙ forward-forward d (distance q r) (distance p q) p) ∙ forward_distance d (distance p q + distance q r) p

  module _ (via : List Point) where
    -- one leg
    leg_on : (x : Place) (p : Point) (l : Leg) (q : Point) → IsMove a via x l.steps l.to → l.to.heading ≡ d → StandsAt a x.crossing p → StandsAt a l.to.crossing q →
        LiesFurther a d x.crossing l.to.crossing × (l.steps ≡ distance p q)
    leg_on x p l q m on at_p at_q =
        let begin : m.begin ≡ p = one_point a x.crossing m.begin p arena m.here at_p in
        let end : m.end ≡ q = one_point a l.to.crossing m.end q arena m.there at_q in (
          subst (λ h. LiesFurther a h x.crossing l.to.crossing) on m.next.lies,
          sym (forward_distance l.to.heading l.steps p) ∙ ap (distance p) (ap (forward l.to.heading l.steps) (sym begin) ∙ sym m.straight ∙ end),
        )

    -- straight legs lead along one line, and their steps are those to their end
    pub straight_lies : (x : Place) (l : Leg) (ls : List Leg) (y : Place) (p q : Point) → Leads a via x (l ∷ ls) y → AreStraightLegs d (l ∷ ls) → StandsAt a x.crossing p → StandsAt a y.crossing q →
        LiesFurther a d x.crossing y.crossing × (steps_along (l ∷ ls) ≡ replicate (distance p q) d)
    straight_lies x l [] y p q h s at_p at_q =
        let on : l.to.heading ≡ d = All-head (λ (k : Leg). k.to.heading ≡ d) l [] s in
        let one = leg_on x p l q h.0 on at_p (subst (λ (z : Place). StandsAt a z.crossing q) (sym h.1) at_q) in (
          subst (λ (z : Place). LiesFurther a d x.crossing z.crossing) h.1 one.0,
          append-nil (replicate l.steps l.to.heading) ∙ ap (λ n. replicate n l.to.heading) one.1 ∙ ap (replicate (distance p q)) on,
        )
    straight_lies x l (m ∷ ms) y p q h s at_p at_q =
        let on : l.to.heading ≡ d = All-head (λ (k : Leg). k.to.heading ≡ d) l (m ∷ ms) s in
        let r = h.0.end in
        let one = leg_on x p l r h.0 on at_p h.0.there in
        let rest = straight_lies l.to m ms y r q h.1 (All-tail (λ (k : Leg). k.to.heading ≡ d) l (m ∷ ms) s) h.0.there at_q in
        let long = distances_add x.crossing l.to.crossing y.crossing p r q one.0 rest.0 at_p h.0.there at_q in (
          further_on a d x.crossing l.to.crossing y.crossing arena one.0 rest.0,
          ap (λ ds. ds ++ steps_along (m ∷ ms)) (ap (λ n. replicate n l.to.heading) one.1 ∙ ap (replicate (distance p r)) on)
              ∙ ap (λ ds. replicate (distance p r) d ++ ds) rest.1
              ∙ replicate-append-replicate (distance p r) (distance r q) d
              ∙ ap (λ n. replicate n d) (sym long),
        )

    -- and where the stage stays, the next checkpoint is not between
    pub none_between : (x : Place) (front : List Leg) (last : Leg) (y : Place) → Leads a via x (front ++ (last ∷ [])) y → AreStraightLegs d (front ++ (last ∷ [])) → All (λ (k : Leg). k.to.stage ≡ x.stage) front →
        HasNoneBetween a via d x.stage x.crossing y.crossing
    none_between x [] last y h s same z r at_z f g =
        let on : last.to.heading ≡ d = All-head (λ (k : Leg). k.to.heading ≡ d) last [] s in
        let near : IsNearest a d x.crossing y.crossing = subst (λ (k : Place). IsNearest a d x.crossing k.crossing) h.1 (subst (λ e. IsNearest a e x.crossing last.to.crossing) on h.0.next) in
        elim (near.others z f) as (λ _. slice_get via x.stage ≢ Some r) [
          | inl equal ↦ absurd (never_further a d y.crossing arena (subst (λ k. LiesFurther a d k y.crossing) equal g))
          | inr past ↦ absurd (never_further a d y.crossing arena (further_on a d y.crossing z y.crossing arena past g))
        ]
    none_between x (l ∷ ls) last y h s same z r at_z f g =
        let on : l.to.heading ≡ d = All-head (λ (k : Leg). k.to.heading ≡ d) l (ls ++ (last ∷ [])) s in
        let stage : l.to.stage ≡ x.stage = All-head (λ (k : Leg). k.to.stage ≡ x.stage) l ls same in
        let near : IsNearest a d x.crossing l.to.crossing = subst (λ e. IsNearest a e x.crossing l.to.crossing) on h.0.next in
        elim (near.others z f) as (λ _. slice_get via x.stage ≢ Some r) [
          | inl equal ↦ (
              let point : h.0.end ≡ r = one_point a z h.0.end r arena (subst (λ k. StandsAt a k h.0.end) (sym equal) h.0.there) at_z in
              λ e. h.0.stage.no_more (ap (slice_get via) stage ∙ e ∙ ap Some (sym point)))
          | inr past ↦ (
              let rest = none_between l.to ls last y h.1 (All-tail (λ (k : Leg). k.to.heading ≡ d) l (ls ++ (last ∷ [])) s)
              (subst (λ n. All (λ (k : Leg). k.to.stage ≡ n) ls) (sym stage) (All-tail (λ (k : Leg). k.to.stage ≡ x.stage) l ls same)) z r at_z past g in
              λ e. rest (ap (slice_get via) stage ∙ e))
        ]

-- from a crossing straight legs lead to each one that lies further on, up to the next checkpoint
module _ (a : Arena) (arena : IsArena a) (via : List Point) (y : Place) (q : Point) (at_q : StandsAt a y.crossing q) where
  straight_from : (fuel : ℕ) (x : Place) (p : Point) → distance p q ≤ fuel → StandsAt a x.crossing p → LiesFurther a y.heading x.crossing y.crossing →
      HasNoneBetween a via y.heading x.stage x.crossing y.crossing → ComesTo via x.stage q y.stage → (legs : List Leg) × GoesStraight a via x y.heading legs y
  straight_from zero x p few at_p lies free comes = absurd (let some = apart a y.heading x.crossing y.crossing p q arena lies at_p at_q in omega (arith, few, some.0))
  straight_from (suc fuel) x p few at_p lies free comes = by_nearest (straight_from fuel) near.0 near.1 (near.1.others y.crossing lies)
    where
      near : (n : ℕ) × IsNearest a y.heading x.crossing n
      near = some_nearest a arena y.heading x.crossing y.crossing lies

      by_nearest : ((z : Place) (r : Point) → distance r q ≤ fuel → StandsAt a z.crossing r → LiesFurther a y.heading z.crossing y.crossing → HasNoneBetween a via y.heading z.stage z.crossing y.crossing → ComesTo via z.stage q y.stage → (legs : List Leg) × GoesStraight a via z y.heading legs y) →
          (n : ℕ) → IsNearest a y.heading x.crossing n → (y.crossing ≡ n) ⊎ LiesFurther a y.heading n y.crossing → (legs : List Leg) × GoesStraight a via x y.heading legs y
      by_nearest on n is (inl same) = (
        record { steps = distance p q; to = y } ∷ [],
        one_straight a via x (record { steps = distance p q; to = y }) (made_move a via x y p q arena at_p at_q (subst (IsNearest a y.heading x.crossing) (sym same) is) comes),
      )
      by_nearest on n is (inr past) =
          let r = is.lies.stop in
          let at_r = is.lies.stands_there in
          let z : Place = record { crossing = n; stage = x.stage; heading = y.heading } in
          let low = comes.from in
          let high = comes.within in
          let stage : ComesTo via x.stage r x.stage = record { from = omega arith; within = omega (arith, low, high); passed = λ i up down. absurd (omega (arith, up, down)); no_more = free n r at_r is.lies past } in
          let some = apart a y.heading x.crossing n p r arena is.lies at_p at_r in
          let long = distances_add a arena y.heading x.crossing n y.crossing p r q is.lies past at_p at_r at_q in
          let rest = on z r (omega (arith, few, some.0, long)) at_r past (λ c s at_c f g. free c s at_c (further_on a y.heading x.crossing n c arena is.lies f) g) comes in (
            record { steps = distance p r; to = z } ∷ rest.0,
            more_straight a via x y.heading (record { steps = distance p r; to = z }) rest.0 y (made_move a via x z p r arena at_p at_r is stage) refl refl rest.1,
          )

  pub straight_legs : (x : Place) (p : Point) → StandsAt a x.crossing p → LiesFurther a y.heading x.crossing y.crossing →
      HasNoneBetween a via y.heading x.stage x.crossing y.crossing → ComesTo via x.stage q y.stage → (legs : List Leg) × GoesStraight a via x y.heading legs y
  straight_legs x p at_p lies free comes = straight_from (distance p q) x p (omega arith) at_p lies free comes

-- what straight legs say of their ends
pub goes_lies : (a : Arena) → IsArena a → (via : List Point) (x : Place) (d : Dir) (legs : List Leg) (y : Place) (p q : Point) → GoesStraight a via x d legs y → StandsAt a x.crossing p → StandsAt a y.crossing q →
    LiesFurther a d x.crossing y.crossing × (steps_along legs ≡ replicate (distance p q) d)
goes_lies a arena via x d [] y p q g at_p at_q = absurd (nothing g.front g.all)
  where
    nothing : (front : List Leg) → [] ≡ front ++ (g.last ∷ []) → ⊥
    nothing [] e = cc
    nothing (l ∷ ls) e = let f : [] ≡ l ∷ (ls ++ (g.last ∷ [])) = e in cc
goes_lies a arena via x d (l ∷ ls) y p q g at_p at_q = straight_lies a arena d via x l ls y p q g.leads g.straight at_p at_q

pub goes_free : (a : Arena) → IsArena a → (via : List Point) (x : Place) (d : Dir) (legs : List Leg) (y : Place) → GoesStraight a via x d legs y → HasNoneBetween a via d x.stage x.crossing y.crossing
goes_free a arena via x d legs y g =
    none_between a arena d via x g.front g.last y (subst (λ ls. Leads a via x ls y) g.all g.leads) (subst (AreStraightLegs d) g.all g.straight) g.same_stage
