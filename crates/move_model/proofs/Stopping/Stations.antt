-- Each way that does not end at once begins with straight legs to a station.
use Rattle.std.proofs.Common.{◌≡◌, ◌⊎◌, ◌<◌, List, [], ◌∷◌, ◌++◌, refl, sym, ap, subst, ◌∙◌, inl, inr, arith, append_assoc}
use Rattle.std.proofs.lemmas.Bool.{cases_lt}
use Rattle.plane_geom.specs.declared.point.Point.{Point}
use Rattle.plane_geom.specs.declared.point.Dir.{Dir}
use Rattle.plane_geom.specs.declared.rect.Solid.{Solid}
use Rattle.line_arena.specs.Arena.{Arena, StandsAt}
use Rattle.walk_model.specs.declared.task.Choice.{Choice}
use Rattle.walk_model.specs.declared.task.Task.{Task}
use Rattle.walk_model.specs.Order.{Triple}
use Rattle.walk_model.proofs.CornerByCorner.Bends.{one_direction}
use Rattle.move_model.specs.declared.place.Place.{Place}
use Rattle.move_model.specs.Places.{IsMove}
use Rattle.move_model.specs.Ways.{GoesAlongWay, HasRest, IsWay, Leads, Leg}
use Rattle.move_model.specs.Stations.{BeginsWithTurn, GoesStraight, HasStation}
use Rattle.move_model.proofs.GoingOn.Joined.{legs_behind}
use Rattle.move_model.proofs.Stopping.StraightLegs.{more_straight, one_straight}

module _ (solids : List Solid) (a : Arena) (via : List Point) (e : Choice) where
  -- the station of the rest is one of the whole, if the stage stays and the way goes straight on
  one_more : (x : Place) (l : Leg) (rest : List Leg) (d : Dir) → IsMove a via x l.steps l.to → l.to.stage ≡ x.stage → d ≡ l.to.heading → HasStation solids a via l.to d rest e → HasStation solids a via x l.to.heading (l ∷ rest) e
  one_more x l rest d m stage same s = record {
    legs = l ∷ s.legs;
    back = s.back;
    to = s.to;
    split = ap (λ ls. l ∷ ls) s.split;
    straight = more_straight a via x l.to.heading l s.legs s.to m refl stage (subst (λ h. GoesStraight a via l.to h s.legs s.to) same s.straight);
    behind = s.behind;
    stops = elim s.stops as (λ _. (s.back ≡ []) ⊎ (BeginsWithTurn l.to.heading s.back ⊎ (x.stage < s.to.stage))) [
      | inl end ↦ inl end
      | inr other ↦ elim other as (λ _. (s.back ≡ []) ⊎ (BeginsWithTurn l.to.heading s.back ⊎ (x.stage < s.to.stage))) [
        | inl turns ↦ inr (inl (subst (λ h. BeginsWithTurn h s.back) same turns))
        | inr rises ↦ inr (inr (subst (λ k. k < s.to.stage) stage rises))
      ]
    ];
  }

  -- the first leg's end is a station
  at_once : (x : Place) (l : Leg) (rest : List Leg) → IsMove a via x l.steps l.to → IsWay solids a via l.to rest e → (rest ≡ []) ⊎ (BeginsWithTurn l.to.heading rest ⊎ (x.stage < l.to.stage)) →
      HasStation solids a via x l.to.heading (l ∷ rest) e
  at_once x l rest m way stops = record { legs = l ∷ []; back = rest; to = l.to; split = refl; straight = one_straight a via x l m; behind = way; stops = stops }

  pub some_station : (x : Place) (l : Leg) (rest : List Leg) → IsWay solids a via x (l ∷ rest) e → HasStation solids a via x l.to.heading (l ∷ rest) e
  some_station x l [] w = at_once x l [] w.0 w.1 (inl refl)
  some_station x l (m ∷ ms) w = elim (cases_lt x.stage l.to.stage) as (λ _. HasStation solids a via x l.to.heading (l ∷ m ∷ ms) e) [
    | inl rises ↦ at_once x l (m ∷ ms) w.0 w.1 (inr (inr rises))
    | inr not ↦ elim (one_direction l.to.heading m.to.heading) as (λ _. HasStation solids a via x l.to.heading (l ∷ m ∷ ms) e) [
      | inl same ↦ (
          let up = w.0.stage.from in
          let stage : l.to.stage ≡ x.stage = omega (arith, not, up) in
          one_more x l (m ∷ ms) m.to.heading w.0 stage (sym same) (some_station l.to m ms w.1))
      | inr turns ↦ at_once x l (m ∷ ms) w.0 w.1 (inr (inl turns))
    ]
  ]

-- what follows the first legs of a rest is one
pub rest_behind : (solids : List Solid) (a : Arena) (task : Task) (t : Triple) (along : GoesAlongWay solids a task t) (x y : Place) (p q : Point) (legs back : List Leg) →
    HasRest solids a task t along x p (legs ++ back) → Leads a task.via x legs y → StandsAt a y.crossing q → HasRest solids a task t along y q back
rest_behind solids a task t along x y p q legs back h leads at_q = record {
  front = h.front ++ legs;
  legs = h.legs ∙ sym (append_assoc h.front legs back);
  leads = legs_behind a task.via along.entry x y h.front legs h.leads leads;
  here = at_q;
}
