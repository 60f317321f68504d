-- The move to the next crossing in a direction.
use Rattle.std.proofs.Common.{◌≡◌, ℕ, ◌<◌, refl, sym, ap, subst, ◌∙◌}
use Rattle.plane_geom.specs.declared.point.Point.{Point}
use Rattle.plane_geom.specs.declared.point.Dir.{Dir}
use Rattle.plane_geom.specs.Point.{distance, forward}
use Rattle.plane_geom.proofs.Headings.{forward_distance}
use Rattle.line_arena.specs.Arena.{IsNearest, StandsAt}
use Rattle.move_model.specs.declared.place.Place.{Place}
use Rattle.move_model.specs.Places.{ComesTo, IsMove}
use Rattle.move_model.proofs.Moving.Crossings.{along_line}
use Rattle.search_problem.specs.Problems.{IsReady}
use Rattle.search_problem.specs.declared.problem.Problem.{Problem}

pub the_move : (p : Problem) (x : Place) (d : Dir) (c k n : ℕ) (from at : Point) → n ≡ distance from at → IsReady p → StandsAt p.arena.now x.crossing from → StandsAt p.arena.now c at
    → IsNearest p.arena.now d x.crossing c → ComesTo p.task.now.via x.stage at k
    → (m : IsMove p.arena.now p.task.now.via x n (record { crossing = c; stage = k; heading = d })) × (m.begin ≡ from)
the_move p x d c k n from at far ready here there nearest stage =
    let l = along_line p.arena.now ready.arena ready.floor ready.problem.stands d x.crossing c from at nearest.lies here there in
    let long : n ≡ l.0 = far ∙ ap (distance from) l.1.straight ∙ forward_distance d l.0 from in (
      record {
        begin = from;
        end = at;
        here = here;
        there = there;
        next = nearest;
        straight = l.1.straight ∙ ap (λ m. forward d m from) (sym long);
        some = subst (λ m. 0 < m) (sym long) l.1.some;
        stage = stage;
      },
      refl,
    )
