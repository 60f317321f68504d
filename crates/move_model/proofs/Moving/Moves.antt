-- Moves: there is one in each direction at most, and its steps are clear.
use Rattle.std.proofs.Common.{◌≡◌, ℕ, ◌<◌, None, replicate, sym, ap, subst, ◌∙◌, List}
use Rattle.plane_geom.specs.declared.point.Point.{Point}
use Rattle.plane_geom.specs.declared.point.Dir.{Dir}
use Rattle.plane_geom.specs.declared.floor.Floor.{Floor}
use Rattle.plane_geom.specs.Point.{distance, forward, heading}
use Rattle.plane_geom.proofs.Headings.{forward_distance, forward_heading}
use Rattle.line_arena.specs.Arena.{Arena, IsArena, IsNearest, LiesFurther, StandsAt}
use Rattle.line_arena.specs.Stands.{StandsFor}
use Rattle.line_arena.proofs.Arenas.ArenaLaws.{one_point}
use Rattle.walk_laws.proofs.Steps.Clear.{IsClear}
use Rattle.walk_laws.proofs.OnKeptLines.OneRun.{joined_on_piece}
use Rattle.move_model.specs.declared.place.Place.{Place}
use Rattle.move_model.specs.Places.{ComesTo, IsMove}
use Rattle.move_model.proofs.Moving.Crossings.{IsAlong, along_line, one_nearest, straight_on}
use Rattle.move_model.proofs.Moving.Stages.{one_stage}

-- different numbers of steps in a direction end at different points
pub same_steps : (d : Dir) (m n : ℕ) (p : Point) → forward d m p ≡ forward d n p → m ≡ n
same_steps d m n p e = sym (forward_distance d m p) ∙ ap (distance p) e ∙ forward_distance d n p

same_place : (x y : Place) → x.crossing ≡ y.crossing → x.stage ≡ y.stage → x.heading ≡ y.heading → x ≡ y
same_place x y c k h = λ i. record { crossing = c i; stage = k i; heading = h i }

-- from a place one move leads in a direction
pub one_move : (a : Arena) → IsArena a → (via : List Point) (x y z : Place) (m n : ℕ) → IsMove a via x m y → IsMove a via x n z → y.heading ≡ z.heading → (m ≡ n) × (y ≡ z)
one_move a arena via x y z m n h g e =
    let to : y.crossing ≡ z.crossing = one_nearest a arena y.heading x.crossing y.crossing z.crossing h.next (subst (λ d. IsNearest a d x.crossing z.crossing) (sym e) g.next) in
    let from : h.begin ≡ g.begin = one_point a x.crossing h.begin g.begin arena h.here g.here in
    let ends : h.end ≡ g.end = one_point a z.crossing h.end g.end arena (subst (λ c. StandsAt a c h.end) to h.there) g.there in
    let stage : y.stage ≡ z.stage = one_stage via x.stage y.stage z.stage g.end (subst (λ p. ComesTo via x.stage p y.stage) ends h.stage) g.stage in
    let steps : forward z.heading m g.begin ≡ forward z.heading n g.begin =
    ap (forward z.heading m) (sym from) ∙ ap (λ d. forward d m h.begin) (sym e) ∙ sym h.straight ∙ ends ∙ g.straight in
    (same_steps z.heading m n g.begin steps, same_place y z to stage e)

-- the steps along a line that holds both ends are clear
pub along_clear : (floor : Floor) (p : Point) (d : Dir) (n : ℕ) (q : Point) → IsAlong floor p d n q → IsClear floor.solids None p (replicate n d)
along_clear floor p d n q l =
    let joined = joined_on_piece floor l.line p q l.kept.longest.piece l.begin l.end in
    let long : distance p q ≡ n = ap (distance p) l.straight ∙ forward_distance d n p in
    let leads : heading p q ≡ d = ap (heading p) l.straight ∙ forward_heading d n p l.some in
    subst (λ e. IsClear floor.solids None p (replicate n e)) leads (subst (λ k. IsClear floor.solids None p (replicate k (heading p q))) long joined.clear)

-- so are the steps of a move
pub move_clear : (floor : Floor) (a : Arena) → IsArena a → StandsFor floor a → (via : List Point) (x : Place) (n : ℕ) (y : Place) → (m : IsMove a via x n y) → IsClear floor.solids None m.begin (replicate n y.heading)
move_clear floor a arena stands via x n y m =
    let l = along_line a arena floor stands y.heading x.crossing y.crossing m.begin m.end m.next.lies m.here m.there in
    let steps : l.0 ≡ n = same_steps y.heading l.0 n m.begin (sym l.1.straight ∙ m.straight) in
    subst (λ k. IsClear floor.solids None m.begin (replicate k y.heading)) steps (along_clear floor m.begin y.heading l.0 m.end l.1)

-- to the nearest crossing leads a move, as long as the two points are apart
pub apart : (a : Arena) (d : Dir) (b c : ℕ) (p q : Point) → IsArena a → LiesFurther a d b c → StandsAt a b p → StandsAt a c q → (0 < distance p q) × (q ≡ forward d (distance p q) p)
apart a d b c p q arena f at_p at_q =
    let on = straight_on a arena d b c p q f at_p at_q in
    let long : on.0 ≡ distance p q = sym (forward_distance d on.0 p) ∙ ap (distance p) (sym on.2) in
    (subst (λ n. 0 < n) long on.1, on.2 ∙ ap (λ n. forward d n p) long)

pub made_move : (a : Arena) (via : List Point) (x y : Place) (p q : Point) → IsArena a → StandsAt a x.crossing p → StandsAt a y.crossing q → IsNearest a y.heading x.crossing y.crossing → ComesTo via x.stage q y.stage → IsMove a via x (distance p q) y
made_move a via x y p q arena at_p at_q near stage =
    let on = apart a y.heading x.crossing y.crossing p q arena near.lies at_p at_q in
    record { begin = p; end = q; here = at_p; there = at_q; next = near; straight = on.1; some = on.0; stage = stage }
