-- Lines and crossings that are added or removed.
use Rattle.std.proofs.Common.{◌≡◌, ◌≢◌, ℕ, ℤ, pos, ◌-ℤ◌, ◌<ℤ◌, ◌≤ℤ◌, Option, Some, None, inl, inr, refl, sym, ap, subst, ◌∙◌, arith}
use Rattle.std.proofs.lemmas.Int.{ints}
use Rattle.std.proofs.lemmas.Bool.{cases_eq}
use Rattle.std.specs.Prelude.{option_and_then}
use Rattle.std.specs.Option.{option_map}
use Rattle.slab.specs.Slab.{Updates}
use Rattle.plane_geom.specs.declared.point.Point.{Point}
use Rattle.plane_geom.specs.declared.point.Dir.{Dir}
use Rattle.plane_geom.specs.declared.point.Dir.TheVariants.{East, South, West, North}
use Rattle.plane_geom.specs.declared.point.Way.{Way}
use Rattle.plane_geom.specs.declared.point.Way.TheVariants.{Vertical, Horizontal}
use Rattle.plane_geom.specs.declared.floor.Line.{Line}
use Rattle.plane_geom.specs.Floor.{Holds, point_on}
use Rattle.line_arena.specs.declared.lists.Lists.{Lists}
use Rattle.line_arena.specs.declared.node.Node.{Node}
use Rattle.line_arena.specs.Entries.{entry_at}
use Rattle.line_arena.specs.Node.{next_of, start_of}
use Rattle.plane_geom.specs.Along.{reach, way_of}
use Rattle.line_arena.specs.Lists.{AreApart, AreLinked, AreLists, AreMet, IsApart, IsNext, IsSound, IsSpot, KnowsNeighbours, RunsAlong, SamePlaces, Spot, Stands, UpdatesAt, line_along, line_at, link, spot_at, spot_of, without}
use Rattle.line_arena.proofs.Linking.Nearest.{next_kept_at_removal}
use Rattle.line_arena.proofs.Linking.Linked.{kept_in, kept_out, own_reach, same_spot, without_itself, without_other, without_some}
use Rattle.line_arena.proofs.Linking.Joined.{spots_are}

-- a point that a line holds is its point there
pub held : (l : Line) (p : Point) (w : Way) → l.way ≡ w → (h : Holds l p) → p ≡ point_on w l.at h.along
held l p w e h = h.here ∙ ap (λ v. point_on v l.at h.along) e

turn : (a b : ℤ) → (pos 0 -ℤ a) ≡ (pos 0 -ℤ b) → a ≡ b
turn a b e = omega (arith, ints)

-- two points of a line that lie as far in its direction are one
pub one_point : (d : Dir) (l : Line) (p q : Point) → l.way ≡ way_of d → Holds l p → Holds l q → reach d p ≡ reach d q → p ≡ q
one_point East l p q w hp hq e =
    let a = held l p Horizontal w hp in
    let b = held l q Horizontal w hq in
    a ∙ ap (point_on Horizontal l.at) (sym (ap (λ r. r.x) a) ∙ e ∙ ap (λ r. r.x) b) ∙ sym b
one_point South l p q w hp hq e =
    let a = held l p Vertical w hp in
    let b = held l q Vertical w hq in
    a ∙ ap (point_on Vertical l.at) (sym (ap (λ r. r.y) a) ∙ e ∙ ap (λ r. r.y) b) ∙ sym b
one_point West l p q w hp hq e =
    let a = held l p Horizontal w hp in
    let b = held l q Horizontal w hq in
    a ∙ ap (point_on Horizontal l.at) (sym (ap (λ r. r.x) a) ∙ turn p.x q.x e ∙ ap (λ r. r.x) b) ∙ sym b
one_point North l p q w hp hq e =
    let a = held l p Vertical w hp in
    let b = held l q Vertical w hq in
    a ∙ ap (point_on Vertical l.at) (sym (ap (λ r. r.y) a) ∙ turn p.y q.y e ∙ ap (λ r. r.y) b) ∙ sym b

-- the line of a spot along which one travels in the direction
pub record SpotLine (lines : ℕ → Option Line) (s : Spot) (d : Dir) : Type 0 where
  pub line : Line
  pub is : lines (line_along d s) ≡ Some line
  pub way : line.way ≡ way_of d
  pub on : Holds line s.point

pub spot_line : (lines : ℕ → Option Line) (s : Spot) (d : Dir) → IsSpot lines s → SpotLine lines s d
spot_line lines s East h = record { line = h.horizontal; is = h.is_horizontal; way = h.horizontal_runs; on = h.on_horizontal }
spot_line lines s South h = record { line = h.vertical; is = h.is_vertical; way = h.vertical_runs; on = h.on_vertical }
spot_line lines s West h = record { line = h.horizontal; is = h.is_horizontal; way = h.horizontal_runs; on = h.on_horizontal }
spot_line lines s North h = record { line = h.vertical; is = h.is_vertical; way = h.vertical_runs; on = h.on_vertical }

-- one travels along the lines of a spot
pub spot_runs : (a : Lists) (s : Spot) → IsSpot (line_at a) s → (d : Dir) → RunsAlong a (line_along d s) d
spot_runs a s at d = let line = spot_line (line_at a) s d at in record { line = line.line; is = line.is; way = line.way }

same_line : (s t : Line) (o : Option Line) → o ≡ Some s → o ≡ Some t → s ≡ t
same_line s t o e f = cc

-- two spots of one line that lie as far in its direction are at one point
pub one_place : (lines : ℕ → Option Line) (d : Dir) (s t : Spot) → IsSpot lines s → IsSpot lines t → line_along d s ≡ line_along d t
    → reach d s.point ≡ reach d t.point → s.point ≡ t.point
one_place lines d s t hs ht on e =
    let a = spot_line lines s d hs in
    let b = spot_line lines t d ht in
    let same = same_line a.line b.line (lines (line_along d s)) a.is (ap lines on ∙ b.is) in
    one_point d a.line s.point t.point a.way a.on (subst (λ l. Holds l t.point) (sym same) b.on) e

pub apart_of_sound : (lines : ℕ → Option Line) (S : ℕ → Option Spot) → IsSound lines S → (d : Dir) → AreApart S d
apart_of_sound lines S sound d l c e z h k =
    sound.single c e h.spot k.spot h.is k.is
    (one_place lines d h.spot k.spot (sound.on_lines c h.spot h.is) (sound.on_lines e k.spot k.is) (h.line ∙ sym k.line) (h.along ∙ sym k.along))

-- two spots at one point are of the same lines
pub same_pair : (lines : ℕ → Option Line) (S : ℕ → Option Spot) → IsSound lines S → (s t : Spot) → IsSpot lines s → IsSpot lines t → s.point ≡ t.point
    → (s.vertical ≡ t.vertical) × (s.horizontal ≡ t.horizontal)
same_pair lines S sound s t hs ht e =
    let on_down : Holds ht.vertical s.point = subst (Holds ht.vertical) (sym e) ht.on_vertical in
    let on_across : Holds ht.horizontal s.point = subst (Holds ht.horizontal) (sym e) ht.on_horizontal in
    let down = held hs.vertical s.point Vertical hs.vertical_runs hs.on_vertical in
    let down_too = held ht.vertical s.point Vertical ht.vertical_runs on_down in
    let across = held hs.horizontal s.point Horizontal hs.horizontal_runs hs.on_horizontal in
    let across_too = held ht.horizontal s.point Horizontal ht.horizontal_runs on_across in (
      sound.apart s.vertical t.vertical hs.vertical ht.vertical s.point hs.is_vertical ht.is_vertical
          (record { way = hs.vertical_runs ∙ sym ht.vertical_runs; at = sym (ap (λ r. r.x) down) ∙ ap (λ r. r.x) down_too }) hs.on_vertical on_down,
      sound.apart s.horizontal t.horizontal hs.horizontal ht.horizontal s.point hs.is_horizontal ht.is_horizontal
          (record { way = hs.horizontal_runs ∙ sym ht.horizontal_runs; at = sym (ap (λ r. r.y) across) ∙ ap (λ r. r.y) across_too }) hs.on_horizontal on_across,
    )

some_apart : (s : Spot) → None ≡ Some s → ⊥
some_apart s e = cc

-- a new spot at no other's point keeps all sound
pub sound_put : (lines : ℕ → Option Line) (S To : ℕ → Option Spot) (k : ℕ) (spot : Spot) → IsSound lines S → IsSpot lines spot
    → ((c : ℕ) (s : Spot) → S c ≡ Some s → s.point ≢ spot.point) → UpdatesAt S To k (Some spot) → IsSound lines To
sound_put lines S To k spot sound at new updates = record {
  ordered = sound.ordered;
  apart = sound.apart;
  on_lines = λ c s is.
      elim (cases_eq c k) [
        | inl e ↦ subst (IsSpot lines) (same_spot spot s (To k) updates.changed (ap To (sym e) ∙ is)) at
        | inr ne ↦ sound.on_lines c s (sym (updates.others c ne) ∙ is)
      ];
  single = λ c e s t is it same.
      elim (cases_eq c k) [
        | inl ck ↦
            let s_is = same_spot spot s (To k) updates.changed (ap To (sym ck) ∙ is) in
            elim (cases_eq e k) [
              | inl ek ↦ ck ∙ sym ek
              | inr ne ↦ absurd (new e t (sym (updates.others e ne) ∙ it) (sym same ∙ ap (λ x. x.point) (sym s_is)))
            ]
        | inr nc ↦
            elim (cases_eq e k) [
              | inl ek ↦
                  let t_is = same_spot spot t (To k) updates.changed (ap To (sym ek) ∙ it) in
                  absurd (new c s (sym (updates.others c nc) ∙ is) (same ∙ ap (λ x. x.point) (sym t_is)))
              | inr ne ↦ sound.single c e s t (sym (updates.others c nc) ∙ is) (sym (updates.others e ne) ∙ it) same
            ]
      ];
}

-- fewer crossings are sound
pub sound_fewer : (lines : ℕ → Option Line) (S To : ℕ → Option Spot) → IsSound lines S → ((c : ℕ) (s : Spot) → To c ≡ Some s → S c ≡ Some s) → IsSound lines To
sound_fewer lines S To sound was = record {
  ordered = sound.ordered;
  apart = sound.apart;
  on_lines = λ c s is. sound.on_lines c s (was c s is);
  single = λ c e s t is it same. sound.single c e s t (was c s is) (was e t it) same;
}

-- what is sound is so by other names of the same lines and crossings
pub sound_same : (a b : Lists) → SamePlaces a b → IsSound (line_at a) (spot_at a) → IsSound (line_at b) (spot_at b)
sound_same a b same sound =
    let lines : line_at a ≡ line_at b = λ i l. sym (same.lines l) i in
    let spots : spot_at a ≡ spot_at b = sym (spots_are a b same.spots) in
    subst (λ m. IsSound m (spot_at b)) lines (subst (IsSound (line_at a)) spots sound)

-- a crossing that is linked knows its neighbours
pub knows_linked : (a : Lists) (k : ℕ) (s : Spot) → AreLists a → spot_at a k ≡ Some s → KnowsNeighbours a k
knows_linked a k s lists is = record {
  spot = s;
  is = is;
  runs = spot_runs a s (lists.sound.on_lines k s is);
  next = λ d.
      let h = (lists.linked d).nexts k s is in
      next_kept_at_removal (Stands (spot_at a) (line_along d s) d) (Stands (without k (spot_at a)) (line_along d s) d) k (reach d s.point)
      (kept_in (spot_at a) k d _) (kept_out (spot_at a) k d _) (Some (reach d s.point)) (link a (line_along d s) (Some k) d) h (not_itself d h);
  apart = apart_of_sound (line_at a) (spot_at a) lists.sound;
}
  where
    not_itself : (d : Dir) → IsNext (Stands (spot_at a) (line_along d s) d) (Some (reach d s.point)) (link a (line_along d s) (Some k) d) → link a (line_along d s) (Some k) d ≢ Some k
    not_itself d h e =
        let n = subst (IsNext (Stands (spot_at a) (line_along d s) d) (Some (reach d s.point))) e h in
        let past : reach d s.point <ℤ n.0 = n.2 in
        let along = own_reach (spot_at a) k d s is (line_along d s) n.0 n.1 in
        omega (arith, ints)

-- a crossing that is in no list is removed
pub lists_without : (a b : Lists) (k : ℕ) → IsSound (line_at a) (spot_at a) → ((d : Dir) → AreLinked a (without k (spot_at a)) d)
    → ((l : ℕ) → line_at b l ≡ line_at a l) → UpdatesAt (spot_at a) (spot_at b) k None
    → ((l : ℕ) (d : Dir) → link b l None d ≡ link a l None d) → ((l c : ℕ) (d : Dir) → c ≢ k → link b l (Some c) d ≡ link a l (Some c) d) → AreLists b
lists_without a b k sound linked lines updates starts nexts = record {
  sound =
      let named : line_at a ≡ line_at b = λ i l. sym (lines l) i in
      subst (λ m. IsSound m (spot_at b)) named (sound_fewer (line_at a) (spot_at a) (spot_at b) sound was);
  linked = λ d. subst (λ S. AreLinked b S d) spots (record {
    starts = λ l line is way. subst (IsNext (Stands (without k (spot_at a)) l d) None) (sym (starts l d)) ((linked d).starts l line (sym (lines l) ∙ is) way);
    nexts = λ c s is. subst (IsNext (Stands (without k (spot_at a)) (line_along d s) d) (Some (reach d s.point)))
        (sym (nexts (line_along d s) c d (without_some k (spot_at a) c s is).0)) ((linked d).nexts c s is);
  });
}
  where
    was : (c : ℕ) (s : Spot) → spot_at b c ≡ Some s → spot_at a c ≡ Some s
    was c s is =
        elim (cases_eq c k) [
          | inl e ↦ absurd (some_apart s (sym updates.changed ∙ ap (spot_at b) (sym e) ∙ is))
          | inr ne ↦ sym (updates.others c ne) ∙ is
        ]

    same : (c : ℕ) → without k (spot_at a) c ≡ spot_at b c
    same c =
        elim (cases_eq c k) [
          | inl e ↦ grind (arith, updates.changed)
          | inr ne ↦ without_other k (spot_at a) c ne ∙ sym (updates.others c ne)
        ]

    spots : without k (spot_at a) ≡ spot_at b
    spots i c = same c i

pub some_of : {X : Type 0} (o : Option X) → o ≢ None → (x : X) × (o ≡ Some x)
some_of None h = absurd (h refl)
some_of (Some x) h = (x, refl)

-- what the update of the slab is to the spots
pub spots_update : (a b : Lists) (k : ℕ) (e : Option (Point × Node)) → Updates a.crossings.slab b.crossings.slab k e → UpdatesAt (spot_at a) (spot_at b) k (option_map spot_of e)
spots_update a b k e updates = record {
  changed = ap (option_map spot_of) updates.changed;
  others = λ c ne. ap (option_map spot_of) (updates.others c ne);
}

pub nexts_update : (a b : Lists) (k : ℕ) (e : Option (Point × Node)) → Updates a.crossings.slab b.crossings.slab k e
    → (l c : ℕ) (d : Dir) → c ≢ k → link b l (Some c) d ≡ link a l (Some c) d
nexts_update a b k e updates l c d ne = ap (option_and_then (λ x. next_of d x.1)) (updates.others c ne)

-- no crossing stands where a new one of two lines comes
module _ (lines : ℕ → Option Line) (S : ℕ → Option Spot) (sound : IsSound lines S) (spot : Spot) (at : IsSpot lines spot)
    (new : (c : ℕ) (s : Spot) → S c ≡ Some s → s.vertical ≡ spot.vertical → s.horizontal ≡ spot.horizontal → ⊥) where
  pub new_point : (c : ℕ) (s : Spot) → S c ≡ Some s → s.point ≢ spot.point
  new_point c s is e =
      let pair = same_pair lines S sound s spot (sound.on_lines c s is) at e in
      new c s is pair.0 pair.1

  pub free_at : (d : Dir) (c : ℕ) → Stands S (line_along d spot) d c (reach d spot.point) → ⊥
  free_at d c h = new_point c h.spot h.is (one_place lines d h.spot spot (sound.on_lines c h.spot h.is) at h.line h.along)

module _ (a b : Lists) (k : ℕ) (e : Point × Node) (lists : AreLists a) (at : IsSpot (line_at a) (spot_of e)) (gone : spot_at a k ≡ None)
    (new : (c : ℕ) (s : Spot) → spot_at a c ≡ Some s → s.point ≢ e.0) (lines : b.lines ≡ a.lines) (updates : Updates a.crossings.slab b.crossings.slab k (Some e)) where
  lines_are : (l : ℕ) → line_at b l ≡ line_at a l
  lines_are l = ap (λ m. option_map (λ x. x.0) (entry_at m l)) lines

  starts_are : (l : ℕ) (d : Dir) → link b l None d ≡ link a l None d
  starts_are l d = ap (λ m. option_and_then (λ x. start_of d x.1) (entry_at m l)) lines

  others_are : without k (spot_at b) ≡ spot_at a
  others_are i c = same c i
    where
      same : (c : ℕ) → without k (spot_at b) c ≡ spot_at a c
      same c =
          elim (cases_eq c k) [
            | inl here ↦ without_itself k (spot_at b) c here ∙ sym (ap (spot_at a) here ∙ gone)
            | inr ne ↦ without_other k (spot_at b) c ne ∙ ap (option_map spot_of) (updates.others c ne)
          ]

  pub sound_with : IsSound (line_at b) (spot_at b)
  sound_with =
      let named : line_at a ≡ line_at b = λ i l. sym (lines_are l) i in
      subst (λ m. IsSound m (spot_at b)) named
      (sound_put (line_at a) (spot_at a) (spot_at b) k (spot_of e) lists.sound at new (spots_update a b k (Some e) updates))

  pub linked_with : (d : Dir) → AreLinked b (without k (spot_at b)) d
  linked_with d = subst (λ S. AreLinked b S d) (sym others_are) (record {
    starts = λ l line is way. subst (IsNext (Stands (spot_at a) l d) None) (sym (starts_are l d)) ((lists.linked d).starts l line (sym (lines_are l) ∙ is) way);
    nexts = λ c s is. subst (IsNext (Stands (spot_at a) (line_along d s) d) (Some (reach d s.point)))
        (sym (nexts_update a b k (Some e) updates (line_along d s) c d (λ here. some_apart s (sym gone ∙ ap (spot_at a) (sym here) ∙ is)))) ((lists.linked d).nexts c s is);
  })

  pub knows_with : ((d : Dir) → IsNext (Stands (spot_at a) (line_along d (spot_of e)) d) (Some (reach d e.0)) (next_of d e.1)) → KnowsNeighbours b k
  knows_with next = record {
    spot = spot_of e;
    is = ap (option_map spot_of) updates.changed;
    runs = λ d. let line = spot_line (line_at a) (spot_of e) d at in record { line = line.line; is = lines_are _ ∙ line.is; way = line.way };
    next = λ d.
        subst (λ S. IsNext (Stands S (line_along d (spot_of e)) d) (Some (reach d e.0)) (link b (line_along d (spot_of e)) (Some k) d)) (sym others_are)
        (subst (IsNext (Stands (spot_at a) (line_along d (spot_of e)) d) (Some (reach d e.0))) (sym (ap (option_and_then (λ x. next_of d x.1)) updates.changed)) (next d));
    apart = apart_of_sound (line_at b) (spot_at b) sound_with;
  }

-- a node of two lines stands where they meet
pub node_spot : (lines : ℕ → Option Line) (p : Point) (vertical horizontal : ℕ) (n : Node) → n.vertical ≡ vertical → n.horizontal ≡ horizontal
    → IsSpot lines (record { point = p; vertical = vertical; horizontal = horizontal }) → IsSpot lines (spot_of (p, n))
node_spot lines p vertical horizontal n down across at =
    let same : ◌≡◌ {A = Spot} (record { point = p; vertical = vertical; horizontal = horizontal }) (spot_of (p, n)) = λ i. record { point = p; vertical = sym down i; horizontal = sym across i } in
    subst (IsSpot lines) same at

-- the point of two lines is where each of them runs
pub met_at : (lines : ℕ → Option Line) (vertical horizontal : ℕ) (met : AreMet lines vertical horizontal) (v h : Line) → lines vertical ≡ Some v → lines horizontal ≡ Some h
    → IsSpot lines (record { point = record { x = v.at; y = h.at }; vertical = vertical; horizontal = horizontal })
met_at lines vertical horizontal met v h is_v is_h =
    let s = met.spot in
    let down = held s.vertical met.point Vertical s.vertical_runs s.on_vertical in
    let across = held s.horizontal met.point Horizontal s.horizontal_runs s.on_horizontal in
    let x : met.point.x ≡ v.at = ap (λ r. r.x) down ∙ ap (λ l. l.at) (same_line s.vertical v (lines vertical) s.is_vertical is_v) in
    let y : met.point.y ≡ h.at = ap (λ r. r.y) across ∙ ap (λ l. l.at) (same_line s.horizontal h (lines horizontal) s.is_horizontal is_h) in
    let is : ◌≡◌ {A = Point} met.point (record { x = v.at; y = h.at }) = λ i. record { x = x i; y = y i } in
    subst (λ p. IsSpot lines (record { point = p; vertical = vertical; horizontal = horizontal })) is s

-- a line without crossings is added
pub lists_with_line : (a b : Lists) (id : ℕ) (line : Line) → AreLists a → line_at a id ≡ None → IsApart (line_at a) line → line.lo ≤ℤ line.hi
    → Updates a.lines.slab b.lines.slab id (Some (line, record { first = None; last = None })) → b.crossings ≡ a.crossings → AreLists b
lists_with_line a b id line lists gone apart ordered updates crossings = record {
  sound = subst (IsSound (line_at b)) spots (record {
    ordered = λ l m is.
        elim (cases_eq l id) [
          | inl e ↦ subst (λ x. x.lo ≤ℤ x.hi) (same_line line m (line_at b l) (here l e) is) ordered
          | inr ne ↦ lists.sound.ordered l m (was l m ne is)
        ];
    apart = λ i j l m p il jm whole on_l on_m.
        elim (cases_eq i id) [
          | inl ei ↦
              let l_is = same_line line l (line_at b i) (here i ei) il in
              elim (cases_eq j id) [
                | inl ej ↦ ei ∙ sym ej
                | inr nj ↦ absurd (apart j m p (was j m nj jm) (record { way = sym (ap (λ x. x.way) l_is ∙ whole.way); at = sym (ap (λ x. x.at) l_is ∙ whole.at) }) on_m (subst (λ x. Holds x p) (sym l_is) on_l))
              ]
          | inr ni ↦
              elim (cases_eq j id) [
                | inl ej ↦
                    let m_is = same_line line m (line_at b j) (here j ej) jm in
                    absurd (apart i l p (was i l ni il) (record { way = whole.way ∙ sym (ap (λ x. x.way) m_is); at = whole.at ∙ sym (ap (λ x. x.at) m_is) }) on_l (subst (λ x. Holds x p) (sym m_is) on_m))
                | inr nj ↦ lists.sound.apart i j l m p (was i l ni il) (was j m nj jm) whole on_l on_m
              ]
        ];
    on_lines = λ c s is.
        let h = lists.sound.on_lines c s is in
        record {
          vertical = h.vertical;
          horizontal = h.horizontal;
          is_vertical = still s.vertical h.vertical h.is_vertical;
          is_horizontal = still s.horizontal h.horizontal h.is_horizontal;
          vertical_runs = h.vertical_runs;
          horizontal_runs = h.horizontal_runs;
          on_vertical = h.on_vertical;
          on_horizontal = h.on_horizontal;
        };
    single = lists.sound.single;
  });
  linked = λ d. subst (λ S. AreLinked b S d) spots (record {
    starts = λ l m is way.
        elim (cases_eq l id) [
          | inl e ↦ subst (IsNext (Stands (spot_at a) l d) None) (sym (none_first l d e))
              (λ c z stands past.
              let on = spot_line (line_at a) stands.spot d (lists.sound.on_lines c stands.spot stands.is) in
              no_line on.line (sym gone ∙ ap (line_at a) (sym e ∙ sym stands.line) ∙ on.is))
          | inr ne ↦ subst (IsNext (Stands (spot_at a) l d) None) (sym (ap (option_and_then (λ x. start_of d x.1)) (updates.others l ne)))
              ((lists.linked d).starts l m (was l m ne is) way)
        ];
    nexts = λ c s is. subst (IsNext (Stands (spot_at a) (line_along d s) d) (Some (reach d s.point)))
        (ap (λ x. option_and_then (λ y. next_of d y.1) (entry_at x c)) (sym crossings)) ((lists.linked d).nexts c s is);
  });
}
  where
    no_line : (m : Line) → None ≡ Some m → ⊥
    no_line m e = cc

    spots : spot_at a ≡ spot_at b
    spots = sym (λ i c. option_map spot_of (entry_at (crossings i) c))

    here : (l : ℕ) → l ≡ id → line_at b l ≡ Some line
    here l e = ap (line_at b) e ∙ ap (option_map (λ x. x.0)) updates.changed

    was : (l : ℕ) (m : Line) → l ≢ id → line_at b l ≡ Some m → line_at a l ≡ Some m
    was l m ne is = sym (ap (option_map (λ x. x.0)) (updates.others l ne)) ∙ is

    still : (l : ℕ) (m : Line) → line_at a l ≡ Some m → line_at b l ≡ Some m
    still l m is =
        elim (cases_eq l id) [
          | inl e ↦ absurd (no_line m (sym gone ∙ ap (line_at a) (sym e) ∙ is))
          | inr ne ↦ ap (option_map (λ x. x.0)) (updates.others l ne) ∙ is
        ]

    none_of : (d : Dir) → start_of d (record { first = None; last = None }) ≡ None
    none_of East = refl
    none_of South = refl
    none_of West = refl
    none_of North = refl

    none_first : (l : ℕ) (d : Dir) → l ≡ id → link b l None d ≡ None
    none_first l d e = ap (λ i. link b i None d) e ∙ ap (option_and_then (λ x. start_of d x.1)) updates.changed ∙ none_of d

-- a line without crossings is removed
pub lists_without_line : (a b : Lists) (id : ℕ) → AreLists a → ((c : ℕ) (s : Spot) → spot_at a c ≡ Some s → (s.vertical ≢ id) × (s.horizontal ≢ id))
    → Updates a.lines.slab b.lines.slab id None → b.crossings ≡ a.crossings → AreLists b
lists_without_line a b id lists empty updates crossings = record {
  sound = subst (IsSound (line_at b)) spots (record {
    ordered = λ l m is. lists.sound.ordered l m (was l m is);
    apart = λ i j l m p il jm. lists.sound.apart i j l m p (was i l il) (was j m jm);
    on_lines = λ c s is.
        let h = lists.sound.on_lines c s is in
        let other = empty c s is in
        record {
          vertical = h.vertical;
          horizontal = h.horizontal;
          is_vertical = still s.vertical h.vertical other.0 h.is_vertical;
          is_horizontal = still s.horizontal h.horizontal other.1 h.is_horizontal;
          vertical_runs = h.vertical_runs;
          horizontal_runs = h.horizontal_runs;
          on_vertical = h.on_vertical;
          on_horizontal = h.on_horizontal;
        };
    single = lists.sound.single;
  });
  linked = λ d. subst (λ S. AreLinked b S d) spots (record {
    starts = λ l m is way. subst (IsNext (Stands (spot_at a) l d) None) (sym (ap (option_and_then (λ x. start_of d x.1)) (updates.others l (other l m is))))
        ((lists.linked d).starts l m (was l m is) way);
    nexts = λ c s is. subst (IsNext (Stands (spot_at a) (line_along d s) d) (Some (reach d s.point)))
        (ap (λ x. option_and_then (λ y. next_of d y.1) (entry_at x c)) (sym crossings)) ((lists.linked d).nexts c s is);
  });
}
  where
    no_line : (m : Line) → None ≡ Some m → ⊥
    no_line m e = cc

    spots : spot_at a ≡ spot_at b
    spots = sym (λ i c. option_map spot_of (entry_at (crossings i) c))

    other : (l : ℕ) (m : Line) → line_at b l ≡ Some m → l ≢ id
    other l m is e = no_line m (sym (ap (option_map (λ x. x.0)) updates.changed) ∙ ap (line_at b) (sym e) ∙ is)

    was : (l : ℕ) (m : Line) → line_at b l ≡ Some m → line_at a l ≡ Some m
    was l m is = sym (ap (option_map (λ x. x.0)) (updates.others l (other l m is))) ∙ is

    still : (l : ℕ) (m : Line) → l ≢ id → line_at a l ≡ Some m → line_at b l ≡ Some m
    still l m ne is = ap (option_map (λ x. x.0)) (updates.others l ne) ∙ is
