-- The model of an arena, in terms of its lists.
use Rattle.std.proofs.Common.{◌≡◌, ◌≢◌, ◌⊎◌, ℕ, ℤ, ◌+◌, ◌-◌, ◌≤◌, ◌<ℤ◌, get_or, Option, Some, None, inl, inr, refl, sym, ap, subst, ◌∙◌, arith}
use Rattle.std.specs.Prelude.{◌↔◌, IsSome, IsNone, IfSome, option_and_then}
use Rattle.std.specs.Option.{option_map}
use Rattle.std.proofs.lemmas.Bool.{cases_eq}
use Rattle.std.specs.FinMap as fin
use Rattle.slab.specs.Slab.{get, slab_len}
use Rattle.plane_geom.specs.declared.point.Point.{Point}
use Rattle.plane_geom.specs.declared.point.Dir.{Dir}
use Rattle.plane_geom.specs.declared.point.Dir.TheVariants.{East, South, West, North}
use Rattle.plane_geom.specs.declared.point.Way.{Way}
use Rattle.plane_geom.specs.declared.point.Way.TheVariants.{Vertical, Horizontal}
use Rattle.plane_geom.specs.declared.floor.Line.{Line}
use Rattle.plane_geom.specs.Floor.{Holds}
use Rattle.line_arena.specs.declared.lists.Lists.{Lists}
use Rattle.plane_geom.specs.Along.{reach, rising, way_of}
use Rattle.line_arena.specs.Arena as seen
use Rattle.line_arena.specs.Arena.{Arena, IsArena, IsFirst, IsNearest, IsOn, LiesFurther, Meet, Pair, StandsAt}
use Rattle.line_arena.specs.Count.{counted_by}
use Rattle.line_arena.specs.Lists.{AreLinked, AreLists, AreMet, IsNext, IsSound, Spot, Stands, UpdatesAt, line_along, line_at, spot_at, spot_of}
use Rattle.line_arena.specs.View.{arena_of, pair_of, seen as map_of, spare_of}
use Rattle.line_arena.proofs.Arenas.Seen.{get-seen, seen_insert, seen_remove, seen_same}
use Rattle.line_arena.proofs.Linking.Put.{apart_of_sound, held, some_of}
use Rattle.line_arena.proofs.Linking.Nearest.{int_apart}
use Rattle.line_arena.proofs.Linking.Linked.{same_spot}
use Rattle.line_arena.specs.Entries.{entry_at}
use Rattle.line_arena.specs.Node.{next_of, start_of}
use Rattle.line_arena.specs.declared.node.Ends.{Ends}
use Rattle.line_arena.specs.declared.node.Node.{Node}

abbrev pub pair_at : Spot → Pair
pair_at s = record { vertical = s.vertical; horizontal = s.horizontal }

module _ (a : Lists) (w : ℕ) where
  -- the lines of the map are those of the lists
  pub line_seen : (l : ℕ) → fin.get (arena_of a w).lines l ≡ line_at a l
  line_seen l = get-seen (λ e. e.0) a.lines.slab l

  pub pair_seen : (c : ℕ) → fin.get (arena_of a w).crossings c ≡ option_map pair_at (spot_at a c)
  pair_seen c = get-seen pair_of a.crossings.slab c ∙ again (get a.crossings.slab c)
    where
      again : (o : Option (Point × Rattle.line_arena.specs.declared.node.Node.Node)) → option_map pair_of o ≡ option_map pair_at (option_map spot_of o)
      again None = refl
      again (Some e) = refl

none_is : IsNone {T = ℕ} None
none_is = refl

some_is_not : (n : ℕ) → IsNone (Some n) → ⊥
some_is_not n h = cc

some_pair : (p q : Pair) → ◌≡◌ {A = Option Pair} (Some p) (Some q) → p ≡ q
some_pair p q e = cc

none_pair : (p : Pair) → None ≡ Some p → ⊥
none_pair p e = cc

pub along-pair_at : (d : Dir) (s : Spot) → seen.line_along d (pair_at s) ≡ line_along d s
along-pair_at East s = refl
along-pair_at South s = refl
along-pair_at West s = refl
along-pair_at North s = refl

same_line : (s t : Line) (o : Option Line) → o ≡ Some s → o ≡ Some t → s ≡ t
same_line s t o e f = cc

-- two points of one vertical and one horizontal line are one
two_lines : (v h : Line) (p q : Point) → v.way ≡ Vertical → h.way ≡ Horizontal → Holds v p → Holds h p → Holds v q → Holds h q → p ≡ q
two_lines v h p q wv wh vp hp vq hq =
    let x = ap (λ r. r.x) (held v p Vertical wv vp) ∙ sym (ap (λ r. r.x) (held v q Vertical wv vq)) in
    let y = ap (λ r. r.y) (held h p Horizontal wh hp) ∙ sym (ap (λ r. r.y) (held h q Horizontal wh hq)) in
    λ i. record { x = x i; y = y i }

module _ (a : Lists) (w : ℕ) (v : Arena) (view : arena_of a w ≡ v) (lists : AreLists a) where
  pub line_in : (l : ℕ) → fin.get v.lines l ≡ line_at a l
  line_in l = ap (λ x. fin.get x.lines l) (sym view) ∙ line_seen a w l

  pub pair_in : (c : ℕ) → fin.get v.crossings c ≡ option_map pair_at (spot_at a c)
  pair_in c = ap (λ x. fin.get x.crossings c) (sym view) ∙ pair_seen a w c

  -- the spot of a crossing that is there
  pub spot_with : (c : ℕ) (p : Pair) → fin.get v.crossings c ≡ Some p → (s : Spot) × (spot_at a c ≡ Some s) × (pair_at s ≡ p)
  spot_with c p is = by (spot_at a c) refl
    where
      by : (o : Option Spot) → spot_at a c ≡ o → (s : Spot) × (spot_at a c ≡ Some s) × (pair_at s ≡ p)
      by None e = absurd (none_pair p (sym (pair_in c ∙ ap (option_map pair_at) e) ∙ is))
      by (Some s) e = (s, e, some_pair (pair_at s) p (sym (pair_in c ∙ ap (option_map pair_at) e) ∙ is))

  pub pair_with : (c : ℕ) (s : Spot) → spot_at a c ≡ Some s → fin.get v.crossings c ≡ Some (pair_at s)
  pair_with c s e = pair_in c ∙ ap (option_map pair_at) e

  pub live_spot : (c : ℕ) → IsSome (fin.get v.crossings c) → (s : Spot) × (spot_at a c ≡ Some s)
  live_spot c live = some_of (spot_at a c) (λ none. none_live (sym (pair_in c ∙ ap (option_map pair_at) none)) live)
    where
      none_live : {o : Option Pair} → None ≡ o → IsSome o → ⊥
      none_live e h = cc

  pub live_entry : (c : ℕ) → IsSome (fin.get v.crossings c) → entry_at a.crossings c ≢ None
  live_entry c live none = none_spot (live_spot c live).0 (sym (ap (option_map spot_of) none) ∙ (live_spot c live).1)
    where
      none_spot : (s : Spot) → None ≡ Some s → ⊥
      none_spot s e = cc

  pub live_line : (l : ℕ) → IsSome (fin.get v.lines l) → (m : Line) × (line_at a l ≡ Some m)
  live_line l live = some_of (line_at a l) (λ none. none_live (sym (line_in l ∙ none)) live)
    where
      none_live : {o : Option Line} → None ≡ o → IsSome o → ⊥
      none_live e h = cc

  -- a crossing is at the point of its spot, and nowhere else
  pub stands_at : (c : ℕ) (s : Spot) → spot_at a c ≡ Some s → StandsAt v c s.point
  stands_at c s e =
      let h = lists.sound.on_lines c s e in
      record {
        pair = pair_at s;
        is = pair_with c s e;
        down = h.vertical;
        across = h.horizontal;
        is_down = line_in s.vertical ∙ h.is_vertical;
        is_across = line_in s.horizontal ∙ h.is_horizontal;
        on_down = h.on_vertical;
        on_across = h.on_horizontal;
      }

  pub spot_standing : (c : ℕ) (p : Point) → StandsAt v c p → (s : Spot) × (spot_at a c ≡ Some s) × (s.point ≡ p)
  spot_standing c p h =
      let spot = spot_with c h.pair h.is in
      let s = spot.0 in
      let on = lists.sound.on_lines c s spot.1 in
      let down = same_line on.vertical h.down (line_at a s.vertical) on.is_vertical (ap (λ q. line_at a q.vertical) spot.2 ∙ sym (line_in h.pair.vertical) ∙ h.is_down) in
      let across = same_line on.horizontal h.across (line_at a s.horizontal) on.is_horizontal (ap (λ q. line_at a q.horizontal) spot.2 ∙ sym (line_in h.pair.horizontal) ∙ h.is_across) in (
        s,
        spot.1,
        two_lines on.vertical on.horizontal s.point p on.vertical_runs on.horizontal_runs on.on_vertical on.on_horizontal
            (subst (λ l. Holds l p) (sym down) h.on_down) (subst (λ l. Holds l p) (sym across) h.on_across),
      )

  pub lies : (d : Dir) (from to : ℕ) (s t : Spot) → spot_at a from ≡ Some s → spot_at a to ≡ Some t → line_along d t ≡ line_along d s → reach d s.point <ℤ reach d t.point
      → LiesFurther v d from to
  lies d from to s t es et line less = record {
    here = pair_at s;
    there = pair_at t;
    is_here = pair_with from s es;
    is_there = pair_with to t et;
    line = along-pair_at d t ∙ line ∙ sym (along-pair_at d s);
    start = s.point;
    stop = t.point;
    stands_here = stands_at from s es;
    stands_there = stands_at to t et;
    further = less;
  }

  -- what lies further stands further
  pub stands_further : (d : Dir) (from to : ℕ) (s : Spot) → spot_at a from ≡ Some s → LiesFurther v d from to
      → (z : ℤ) × Stands (spot_at a) (line_along d s) d to z × (reach d s.point <ℤ z)
  stands_further d from to s es h =
      let here = spot_standing from h.start h.stands_here in
      let there = spot_standing to h.stop h.stands_there in
      let t = there.0 in
      let s_is = same_spot here.0 s (spot_at a from) here.1 es in
      let pair_s = spot_with from h.here h.is_here in
      let pair_t = spot_with to h.there h.is_there in
      let line_s = sym (along-pair_at d s) ∙ ap (λ x. seen.line_along d (pair_at x)) (same_spot s pair_s.0 (spot_at a from) es pair_s.1) ∙ ap (seen.line_along d) pair_s.2 in
      let line_t = sym (along-pair_at d t) ∙ ap (λ x. seen.line_along d (pair_at x)) (same_spot t pair_t.0 (spot_at a to) there.1 pair_t.1) ∙ ap (seen.line_along d) pair_t.2 in (
        reach d t.point,
        record { spot = t; is = there.1; line = line_t ∙ h.line ∙ sym line_s; along = refl },
        subst (λ p. reach d p <ℤ reach d t.point) (sym here.2 ∙ ap (λ x. x.point) s_is) (subst (λ p. reach d h.start <ℤ reach d p) (sym there.2) h.further),
      )

  module _ (d : Dir) (from : ℕ) (s : Spot) (es : spot_at a from ≡ Some s) where
    pub nearest_seen : (answer : Option ℕ) → IsNext (Stands (spot_at a) (line_along d s) d) (Some (reach d s.point)) answer → IfSome answer (λ n. IsNearest v d from n)
    nearest_seen None h = tt
    nearest_seen (Some n) h =
        let t = h.1.spot in
        let past : reach d s.point <ℤ h.0 = h.2 in
        record {
          lies = lies d from n s t es h.1.is h.1.line (subst (λ z. reach d s.point <ℤ z) (sym h.1.along) past);
          others = λ c other.
              let u = stands_further d from c s es other in
              elim (cases_eq c n) [
                | inl same ↦ inl same
                | inr ne ↦ inr (lies d n c t u.1.spot h.1.is u.1.is (u.1.line ∙ sym h.1.line)
                    (let apart : h.0 ≡ u.0 → ⊥ = λ e. ne (apart_of_sound (line_at a) (spot_at a) lists.sound d _ c n u.0 u.1 (subst (Stands (spot_at a) (line_along d s) d n) e h.1)) in
                    let less = int_apart h.0 u.0 (h.3 c u.0 u.1 u.2) apart in
                    subst (λ z. z <ℤ reach d u.1.spot.point) (sym h.1.along) (subst (λ z. h.0 <ℤ z) (sym u.1.along) less)))
              ];
        }

    pub none_seen : (answer : Option ℕ) → IsNext (Stands (spot_at a) (line_along d s) d) (Some (reach d s.point)) answer → IsNone answer ↔ ((c : ℕ) → LiesFurther v d from c → ⊥)
    none_seen None h = (λ _ c other. let u = stands_further d from c s es other in h c u.0 u.1 u.2, λ _. none_is)
    none_seen (Some n) h = (λ no. absurd (some_is_not n no), λ none. absurd (none n (nearest_seen (Some n) h).lies))

  -- a crossing is one of a line where its spot is on it
  pub on_with : (l c : ℕ) → IsOn v l c → (s : Spot) × (spot_at a c ≡ Some s) × ((s.vertical ≡ l) ⊎ (s.horizontal ≡ l))
  on_with l c h =
      let spot = spot_with c h.pair h.is in
      (spot.0, spot.1, elim h.on [ inl e ↦ inl (ap (λ p. p.vertical) spot.2 ∙ e) | inr e ↦ inr (ap (λ p. p.horizontal) spot.2 ∙ e) ])

  module _ (l : ℕ) (line : Line) (is : line_at a l ≡ Some line) where
    -- the crossings of a line stand along it
    on_stands : (c : ℕ) → IsOn v l c → (z : ℤ) × Stands (spot_at a) l (rising line.way) c z
    on_stands c h =
        let spot = on_with l c h in
        let s = spot.0 in
        let on = lists.sound.on_lines c s spot.1 in
        elim spot.2 [
          | inl e ↦
              let down = same_line on.vertical line (line_at a l) (ap (line_at a) (sym e) ∙ on.is_vertical) is in
              let way = sym (ap (λ m. m.way) down) ∙ on.vertical_runs in
              (reach (rising line.way) s.point, record { spot = s; is = spot.1; line = ap (λ u. line_along (rising u) s) way ∙ e; along = refl })
          | inr e ↦
              let across = same_line on.horizontal line (line_at a l) (ap (line_at a) (sym e) ∙ on.is_horizontal) is in
              let way = sym (ap (λ m. m.way) across) ∙ on.horizontal_runs in
              (reach (rising line.way) s.point, record { spot = s; is = spot.1; line = ap (λ u. line_along (rising u) s) way ∙ e; along = refl })
        ]

    stands_on : (d : Dir) (c : ℕ) (z : ℤ) → Stands (spot_at a) l d c z → IsOn v l c
    stands_on d c z h = record { pair = pair_at h.spot; is = pair_with c h.spot h.is; on = side d h.spot h.line }
      where
        side : (d : Dir) (s : Spot) → line_along d s ≡ l → (s.vertical ≡ l) ⊎ (s.horizontal ≡ l)
        side East s e = inr e
        side South s e = inl e
        side West s e = inr e
        side North s e = inl e

    pub first_seen : (answer : Option ℕ) → IsNext (Stands (spot_at a) l (rising line.way)) None answer → IfSome answer (λ c. IsFirst v l c)
    first_seen None h = tt
    first_seen (Some n) h = record {
      on = stands_on (rising line.way) n h.0 h.1;
      line = line;
      is = line_in l ∙ is;
      others = λ c other.
          let u = on_stands c other in
          elim (cases_eq c n) [
            | inl same ↦ inl same
            | inr ne ↦ inr (lies (rising line.way) n c h.1.spot u.1.spot h.1.is u.1.is (u.1.line ∙ sym h.1.line)
                (let apart : h.0 ≡ u.0 → ⊥ = λ e. ne (apart_of_sound (line_at a) (spot_at a) lists.sound (rising line.way) l c n u.0 u.1 (subst (Stands (spot_at a) l (rising line.way) n) e h.1)) in
                let less = int_apart h.0 u.0 (h.3 c u.0 u.1 tt) apart in
                subst (λ z. z <ℤ reach (rising line.way) u.1.spot.point) (sym h.1.along) (subst (λ z. h.0 <ℤ z) (sym u.1.along) less)))
          ];
    }

    pub no_first_seen : (answer : Option ℕ) → IsNext (Stands (spot_at a) l (rising line.way)) None answer → IsNone answer ↔ ((c : ℕ) → IsOn v l c → ⊥)
    no_first_seen None h = (λ _ c other. let u = on_stands c other in h c u.0 u.1 tt, λ _. none_is)
    no_first_seen (Some n) h = (λ no. absurd (some_is_not n no), λ none. absurd (none n (stands_on (rising line.way) n h.0 h.1)))

  -- what holds of every arena
  pub is_arena : IsArena v
  is_arena = record {
    ordered = λ l line is. lists.sound.ordered l line (sym (line_in l) ∙ is);
    apart = λ i j l m p il jm. lists.sound.apart i j l m p (sym (line_in i) ∙ il) (sym (line_in j) ∙ jm);
    meet = λ c pair is.
        let spot = spot_with c pair is in
        let h = lists.sound.on_lines c spot.0 spot.1 in
        subst (λ p. Meet v p.vertical p.horizontal) spot.2 (record {
          down = h.vertical;
          across = h.horizontal;
          is_down = line_in spot.0.vertical ∙ h.is_vertical;
          is_across = line_in spot.0.horizontal ∙ h.is_horizontal;
          down_runs = h.vertical_runs;
          across_runs = h.horizontal_runs;
          point = spot.0.point;
          on_down = h.on_vertical;
          on_across = h.on_horizontal;
        });
    once = λ c k pair is_c is_k.
        let s = spot_with c pair is_c in
        let t = spot_with k pair is_k in
        let hs = lists.sound.on_lines c s.0 s.1 in
        let ht = lists.sound.on_lines k t.0 t.1 in
        let same = s.2 ∙ sym t.2 in
        let down = same_line hs.vertical ht.vertical (line_at a s.0.vertical) hs.is_vertical (ap (λ p. line_at a p.vertical) same ∙ ht.is_vertical) in
        let across = same_line hs.horizontal ht.horizontal (line_at a s.0.horizontal) hs.is_horizontal (ap (λ p. line_at a p.horizontal) same ∙ ht.is_horizontal) in
        lists.sound.single c k s.0 t.0 s.1 t.1
        (two_lines hs.vertical hs.horizontal s.0.point t.0.point hs.vertical_runs hs.horizontal_runs hs.on_vertical hs.on_horizontal
        (subst (λ l. Holds l t.0.point) (sym down) ht.on_vertical) (subst (λ l. Holds l t.0.point) (sym across) ht.on_horizontal));
  }

  -- the pair of two lines that meet is met in the lists
  pub met_in : (vertical horizontal : ℕ) → Meet v vertical horizontal → AreMet (line_at a) vertical horizontal
  met_in vertical horizontal h = record {
    point = h.point;
    spot = record {
      vertical = h.down;
      horizontal = h.across;
      is_vertical = sym (line_in vertical) ∙ h.is_down;
      is_horizontal = sym (line_in horizontal) ∙ h.is_across;
      vertical_runs = h.down_runs;
      horizontal_runs = h.across_runs;
      on_vertical = h.on_down;
      on_horizontal = h.on_across;
    };
  }

pub rising_way : (w : Way) → way_of (rising w) ≡ w
rising_way Vertical = refl
rising_way Horizontal = refl

pub start_rising : (w : Way) (e : Ends) → start_of (rising w) e ≡ e.first
start_rising Vertical e = refl
start_rising Horizontal e = refl

-- the same entries are in the same lists
pub lists_same : (a b : Lists) → b.lines.slab.slots ≡ a.lines.slab.slots → b.crossings.slab.slots ≡ a.crossings.slab.slots → AreLists a → AreLists b
lists_same a b ls cs lists = record {
  sound = subst (λ m. IsSound m (spot_at b)) (sym lines) (subst (IsSound (line_at a)) (sym spots) lists.sound);
  linked = λ d. subst (λ S. AreLinked b S d) (sym spots) (record {
    starts = λ l line is way. subst (IsNext (Stands (spot_at a) l d) None)
        (sym (ap (λ s. option_and_then (λ x. start_of d x.1) (get_or s l None)) ls))
        ((lists.linked d).starts l line (sym (ap (λ s. option_map (λ x. x.0) (get_or s l None)) ls) ∙ is) way);
    nexts = λ c s is. subst (IsNext (Stands (spot_at a) (line_along d s) d) (Some (reach d s.point)))
        (sym (ap (λ x. option_and_then (λ y. next_of d y.1) (get_or x c None)) cs)) ((lists.linked d).nexts c s is);
  });
}
  where
    lines : line_at b ≡ line_at a
    lines i l = option_map (λ x. x.0) (get_or (ls i) l None)

    spots : spot_at b ≡ spot_at a
    spots i c = option_map spot_of (get_or (cs i) c None)

again : (o : Option (Point × Node)) → option_map pair_of o ≡ option_map pair_at (option_map spot_of o)
again None = refl
again (Some e) = refl

pairs_update : (a b : Lists) (k : ℕ) (x : Option Spot) → UpdatesAt (spot_at a) (spot_at b) k x
    → UpdatesAt (λ q. option_map pair_of (get a.crossings.slab q)) (λ q. option_map pair_of (get b.crossings.slab q)) k (option_map pair_at x)
pairs_update a b k x updates = record {
  changed = again (get b.crossings.slab k) ∙ ap (option_map pair_at) updates.changed;
  others = λ q ne. again (get b.crossings.slab q) ∙ ap (option_map pair_at) (updates.others q ne) ∙ sym (again (get a.crossings.slab q));
}

module _ (a b : Lists) (w : ℕ) where
  pub after_put_line : (u id : ℕ) (line : Line) → UpdatesAt (line_at a) (line_at b) id (Some line) → b.crossings ≡ a.crossings
      → slab_len b.lines.slab ≡ slab_len a.lines.slab + 1 → b.lines.room ≡ a.lines.room → u ≡ counted_by 1 w
      → arena_of b u ≡ record (arena_of a w) { lines = fin.insert (arena_of a w).lines id line; spare_lines = (arena_of a w).spare_lines - 1; written = counted_by 1 w }
  after_put_line u id line updates crossings len room counts =
      let lines = seen_insert (λ e. e.0) a.lines.slab b.lines.slab id line updates in
      let spare : b.lines.room - slab_len b.lines.slab ≡ (a.lines.room - slab_len a.lines.slab) - 1 = omega (arith, len, room) in
      λ i. record {
        lines = lines i;
        crossings = map_of pair_of (crossings i).slab;
        spare_lines = spare i;
        spare_crossings = spare_of (crossings i);
        places = (crossings i).slab.capacity;
        written = counts i;
      }

  pub after_remove_line : (id : ℕ) → UpdatesAt (line_at a) (line_at b) id None → b.crossings ≡ a.crossings
      → slab_len b.lines.slab + 1 ≡ slab_len a.lines.slab → slab_len a.lines.slab ≤ a.lines.room → b.lines.room ≡ a.lines.room
      → arena_of b w ≡ record (arena_of a w) { lines = fin.remove (arena_of a w).lines id; spare_lines = (arena_of a w).spare_lines + 1 }
  after_remove_line id updates crossings len fits room =
      let lines = seen_remove (λ e. e.0) a.lines.slab b.lines.slab id updates in
      let spare : b.lines.room - slab_len b.lines.slab ≡ (a.lines.room - slab_len a.lines.slab) + 1 = omega (arith, len, room, fits) in
      λ i. record {
        lines = lines i;
        crossings = map_of pair_of (crossings i).slab;
        spare_lines = spare i;
        spare_crossings = spare_of (crossings i);
        places = (crossings i).slab.capacity;
        written = w;
      }

  module _ (lines : (l : ℕ) → line_at b l ≡ line_at a l) (line_count : slab_len b.lines.slab ≡ slab_len a.lines.slab) (line_room : b.lines.room ≡ a.lines.room)
      (room : b.crossings.room ≡ a.crossings.room) (places : b.crossings.slab.capacity ≡ a.crossings.slab.capacity) where
    lines_are : map_of (λ e. e.0) b.lines.slab ≡ map_of (λ e. e.0) a.lines.slab
    lines_are = seen_same (λ e. e.0) a.lines.slab b.lines.slab lines

    pub after_put_crossing : (u id : ℕ) (s : Spot) → UpdatesAt (spot_at a) (spot_at b) id (Some s) → slab_len b.crossings.slab ≡ slab_len a.crossings.slab + 1 → u ≡ counted_by 1 w
        → arena_of b u ≡ record (arena_of a w) { crossings = fin.insert (arena_of a w).crossings id (pair_at s); spare_crossings = (arena_of a w).spare_crossings - 1; written = counted_by 1 w }
    after_put_crossing u id s updates len counts =
        let crossings = seen_insert pair_of a.crossings.slab b.crossings.slab id (pair_at s) (pairs_update a b id (Some s) updates) in
        let spare_lines : b.lines.room - slab_len b.lines.slab ≡ a.lines.room - slab_len a.lines.slab = omega (arith, line_count, line_room) in
        let spare : b.crossings.room - slab_len b.crossings.slab ≡ (a.crossings.room - slab_len a.crossings.slab) - 1 = omega (arith, len, room) in
        λ i. record {
          lines = lines_are i;
          crossings = crossings i;
          spare_lines = spare_lines i;
          spare_crossings = spare i;
          places = places i;
          written = counts i;
        }

    pub after_remove_crossing : (id : ℕ) → UpdatesAt (spot_at a) (spot_at b) id None → slab_len b.crossings.slab + 1 ≡ slab_len a.crossings.slab → slab_len a.crossings.slab ≤ a.crossings.room
        → arena_of b w ≡ record (arena_of a w) { crossings = fin.remove (arena_of a w).crossings id; spare_crossings = (arena_of a w).spare_crossings + 1 }
    after_remove_crossing id updates len fits =
        let crossings = seen_remove pair_of a.crossings.slab b.crossings.slab id (pairs_update a b id None updates) in
        let spare_lines : b.lines.room - slab_len b.lines.slab ≡ a.lines.room - slab_len a.lines.slab = omega (arith, line_count, line_room) in
        let spare : b.crossings.room - slab_len b.crossings.slab ≡ (a.crossings.room - slab_len a.crossings.slab) + 1 = omega (arith, len, room, fits) in
        λ i. record {
          lines = lines_are i;
          crossings = crossings i;
          spare_lines = spare_lines i;
          spare_crossings = spare i;
          places = places i;
          written = w;
        }

pub none_spot : (s : Spot) → None ≡ Some s → ⊥
none_spot s e = cc

pub none_line : (m : Line) → None ≡ Some m → ⊥
none_line m e = cc
