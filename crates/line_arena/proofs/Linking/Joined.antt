-- A crossing is put into the list of its line in a direction, or removed from it.
use Rattle.std.proofs.Common.{◌≡◌, ◌≢◌, ◌⊎◌, ℕ, ℤ, ◌<ℤ◌, Option, Some, None, inl, inr, refl, sym, ap, subst, ◌∙◌, arith}
use Rattle.std.proofs.lemmas.Int.{ints}
use Rattle.std.proofs.lemmas.Bool.{cases_eq}
use Rattle.std.specs.Prelude.{option_and_then}
use Rattle.std.specs.Option.{option_map}
use Rattle.plane_geom.specs.declared.point.Point.{Point}
use Rattle.plane_geom.specs.declared.point.Dir.{Dir}
use Rattle.plane_geom.specs.declared.point.Dir.TheVariants.{East, South, West, North}
use Rattle.plane_geom.specs.declared.floor.Line.{Line}
use Rattle.plane_geom.specs.Point.{opposite}
use Rattle.line_arena.specs.declared.lists.Lists.{Lists}
use Rattle.line_arena.specs.declared.node.Node.{Node}
use Rattle.line_arena.specs.Entries.{entry_at}
use Rattle.line_arena.specs.Node.{line_of, next_of}
use Rattle.plane_geom.specs.Along.{reach, way_of}
use Rattle.line_arena.specs.Lists.{AreApart, AreLinked, IsNext, IsPast, KnowsNeighbours, Relinks, RunsAlong, Spot, Stands, line_along, line_at, link, spot_at, spot_of, without}
use Rattle.line_arena.proofs.Linking.Nearest.{IsPrevious, int_apart, next_after_removal, next_is, next_is_put, next_kept_at_put, next_kept_at_removal, next_same}
use Rattle.line_arena.proofs.Linking.Linked.{alone, grows, is_other, kept_in, kept_out, line_along-opposite, none_there, on_other, own, own_reach, previous_of_next, same_spot, without_other, without_some}

some_is : (q c : ℕ) → Some q ≡ Some c → q ≡ c
some_is q c e = cc

none_some : (q : ℕ) → None ≡ Some q → ⊥
none_some q e = cc

none_some_spot : (s : Spot) → None ≡ Some s → ⊥
none_some_spot s e = cc

pub line_of-spot : (d : Dir) (e : Point × Node) → line_of d e.1 ≡ line_along d (spot_of e)
line_of-spot East e = refl
line_of-spot South e = refl
line_of-spot West e = refl
line_of-spot North e = refl

pub cases_dir : (d e : Dir) → (d ≡ e) ⊎ (d ≢ e)
cases_dir East East = inl refl
cases_dir East South = inr (λ h. cc h)
cases_dir East West = inr (λ h. cc h)
cases_dir East North = inr (λ h. cc h)
cases_dir South East = inr (λ h. cc h)
cases_dir South South = inl refl
cases_dir South West = inr (λ h. cc h)
cases_dir South North = inr (λ h. cc h)
cases_dir West East = inr (λ h. cc h)
cases_dir West South = inr (λ h. cc h)
cases_dir West West = inl refl
cases_dir West North = inr (λ h. cc h)
cases_dir North East = inr (λ h. cc h)
cases_dir North South = inr (λ h. cc h)
cases_dir North West = inr (λ h. cc h)
cases_dir North North = inl refl

module _ (S : ℕ → Option Spot) (k : ℕ) (d : Dir) (spot : Spot) (is : S k ≡ Some spot) (apart : AreApart S d) where
  abbrev Others : ℕ → ℤ → Type 0
  Others = Stands (without k S) (line_along d spot) d

  abbrev All : ℕ → ℤ → Type 0
  All = Stands S (line_along d spot) d

  -- the neighbour before is not the crossing itself
  not_itself : (prev : Option ℕ) → IsPrevious Others (reach d spot.point) prev → prev ≢ Some k
  not_itself None before e = none_some k e
  not_itself (Some q) before e = is_other S k d _ q _ before.1 (some_is q k e)

  -- a coordinate before the crossing's is before its neighbour's, except for that neighbour itself
  nearer : (prev : Option ℕ) → IsPrevious Others (reach d spot.point) prev → (c : ℕ) (b : ℤ) → Others c b → prev ≢ Some c
      → b <ℤ reach d spot.point → (q : ℕ) × (y : ℤ) × Others q y × (b <ℤ y) × (y <ℤ reach d spot.point)
  nearer None before c b here ne less = absurd (before c b here less)
  nearer (Some q) before c b here ne less =
      let y = before.0 in (
        q,
        y,
        before.1,
        int_apart b y (before.3 c b here less)
            (λ e. ne (ap Some (apart _ q c y (kept_in S k d _ q y before.1) (kept_in S k d _ c y (subst (Others c) e here))))),
        before.2,
      )

  -- with the crossing, what has a nearer one keeps it
  put_other : (from : Option ℤ) → (IsPast from (reach d spot.point) → (q : ℕ) × (y : ℤ) × Others q y × IsPast from y × (y <ℤ reach d spot.point))
      → (answer : Option ℕ) → IsNext Others from answer → IsNext All from answer
  put_other = next_kept_at_put Others All k (reach d spot.point) (kept_in S k d _) (grows S k d spot is _)

  put_here : (from : Option ℤ) → IsPast from (reach d spot.point) → ((c : ℕ) (z : ℤ) → Others c z → IsPast from z → z <ℤ reach d spot.point → ⊥)
      → IsNext All from (Some k)
  put_here = next_is_put Others All k (reach d spot.point) (own S k d spot is) (grows S k d spot is _)

  -- without the crossing, what has another one keeps it
  remove_other : (from : Option ℤ) (answer : Option ℕ) → IsNext All from answer → answer ≢ Some k → IsNext Others from answer
  remove_other = next_kept_at_removal All Others k (reach d spot.point) (kept_in S k d _) (kept_out S k d _)

  remove_here : (from : Option ℤ) → IsNext All from (Some k) → (answer : Option ℕ) → IsNext Others (Some (reach d spot.point)) answer → IsNext Others from answer
  remove_here = next_after_removal All Others k (reach d spot.point) (kept_in S k d _) (none_there S k d spot is apart) (own_reach S k d spot is _)

  -- what is nearest where nothing stands nearer
  is_here : (from : Option ℤ) → IsPast from (reach d spot.point) → ((c : ℕ) (z : ℤ) → Others c z → IsPast from z → z <ℤ reach d spot.point → ⊥)
      → (answer : Option ℕ) → IsNext All from answer → answer ≡ Some k
  is_here from past between =
      next_is All k (reach d spot.point) (own S k d spot is) (alone S k d spot is apart) from past
      (λ c z here p less. between c z (kept_out S k d _ c z here (λ e. ends c z here less e)) p less)
    where
      ends : (c : ℕ) (z : ℤ) → All c z → z <ℤ reach d spot.point → c ≢ k
      ends c z here less e =
          let same = own_reach S k d spot is _ z (subst (λ i. All i z) e here) in
          omega (arith, ints)

  -- where another one stands nearer, the crossing is not the nearest
  is_not_here : (from : Option ℤ) (q : ℕ) (y : ℤ) → Others q y → IsPast from y → y <ℤ reach d spot.point
      → (answer : Option ℕ) → IsNext All from answer → answer ≢ Some k
  is_not_here from q y here past less answer h e =
      let n = subst (IsNext All from) e h in
      let same = own_reach S k d spot is _ n.0 n.1 in
      let le = n.3 q y (kept_in S k d _ q y here) past in
      omega (arith, ints)

  -- nothing stands between the neighbour before and the crossing
  none_before : IsPrevious Others (reach d spot.point) None → (c : ℕ) (z : ℤ) → Others c z → IsPast None z → z <ℤ reach d spot.point → ⊥
  none_before before c z here p less = before c z here less

  none_between : (q : ℕ) → (before : IsPrevious Others (reach d spot.point) (Some q)) → (b : ℤ) → Others q b
      → (c : ℕ) (z : ℤ) → Others c z → IsPast (Some b) z → z <ℤ reach d spot.point → ⊥
  none_between q before b there c z here p less =
      let first = there.along in
      let le = before.3 c z here less in
      let same : b ≡ before.0 = sym there.along ∙ ap (λ s. reach d s.point) (same_spot _ _ (without k S q) there.is before.1.is) ∙ before.1.along in
      let past : b <ℤ z = p in
      omega (arith, ints)

  place_before : (q : ℕ) → (before : IsPrevious Others (reach d spot.point) (Some q)) → (b : ℤ) → Others q b → b <ℤ reach d spot.point
  place_before q before b there =
      let same : b ≡ before.0 = sym there.along ∙ ap (λ s. reach d s.point) (same_spot _ _ (without k S q) there.is before.1.is) ∙ before.1.along in
      subst (λ w. w <ℤ reach d spot.point) (sym same) before.2

module _ (a b : Lists) (k : ℕ) (d : Dir) (knows : KnowsNeighbours a k) where
  abbrev pub S : ℕ → Option Spot
  S = spot_at a

  abbrev pub T : ℕ → Option Spot
  T = without k (spot_at a)

  abbrev pub l : ℕ
  l = line_along d knows.spot

  abbrev pub prev : Option ℕ
  prev = link a l (Some k) (opposite d)

  -- the neighbour against the direction is the nearest before
  before : IsPrevious (Stands T l d) (reach d knows.spot.point) prev
  before = previous_of_next T l d knows.spot.point prev
      (subst (λ m. IsNext (Stands T m (opposite d)) (Some (reach (opposite d) knows.spot.point)) (link a m (Some k) (opposite d)))
      (line_along-opposite d knows.spot) (knows.next (opposite d)))

  -- lines other than the crossing's have the same crossings with it and without
  next_with : (m : ℕ) → m ≢ l → (from : Option ℤ) (answer : Option ℕ) → IsNext (Stands T m d) from answer → IsNext (Stands S m d) from answer
  next_with m ne = next_same (Stands T m d) (Stands S m d) (kept_in S k d m) (on_other S k d knows.spot knows.is m ne)

  next_without : (m : ℕ) → m ≢ l → (from : Option ℤ) (answer : Option ℕ) → IsNext (Stands S m d) from answer → IsNext (Stands T m d) from answer
  next_without m ne = next_same (Stands S m d) (Stands T m d) (on_other S k d knows.spot knows.is m ne) (kept_in S k d m)

  -- a crossing of another line is not the neighbour before
  not_before : (p : Option ℕ) → IsPrevious (Stands T l d) (reach d knows.spot.point) p → (c : ℕ) (s : Spot) → T c ≡ Some s → line_along d s ≢ l → p ≢ Some c
  not_before None near c s is ne e = none_some c e
  not_before (Some q) near c s is ne e =
      let here = subst (λ i. Stands T l d i near.0) (some_is q c e) near.1 in
      ne (ap (line_along d) (same_spot s here.spot (T c) is here.is) ∙ here.line)

  module _ (to : Option ℕ) (relinks : Relinks a b l prev d to) where
    -- the begin of a list, where the crossing has a neighbour before, or is on another line
    start_same : (m : ℕ) → (prev ≢ None) ⊎ (m ≢ l) → link b m None d ≡ link a m None d
    start_same m (inl some) = relinks.other_crossings m None (λ e. some (sym e))
    start_same m (inr other) = relinks.other_lines m other

    next_same_as : (m c : ℕ) → prev ≢ Some c → link b m (Some c) d ≡ link a m (Some c) d
    next_same_as m c ne = relinks.other_crossings m (Some c) (λ e. ne (sym e))

  module _ (others : AreLinked a T d) (relinks : Relinks a b l prev d (Some k)) where
    put_start_on : (p : Option ℕ) → prev ≡ p → IsPrevious (Stands T l d) (reach d knows.spot.point) p
        → (line : Line) → line_at a l ≡ Some line → line.way ≡ way_of d → IsNext (Stands S l d) None (link b l None d)
    put_start_on None e before line is way =
        subst (IsNext (Stands S l d) None) (sym (ap (λ p. link b l p d) (sym e) ∙ relinks.changed))
        (put_here S k d knows.spot knows.is (knows.apart d) None tt (none_before S k d knows.spot knows.is (knows.apart d) before))
    put_start_on (Some q) e before line is way =
        subst (IsNext (Stands S l d) None) (sym (start_same (Some k) relinks l (inl (λ n. none_some q (sym n ∙ e)))))
        (put_other S k d knows.spot knows.is (knows.apart d) None (λ p. (q, before.0, before.1, tt, before.2)) (link a l None d) (others.starts l line is way))

    put_next_on : (p : Option ℕ) → prev ≡ p → IsPrevious (Stands T l d) (reach d knows.spot.point) p
        → (c : ℕ) (s : Spot) → T c ≡ Some s → line_along d s ≡ l → IsNext (Stands S l d) (Some (reach d s.point)) (link b l (Some c) d)
    put_next_on None e before c s is on =
        let here : Stands T l d c (reach d s.point) = record { spot = s; is = is; line = on; along = refl } in
        let old = subst (λ m. IsNext (Stands T m d) (Some (reach d s.point)) (link a m (Some c) d)) on (others.nexts c s is) in
        subst (IsNext (Stands S l d) (Some (reach d s.point))) (sym (next_same_as (Some k) relinks l c (λ n. none_some c (sym e ∙ n))))
        (put_other S k d knows.spot knows.is (knows.apart d) (Some (reach d s.point)) (λ p. absurd (before c (reach d s.point) here p)) (link a l (Some c) d) old)
    put_next_on (Some q) e before c s is on =
        let here : Stands T l d c (reach d s.point) = record { spot = s; is = is; line = on; along = refl } in
        let old = subst (λ m. IsNext (Stands T m d) (Some (reach d s.point)) (link a m (Some c) d)) on (others.nexts c s is) in
        elim (cases_eq q c) [
          | inl same ↦
              let there : Stands T l d q (reach d s.point) = subst (λ i. Stands T l d i (reach d s.point)) (sym same) here in
              subst (IsNext (Stands S l d) (Some (reach d s.point))) (sym (ap (λ i. link b l (Some i) d) (sym same) ∙ ap (λ p. link b l p d) (sym e) ∙ relinks.changed))
              (put_here S k d knows.spot knows.is (knows.apart d) (Some (reach d s.point))
              (place_before S k d knows.spot knows.is (knows.apart d) q before (reach d s.point) there)
              (none_between S k d knows.spot knows.is (knows.apart d) q before (reach d s.point) there))
          | inr ne ↦
              subst (IsNext (Stands S l d) (Some (reach d s.point))) (sym (next_same_as (Some k) relinks l c (λ n. ne (some_is q c (sym e ∙ n)))))
              (put_other S k d knows.spot knows.is (knows.apart d) (Some (reach d s.point))
              (λ p. nearer S k d knows.spot knows.is (knows.apart d) (Some q) before c (reach d s.point) here (λ n. ne (some_is q c n)) p) (link a l (Some c) d) old)
        ]

    put_itself : IsNext (Stands S l d) (Some (reach d knows.spot.point)) (link b l (Some k) d)
    put_itself =
        subst (IsNext (Stands S l d) (Some (reach d knows.spot.point))) (sym (next_same_as (Some k) relinks l k (not_itself S k d knows.spot knows.is (knows.apart d) prev before)))
        (put_other S k d knows.spot knows.is (knows.apart d) (Some (reach d knows.spot.point)) (λ p. absurd (let less : reach d knows.spot.point <ℤ reach d knows.spot.point = p in omega (arith, ints))) (link a l (Some k) d) (knows.next d))

    -- the crossing is in the list then
    pub linked_in : ((m : ℕ) → line_at b m ≡ line_at a m) → AreLinked b (spot_at a) d
    linked_in lines = record {
      starts = λ m line is way.
          elim (cases_eq m l) [
            | inl same ↦ subst (λ i. IsNext (Stands S i d) None (link b i None d)) (sym same)
                (put_start_on prev refl before line (ap (line_at a) (sym same) ∙ sym (lines m) ∙ is) way)
            | inr ne ↦ subst (IsNext (Stands S m d) None) (sym (start_same (Some k) relinks m (inr ne)))
                (next_with m ne None (link a m None d) (others.starts m line (sym (lines m) ∙ is) way))
          ];
      nexts = λ c s is.
          elim (cases_eq c k) [
            | inl same ↦
                let spot_is = same_spot knows.spot s (S k) knows.is (ap S (sym same) ∙ is) in
                subst (λ i. IsNext (Stands S (line_along d s) d) (Some (reach d s.point)) (link b (line_along d s) (Some i) d)) (sym same)
                (subst (λ t. IsNext (Stands S (line_along d t) d) (Some (reach d t.point)) (link b (line_along d t) (Some k) d)) spot_is put_itself)
            | inr ne ↦
                let old = without_other k S c ne ∙ is in
                elim (cases_eq (line_along d s) l) [
                  | inl on ↦ subst (λ m. IsNext (Stands S m d) (Some (reach d s.point)) (link b m (Some c) d)) (sym on) (put_next_on prev refl before c s old on)
                  | inr off ↦ subst (IsNext (Stands S (line_along d s) d) (Some (reach d s.point))) (sym (next_same_as (Some k) relinks (line_along d s) c (not_before prev before c s old off)))
                      (next_with (line_along d s) off (Some (reach d s.point)) (link a (line_along d s) (Some c) d) (others.nexts c s old))
                ]
          ];
    }

  module _ (linked : AreLinked a S d) (relinks : Relinks a b l prev d (link a l (Some k) d)) where
    remove_start_on : (p : Option ℕ) → prev ≡ p → IsPrevious (Stands T l d) (reach d knows.spot.point) p
        → (line : Line) → line_at a l ≡ Some line → line.way ≡ way_of d → IsNext (Stands T l d) None (link b l None d)
    remove_start_on None e before line is way =
        let old = linked.starts l line is way in
        let was = is_here S k d knows.spot knows.is (knows.apart d) None tt (none_before S k d knows.spot knows.is (knows.apart d) before) (link a l None d) old in
        subst (IsNext (Stands T l d) None) (sym (ap (λ p. link b l p d) (sym e) ∙ relinks.changed))
        (remove_here S k d knows.spot knows.is (knows.apart d) None (subst (IsNext (Stands S l d) None) was old) (link a l (Some k) d) (knows.next d))
    remove_start_on (Some q) e before line is way =
        let old = linked.starts l line is way in
        subst (IsNext (Stands T l d) None) (sym (start_same (link a l (Some k) d) relinks l (inl (λ n. none_some q (sym n ∙ e)))))
        (remove_other S k d knows.spot knows.is (knows.apart d) None (link a l None d) old
        (is_not_here S k d knows.spot knows.is (knows.apart d) None q before.0 before.1 tt before.2 (link a l None d) old))

    remove_next_on : (p : Option ℕ) → prev ≡ p → IsPrevious (Stands T l d) (reach d knows.spot.point) p
        → (c : ℕ) (s : Spot) → c ≢ k → S c ≡ Some s → line_along d s ≡ l → IsNext (Stands T l d) (Some (reach d s.point)) (link b l (Some c) d)
    remove_next_on p e before c s ne is on = by p e before
      where
        here : Stands T l d c (reach d s.point)
        here = record { spot = s; is = without_other k S c ne ∙ is; line = on; along = refl }

        old : IsNext (Stands S l d) (Some (reach d s.point)) (link a l (Some c) d)
        old = subst (λ m. IsNext (Stands S m d) (Some (reach d s.point)) (link a m (Some c) d)) on (linked.nexts c s is)

        -- it is not followed by the crossing, where it is not its neighbour before
        apart : (p : Option ℕ) → IsPrevious (Stands T l d) (reach d knows.spot.point) p → p ≢ Some c → link a l (Some c) d ≢ Some k
        apart p before other f =
            let n = subst (IsNext (Stands S l d) (Some (reach d s.point))) f old in
            let less : reach d s.point <ℤ reach d knows.spot.point = subst (λ w. reach d s.point <ℤ w) (own_reach S k d knows.spot knows.is l n.0 n.1) n.2 in
            let near = nearer S k d knows.spot knows.is (knows.apart d) p before c (reach d s.point) here other less in
            is_not_here S k d knows.spot knows.is (knows.apart d) (Some (reach d s.point)) near.0 near.1 near.2 near.3 near.4 (link a l (Some c) d) old f

        by : (p : Option ℕ) → prev ≡ p → IsPrevious (Stands T l d) (reach d knows.spot.point) p → IsNext (Stands T l d) (Some (reach d s.point)) (link b l (Some c) d)
        by None e before =
            subst (IsNext (Stands T l d) (Some (reach d s.point))) (sym (next_same_as (link a l (Some k) d) relinks l c (λ n. none_some c (sym e ∙ n))))
            (remove_other S k d knows.spot knows.is (knows.apart d) (Some (reach d s.point)) (link a l (Some c) d) old (apart None before (λ n. none_some c n)))
        by (Some q) e before =
            elim (cases_eq q c) [
              | inl same ↦
                  let there : Stands T l d q (reach d s.point) = subst (λ i. Stands T l d i (reach d s.point)) (sym same) here in
                  let was = is_here S k d knows.spot knows.is (knows.apart d) (Some (reach d s.point))
                  (place_before S k d knows.spot knows.is (knows.apart d) q before (reach d s.point) there)
                  (none_between S k d knows.spot knows.is (knows.apart d) q before (reach d s.point) there) (link a l (Some c) d) old in
                  subst (IsNext (Stands T l d) (Some (reach d s.point))) (sym (ap (λ i. link b l (Some i) d) (sym same) ∙ ap (λ p. link b l p d) (sym e) ∙ relinks.changed))
                  (remove_here S k d knows.spot knows.is (knows.apart d) (Some (reach d s.point)) (subst (IsNext (Stands S l d) (Some (reach d s.point))) was old) (link a l (Some k) d) (knows.next d))
              | inr other ↦
                  subst (IsNext (Stands T l d) (Some (reach d s.point))) (sym (next_same_as (link a l (Some k) d) relinks l c (λ n. other (some_is q c (sym e ∙ n)))))
                  (remove_other S k d knows.spot knows.is (knows.apart d) (Some (reach d s.point)) (link a l (Some c) d) old (apart (Some q) before (λ n. other (some_is q c n))))
            ]

    -- the crossing is out of the list then
    pub linked_out : ((m : ℕ) → line_at b m ≡ line_at a m) → AreLinked b (without k (spot_at a)) d
    linked_out lines = record {
      starts = λ m line is way.
          elim (cases_eq m l) [
            | inl same ↦ subst (λ i. IsNext (Stands T i d) None (link b i None d)) (sym same)
                (remove_start_on prev refl before line (ap (line_at a) (sym same) ∙ sym (lines m) ∙ is) way)
            | inr ne ↦ subst (IsNext (Stands T m d) None) (sym (start_same (link a l (Some k) d) relinks m (inr ne)))
                (next_without m ne None (link a m None d) (linked.starts m line (sym (lines m) ∙ is) way))
          ];
      nexts = λ c s is.
          let was = without_some k S c s is in
          elim (cases_eq (line_along d s) l) [
            | inl on ↦ subst (λ m. IsNext (Stands T m d) (Some (reach d s.point)) (link b m (Some c) d)) (sym on) (remove_next_on prev refl before c s was.0 was.1 on)
            | inr off ↦ subst (IsNext (Stands T (line_along d s) d) (Some (reach d s.point))) (sym (next_same_as (link a l (Some k) d) relinks (line_along d s) c (not_before prev before c s is off)))
                (next_without (line_along d s) off (Some (reach d s.point)) (link a (line_along d s) (Some c) d) (linked.nexts c s was.1))
          ];
    }

  -- a change is one after the neighbour before if it is one of the same line and link
  pub relinks_before : (m : ℕ) (p t to : Option ℕ) → m ≡ l → p ≡ prev → t ≡ to → Relinks a b m p d t → Relinks a b l prev d to
  relinks_before m p t to line read is h =
      subst (λ x. Relinks a b l prev d x) is
      (subst (λ x. Relinks a b l x d t) read
      (subst (λ x. Relinks a b x p d t) line h))

  -- what the crossing's node contains
  module _ (i : ℕ) (e : Point × Node) (named : i ≡ k) (is : entry_at a.crossings i ≡ Some e) where
    node_is : entry_at a.crossings k ≡ Some e
    node_is = subst (λ n. entry_at a.crossings n ≡ Some e) named is

    pub own_line_is : (m : ℕ) → m ≡ line_of d e.1 → m ≡ l
    own_line_is m read = read ∙ line_of-spot d e ∙ ap (line_along d) (same_spot (spot_of e) knows.spot (S k) (ap (option_map spot_of) node_is) knows.is)

    pub own_prev_is : (o : Dir) (p : Option ℕ) → o ≡ opposite d → p ≡ next_of o e.1 → p ≡ prev
    own_prev_is o p turned read = read ∙ ap (λ f. next_of f e.1) turned ∙ sym (ap (option_and_then (λ x. next_of (opposite d) x.1)) node_is)

    pub own_next_is : (p : Option ℕ) → p ≡ next_of d e.1 → p ≡ link a l (Some k) d
    own_next_is p read = read ∙ sym (ap (option_and_then (λ x. next_of d x.1)) node_is)

    pub own_runs : (m : ℕ) → m ≡ line_of d e.1 → RunsAlong a m d
    own_runs m read = subst (λ n. RunsAlong a n d) (sym (own_line_is m read)) (knows.runs d)

    pub own_relinks : (m : ℕ) (o : Dir) (p t to : Option ℕ) → m ≡ line_of d e.1 → o ≡ opposite d → p ≡ next_of o e.1 → t ≡ to → Relinks a b m p d t → Relinks a b l prev d to
    own_relinks m o p t to line turned read = relinks_before m p t to (own_line_is m line) (own_prev_is o p turned read)

  -- the neighbour before is there
  pub prev_live : (p : Option ℕ) → p ≡ prev → (q : ℕ) → p ≡ Some q → entry_at a.crossings q ≢ None
  prev_live p e q is none = live p (subst (IsPrevious (Stands T l d) (reach d knows.spot.point)) (sym e) before) q is none
    where
      live : (p : Option ℕ) → IsPrevious (Stands T l d) (reach d knows.spot.point) p → (q : ℕ) → p ≡ Some q → entry_at a.crossings q ≢ None
      live None near q is none = none_some q is
      live (Some r) near q is none =
          let at = (without_some k S r near.1.spot near.1.is).1 in
          let gone : S r ≡ None = ap (λ i. S i) (some_is r q is) ∙ ap (option_map spot_of) none in
          none_some_spot near.1.spot (sym gone ∙ at)

  -- its own neighbours stay
  pub own_links_kept : (to : Option ℕ) → Relinks a b l prev d to → (m : ℕ) (e : Dir) → link b m (Some k) e ≡ link a m (Some k) e
  own_links_kept to relinks m e =
      elim (cases_dir e d) [
        | inl same ↦ subst (λ f. link b m (Some k) f ≡ link a m (Some k) f) (sym same)
            (relinks.other_crossings m (Some k) (λ f. not_itself S k d knows.spot knows.is (knows.apart d) prev before (sym f)))
        | inr other ↦ (relinks.other_directions e other).nexts m k
      ]

-- both have the same spots
pub spots_are : (a b : Lists) → ((c : ℕ) → spot_at b c ≡ spot_at a c) → spot_at b ≡ spot_at a
spots_are a b h i c = h c i
