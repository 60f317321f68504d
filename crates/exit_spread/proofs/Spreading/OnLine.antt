-- The line of a run, and its stops behind the run's exit.
use Rattle.std.proofs.Common.{◌≡◌, ℕ, ◌<◌, ℤ, List, Some, get_or, length, refl, sym, ap, subst, ◌∙◌, arith}
use Rattle.std.specs.Prelude.{Contains, slice_get}
use Rattle.std.specs.FinMap.{get}
use Rattle.std.proofs.lemmas.Int.{ints}
use Rattle.std.proofs.lemmas.List.Elements.{All-contains}
use Rattle.std.proofs.lemmas.Option.{get_or_from_slice_get, slice_get_within}
use Rattle.plane_geom.specs.declared.point.Point.{Point}
use Rattle.plane_geom.specs.declared.point.Dir.{Dir}
use Rattle.plane_geom.specs.declared.point.Dir.TheVariants.{East, South, West, North}
use Rattle.plane_geom.specs.declared.point.Way.{Way}
use Rattle.plane_geom.specs.declared.point.Way.TheVariants.{Vertical, Horizontal}
use Rattle.plane_geom.specs.declared.floor.Line.{Line}
use Rattle.plane_geom.specs.Along.{across, along, reach, rising, way_of}
use Rattle.plane_geom.specs.Floor.{Holds, point_on}
use Rattle.line_arena.specs.Arena.{IsOn, StandsAt, line_along}
use Rattle.line_arena.proofs.Arenas.ArenaLaws.{held_in, one_point, placed}
use Rattle.walk_model.specs.Cost.{turn}
use Rattle.line_lists.specs.Lists.{AreListsOf, AreStopsOf, HasNumber, IsNumbered, IsStopOf, LeadsAcross, Lists, number_of, stops_of}
use Rattle.line_lists.specs.Numbers.{other_way}
use Rattle.line_lists.specs.declared.stop.Stop.{Stop}
use Rattle.line_lists.proofs.OnLine.{one_of_both, same_line}
use Rattle.search_problem.specs.Problems.{IsReady}
use Rattle.search_problem.specs.declared.problem.Problem.{Problem}
use Rattle.exit_spread.specs.declared.run.Run.{Run}
use Rattle.exit_spread.specs.Propagating.{IsRun, reach_along}
use Rattle.exit_spread.proofs.Known.Numbers.{numbered_line}

across_on : (d : Dir) (l : Line) (p : Point) → l.way ≡ way_of d → Holds l p → across (way_of d) p ≡ l.at
across_on d l p way h = ap (across (way_of d)) h.here ∙ ap (λ w. across (way_of d) (point_on w l.at h.along)) way ∙ by_dir d l.at h.along
  where
    by_dir : (d : Dir) (at z : ℤ) → across (way_of d) (point_on (way_of d) at z) ≡ at
    by_dir East at z = refl
    by_dir South at z = refl
    by_dir West at z = refl
    by_dir North at z = refl

pub reach_on : (d : Dir) (w : Way) (at z : ℤ) → w ≡ way_of d → reach d (point_on w at z) ≡ reach_along d z
reach_on d w at z way = ap (λ v. reach d (point_on v at z)) way ∙ by_dir d
  where
    by_dir : (d : Dir) → reach d (point_on (way_of d) at z) ≡ reach_along d z
    by_dir East = refl
    by_dir South = refl
    by_dir West = refl
    by_dir North = refl

along_on : (w : Way) (at z : ℤ) → along w (point_on w at z) ≡ z
along_on Vertical at z = refl
along_on Horizontal at z = refl

-- a point is determined by its coordinates across and along
pub there : (w : Way) (p : Point) → point_on w (across w p) (along w p) ≡ p
there Vertical p = refl
there Horizontal p = refl

pub way_across : (h d : Dir) → turn h d ≡ 1 → way_of h ≡ other_way (way_of d)
way_across East South e = refl
way_across East North e = refl
way_across West South e = refl
way_across West North e = refl
way_across South East e = refl
way_across South West e = refl
way_across North East e = refl
way_across North West e = refl
way_across _ _ e = absurd (omega (arith, e))

-- for one who comes across the line, a point on it is at its coordinate along the line, and as far on as the line
across_point : (h d : Dir) (at z : ℤ) → turn h d ≡ 1 → across (way_of h) (point_on (way_of d) at z) ≡ z
across_point East South at z once = refl
across_point East North at z once = refl
across_point West South at z once = refl
across_point West North at z once = refl
across_point South East at z once = refl
across_point South West at z once = refl
across_point North East at z once = refl
across_point North West at z once = refl
across_point _ _ at z once = absurd (omega (arith, once))

as_far : (h d : Dir) (e : Point) (z : ℤ) → turn h d ≡ 1 → reach h (point_on (way_of d) (across (way_of d) e) z) ≡ reach h e
as_far East South e z once = refl
as_far East North e z once = refl
as_far West South e z once = refl
as_far West North e z once = refl
as_far South East e z once = refl
as_far South West e z once = refl
as_far North East e z once = refl
as_far North West e z once = refl
as_far _ _ e z once = absurd (omega (arith, once))

module _ (p : Problem) (lists : Lists) (ready : IsReady p) (of : AreListsOf p.arena.now lists) (r : Run) (run : IsRun p (number_of lists) r) where
  -- the line of the run
  pub record IsRunLine : Type 0 where
    pub id : ℕ
    pub line : Line
    pub numbered : IsNumbered p.arena.now lists id r.line line
    pub way : line.way ≡ way_of r.heading
    pub at : line.at ≡ across (way_of r.heading) r.end

  pub run_line : IsRunLine
  run_line =
      let a = p.arena.now in
      let d = r.heading in
      let u = placed a r.kept.crossing r.end ready.arena run.here in
      let held = held_in a r.kept.crossing r.end d u in
      let n : HasNumber a lists (line_along d u.pair) r.line =
      subst (HasNumber a lists (line_along d u.pair)) run.kept.on (numbered_line a lists of r.kept.crossing d u.pair u.is) in
      let same : held.line ≡ n.0 = same_line held.line n.0 (sym held.is ∙ n.1.is) in
      record {
        id = line_along d u.pair;
        line = held.line;
        numbered = record { is = held.is; listed = n.1.listed ∙ ap (λ (l : Line). Some l) (sym same) };
        way = held.way;
        at = sym (across_on d held.line r.end held.way held.on);
      }

  pub line_listed : r.line < length lists.lines
  line_listed = slice_get_within lists.lines r.line run_line.line run_line.numbered.listed

  pub stops : AreStopsOf p.arena.now run_line.id run_line.line (stops_of lists r.line)
  stops = of.stops run_line.id r.line run_line.line run_line.numbered

  -- the line is read off the lists
  pub point_read : (xs : List Line) (e : Line) (z : ℤ) → xs ≡ lists.lines → point_on (get_or xs r.line e).way (get_or xs r.line e).at z ≡ point_on run_line.line.way run_line.line.at z
  point_read xs e z same =
      ap (λ (l : Line). point_on l.way l.at z) (ap (λ ys. get_or ys r.line e) same ∙ get_or_from_slice_get lists.lines r.line run_line.line e run_line.numbered.listed)

  -- each number of the line is that of the run
  one_number : (id n m : ℕ) (l k : Line) → IsNumbered p.arena.now lists id n l → IsNumbered p.arena.now lists id m k → n ≡ m
  one_number id n m l k a b = of.once n m l a.listed (b.listed ∙ ap (λ (j : Line). Some j) (sym (same_line l k (sym a.is ∙ b.is))))

  -- a stop of the line
  pub record IsStopHere (s : Stop) : Type 0 where
    pub stands : StandsAt p.arena.now s.crossing (point_on run_line.line.way run_line.line.at s.along)
    pub reach : reach r.heading (point_on run_line.line.way run_line.line.at s.along) ≡ reach_along r.heading s.along
    pub on : number_of lists s.crossing (way_of r.heading) ≡ r.line
    pub leads : (h : Dir) → turn h r.heading ≡ 1 → s.across ≡ number_of lists s.crossing (way_of h)

  pub stop_here : (s : Stop) → Contains (stops_of lists r.line) s → IsStopHere s
  stop_here s has =
      let a = p.arena.now in
      let l = run_line in
      let w = l.line.way in
      let is : IsStopOf a l.id l.line s = All-contains (IsStopOf a l.id l.line) (stops_of lists r.line) s stops.each has in
      let leads : LeadsAcross a lists w s = All-contains (LeadsAcross a lists w) (stops_of lists r.line) s (of.across l.id r.line l.line l.numbered) has in
      let mine = of.numbers s.crossing is.pair w is.is in
      let other = of.numbers s.crossing is.pair (other_way w) is.is in
      let cross = leads is.pair is.is in
      record {
        stands = is.stands;
        reach = reach_on r.heading w l.line.at s.along l.way;
        on = ap (number_of lists s.crossing) (sym l.way)
            ∙ one_number l.id (number_of lists s.crossing w) r.line mine.0 l.line (subst (λ id. IsNumbered a lists id (number_of lists s.crossing w) mine.0) is.here mine.1) l.numbered;
        leads = λ h bend.
            one_number (line_along (rising (other_way w)) is.pair) s.across (number_of lists s.crossing (other_way w)) cross.0 other.0 cross.1 other.1
            ∙ ap (number_of lists s.crossing) (ap other_way l.way ∙ sym (way_across h r.heading bend));
      }

  -- where the stop stands, for one who comes across the line
  pub record IsAcross (s : Stop) (h : Dir) (q : Point) : Type 0 where
    pub across : across (way_of h) q ≡ s.along
    pub reach : reach h q ≡ reach h r.end

  pub stop_across : (s : Stop) → Contains (stops_of lists r.line) s → (h : Dir) → turn h r.heading ≡ 1 → (q : Point) → StandsAt p.arena.now s.crossing q → IsAcross s h q
  stop_across s has h once q here =
      let l = run_line in
      let d = r.heading in
      let is : q ≡ point_on (way_of d) (across (way_of d) r.end) s.along =
      one_point p.arena.now s.crossing q (point_on l.line.way l.line.at s.along) ready.arena here (stop_here s has).stands
      ∙ ap (λ w. point_on w l.line.at s.along) l.way ∙ ap (λ z. point_on (way_of d) z s.along) l.at in
      record {
        across = ap (across (way_of h)) is ∙ across_point h d (across (way_of d) r.end) s.along once;
        reach = ap (reach h) is ∙ as_far h d r.end s.along once;
      }

  -- the stop of a crossing behind the run's exit
  pub record IsStopAt (c : ℕ) (q : Point) (s : Stop) : Type 0 where
    pub has : Contains (stops_of lists r.line) s
    pub crossing : s.crossing ≡ c
    pub along : s.along ≡ along (way_of r.heading) q

  pub stop_at : (c : ℕ) (q : Point) → StandsAt p.arena.now c q → number_of lists c (way_of r.heading) ≡ r.line → (s : Stop) × IsStopAt c q s
  stop_at c q here on =
      let a = p.arena.now in
      let l = run_line in
      let w = l.line.way in
      let mine = of.numbers c here.pair w here.is in
      let number : number_of lists c w ≡ r.line = ap (number_of lists c) l.way ∙ on in
      let lines : mine.0 ≡ l.line = same_line mine.0 l.line (sym mine.1.listed ∙ ap (slice_get lists.lines) number ∙ l.numbered.listed) in
      let id : line_along (rising w) here.pair ≡ l.id = one_line (line_along (rising w) here.pair) l.id l.line (mine.1.is ∙ ap (λ (j : Line). Some j) lines) l.numbered.is in
      let is_on : IsOn a l.id c = record { pair = here.pair; is = here.is; on = one_of_both w here.pair l.id id } in
      let any = stops.all c is_on in
      let s : Stop = any.1 in
      let has : Contains (stops_of lists r.line) s = (any.0, any.2, any.3) in
      let stands = (stop_here s has).stands in
      let point : point_on w l.line.at s.along ≡ q = one_point a c (point_on w l.line.at s.along) q ready.arena (subst (λ k. StandsAt a k (point_on w l.line.at s.along)) any.4 stands) here in (
        s,
        record {
          has = has;
          crossing = any.4;
          along = sym (along_on w l.line.at s.along) ∙ ap (along w) point ∙ ap (λ v. along v q) l.way;
        },
      )
    where
      one_line : (i j : ℕ) (line : Line) → get p.arena.now.lines i ≡ Some line → get p.arena.now.lines j ≡ Some line → i ≡ j
      one_line i j line at_i at_j =
          let first : Holds line (point_on line.way line.at line.lo) = record { along = line.lo; from = omega (arith, ints); to = ready.arena.ordered i line at_i; here = refl } in
          ready.arena.apart i j line line (point_on line.way line.at line.lo) at_i at_j (record { way = refl; at = refl }) first first

pub reach_of_along : (d : Dir) (q : Point) → reach_along d (along (way_of d) q) ≡ reach d q
reach_of_along East q = refl
reach_of_along South q = refl
reach_of_along West q = refl
reach_of_along North q = refl
