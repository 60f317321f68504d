-- The line of a run to a crossing, and the checkpoints on the run.
use Rattle.std.proofs.Common.{◌≡◌, ◌⊎◌, ◌≤ℤ◌, ℕ, ◌<◌, List, length, Some, inl, inr, refl, sym, ap, subst, ◌∙◌, arith}
use Rattle.std.specs.Prelude.{Any, Contains, slice_get}
use Rattle.std.specs.FinMap.{get}
use Rattle.std.proofs.Math.Logic.{∥∥₁_elim}
use Rattle.std.proofs.Math.Nat.{ℕ_set}
use Rattle.std.proofs.lemmas.Int.{ints}
use Rattle.std.proofs.lemmas.List.Elements.{All-contains}
use Rattle.std.proofs.lemmas.Option.{slice_get_within}
use Rattle.std.proofs.lemmas.Slice.Zip.{AllZip-long}
use Rattle.plane_geom.specs.declared.point.Point.{Point}
use Rattle.plane_geom.specs.declared.point.Dir.{Dir}
use Rattle.plane_geom.specs.declared.point.Dir.TheVariants.{East, South, West, North}
use Rattle.plane_geom.specs.declared.point.Way.{Way}
use Rattle.plane_geom.specs.declared.point.Way.TheVariants.{Vertical, Horizontal}
use Rattle.plane_geom.specs.declared.floor.Line.{Line}
use Rattle.plane_geom.specs.Along.{across, reach, way_of}
use Rattle.plane_geom.specs.Floor.{Holds}
use Rattle.plane_geom.specs.Point.{opposite}
use Rattle.plane_geom.specs.Rect.{HasWithin}
use Rattle.line_arena.specs.Arena.{Arena, IsArena, LiesFurther, StandsAt, line_along}
use Rattle.line_arena.proofs.Arenas.ArenaLaws.{IsPlaced, placed, same_pair}
use Rattle.line_lists.specs.Lists.{AreListsOf, Lists, number_of}
use Rattle.line_lists.proofs.OnLine.{same_line}
use Rattle.exit_spread.proofs.Known.Numbers.{numbered_line}
use Rattle.move_model.specs.Stations.{line_between}
use Rattle.move_model.proofs.Stopping.RunLines.{lie_on_line, way_between}
use Rattle.walk_model.specs.Cost.{turn}
use Rattle.walk_laws.proofs.Steps.Shift.{turn_back}
use Rattle.walk_laws.proofs.Steps.Turns.{across_two}
use Rattle.search_problem.specs.Bounds.{origins_after}
use Rattle.search_problem.specs.Origins.{Covers}
use Rattle.search_problem.specs.declared.ends.Entry.{Entry}
use Rattle.search_problem.specs.declared.origin.Origin.{Origin}
use Rattle.search_problem.specs.Problems.{IsReady}
use Rattle.search_problem.specs.declared.problem.Problem.{Problem}
use Rattle.side_touches.specs.Touches.{AreLineTouches, IsRunOn, LineTouches}
use Rattle.exit_spread.specs.Propagating.{AreOf, crosswise}
use Rattle.exit_spread.proofs.Known.Lines.{further_less}

not_both : (w : Way) → w ≡ Vertical → w ≡ Horizontal → ⊥
not_both w v h = absurd (let wrong : Vertical ≡ Horizontal = sym v ∙ h in cc)

-- of the two lines of a crossing the one that runs the way of the direction is that along it
line_by_way : (a : Arena) (c : ℕ) (q : Point) (u : IsPlaced a c q) (d : Dir) (id : ℕ) (l : Line) → get a.lines id ≡ Some l → l.way ≡ way_of d → (u.pair.vertical ≡ id) ⊎ (u.pair.horizontal ≡ id) → line_along d u.pair ≡ id
line_by_way a c q u East id l is way (inl v) = absurd (not_both l.way (ap (λ (k : Line). k.way) (same_line l u.down (sym is ∙ ap (get a.lines) (sym v) ∙ u.is_down)) ∙ u.down_runs) way)
line_by_way a c q u East id l is way (inr h) = h
line_by_way a c q u South id l is way (inl v) = v
line_by_way a c q u South id l is way (inr h) = absurd (not_both l.way way (ap (λ (k : Line). k.way) (same_line l u.across (sym is ∙ ap (get a.lines) (sym h) ∙ u.is_across)) ∙ u.across_runs))
line_by_way a c q u West id l is way (inl v) = absurd (not_both l.way (ap (λ (k : Line). k.way) (same_line l u.down (sym is ∙ ap (get a.lines) (sym v) ∙ u.is_down)) ∙ u.down_runs) way)
line_by_way a c q u West id l is way (inr h) = h
line_by_way a c q u North id l is way (inl v) = v
line_by_way a c q u North id l is way (inr h) = absurd (not_both l.way way (ap (λ (k : Line). k.way) (same_line l u.across (sym is ∙ ap (get a.lines) (sym h) ∙ u.is_across)) ∙ u.across_runs))

-- a run between two crossings is on the line with the number of the second
pub run_on : (a : Arena) (lists : Lists) → IsArena a → AreListsOf a lists → (d : Dir) (b c : ℕ) (p q : Point) → LiesFurther a d b c → StandsAt a b p → StandsAt a c q →
    (l : Line) × (slice_get lists.lines (number_of lists c (way_of d)) ≡ Some l) × IsRunOn l d p q
run_on a lists arena of d b c p q f at_p at_q =
    let lie = lie_on_line a arena d b c p q f at_p at_q in
    let u = placed a c q arena at_q in
    let pairs = same_pair u.pair lie.second.pair (sym u.is ∙ lie.second.is) in
    let on : (u.pair.vertical ≡ lie.id) ⊎ (u.pair.horizontal ≡ lie.id) = subst (λ r. (r.vertical ≡ lie.id) ⊎ (r.horizontal ≡ lie.id)) (sym pairs) lie.second.on in
    let id = line_by_way a c q u d lie.id lie.line lie.is (sym lie.part.way ∙ way_between d p q) on in
    let numbered = numbered_line a lists of c d u.pair u.is in
    let lines : lie.line ≡ numbered.0 = same_line lie.line numbered.0 (sym lie.is ∙ ap (get a.lines) (sym id) ∙ numbered.1.is) in
    let less = further_less a arena d b c p q f at_p at_q in (
      lie.line,
      numbered.1.listed ∙ ap (λ (l : Line). Some l) (sym lines),
      record { part = lie.part; ordered = omega (arith, ints, less) },
    )

-- a point of a run lies between its ends
pub record LiesOn (d : Dir) (p q v : Point) : Type 0 where
  pub across : across (way_of d) v ≡ across (way_of d) p
  pub from : reach d p ≤ℤ reach d v
  pub to : reach d v ≤ℤ reach d q

pub lies_on : (d : Dir) (p q v : Point) → Holds (line_between d p q) v → LiesOn d p q v
lies_on East p q v h = let from = h.from in let to = h.to in let x = ap (λ (k : Point). k.x) h.here in record { across = ap (λ (k : Point). k.y) h.here; from = omega (arith, ints, from, x); to = omega (arith, ints, to, x) }
lies_on South p q v h = let from = h.from in let to = h.to in let y = ap (λ (k : Point). k.y) h.here in record { across = ap (λ (k : Point). k.x) h.here; from = omega (arith, ints, from, y); to = omega (arith, ints, to, y) }
lies_on West p q v h = let from = h.from in let to = h.to in let x = ap (λ (k : Point). k.x) h.here in record { across = ap (λ (k : Point). k.y) h.here; from = omega (arith, ints, to, x); to = omega (arith, ints, from, x) }
lies_on North p q v h = let from = h.from in let to = h.to in let y = ap (λ (k : Point). k.y) h.here in record { across = ap (λ (k : Point). k.x) h.here; from = omega (arith, ints, to, y); to = omega (arith, ints, from, y) }

-- the number of a crossing's line is one of those that have touches
pub line_within : (p : Problem) (lists : Lists) (ts : List LineTouches) → IsReady p → AreOf p lists ts → (d : Dir) (c : ℕ) (q : Point) → StandsAt p.arena.now c q → number_of lists c (way_of d) < length ts
line_within p lists ts ready of d c q here =
    let numbered = numbered_line p.arena.now lists of.are_lists c d here.pair here.is in
    let within = slice_get_within lists.lines (number_of lists c (way_of d)) numbered.0 numbered.1.listed in
    let many = ∥∥₁_elim of.are_touches (ℕ_set (length ts) (length lists.lines)) (AllZip-long (AreLineTouches p.solids.now) lists.lines ts) in
    omega (arith, within, many)

crosswise_turns : (h : Dir) → turn (crosswise h) h ≡ 1
crosswise_turns East = refl
crosswise_turns South = refl
crosswise_turns West = refl
crosswise_turns North = refl

-- a bend is from one of the two directions across
pub two_across : (b h : Dir) → turn b h ≡ 1 → (b ≡ crosswise h) ⊎ (b ≡ opposite (crosswise h))
two_across b h e = across_two h (crosswise h) b (crosswise_turns h) (turn_back h b ∙ e)

-- the port of an entry is in the box of an origin
pub entry_in_box : (p : Problem) → IsReady p → (e : Entry) → Contains p.entries.items e → Any (λ (o : Origin). HasWithin o.ports e.port) (origins_after p.origins.items 0)
entry_in_box p ready e has =
    let covers = All-contains (λ (f : Entry). Any (λ (o : Origin). Covers o f) (origins_after p.origins.items 0)) p.entries.items e ready.covered has in
    (covers.0, covers.1, covers.2, covers.3, covers.4.port)
