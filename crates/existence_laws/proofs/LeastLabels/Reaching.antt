-- It is decided whether walks come to a place, and at which least cost.
use Rattle.std.proofs.Common.{◌≡◌, ◌⊎◌, inl, inr, ℕ, zero, suc, ◌+◌, ◌-◌, ◌<◌, ◌≤◌, ℤ, pos, ◌+ℤ◌, ◌-ℤ◌, List, [], ◌∷◌, length, Option, Some, None, refl, sym, ap, ◌∙◌, subst, arith}
use Rattle.std.proofs.Math.Decide.{map_dec, dec_le, ℕ_discrete}
use Rattle.std.specs.Prelude.{Contains, unsigned_abs}
use Rattle.std.proofs.lemmas.Bool.{cases_lt}
use Rattle.std.proofs.lemmas.Int.{ints}
use Rattle.std.proofs.lemmas.Option.{none-some, same_Some}
use Rattle.plane_geom.specs.declared.point.Point.{Point}
use Rattle.plane_geom.specs.declared.point.Dir.{Dir}
use Rattle.plane_geom.specs.declared.point.Dir.TheVariants.{East, South, West, North}
use Rattle.plane_geom.specs.declared.floor.Floor.{Floor}
use Rattle.plane_geom.specs.Point.{IsCoordinate, PointIsOnSheet, forward, opposite, sheet_start}
use Rattle.plane_geom.specs.Floor.{IsCrossing}
use Rattle.walk_model.specs.declared.task.Task.{Task}
use Rattle.walk_model.specs.Choice.{stub_length}
use Rattle.proof_model.specs.declared.proof.Claim.{Claim}
use Rattle.proof_model.specs.declared.proof.Claim.TheVariants.{Cost, Cut}
use Rattle.move_model.specs.Places.{ComesTo}
use Rattle.proof_model.specs.Crossings.{IsNextCrossing}
use Rattle.proof_model.specs.LeastLabels.{Comes, IsLabelReached, Step}
use Rattle.proof_model.specs.Places.{IsEntry, IsMove, Place}
use Rattle.proof_model.specs.Rules.{Suffices}
use Rattle.existence_laws.proofs.Deciding.Decided.{HasLeast, both, least_below, one_of, some_below, some_in}
use Rattle.existence_laws.proofs.Deciding.Alike.{same_point}
use Rattle.existence_laws.proofs.Deciding.Counting.{below, contains_below, stops}
use Rattle.existence_laws.proofs.Auditing.Floors.{crossing_on_sheet, few_ahead}
use Rattle.existence_laws.proofs.Walking.Lines.{same_dir}
use Rattle.existence_laws.proofs.Auditing.Places.{Enters, Moves, enters_decided, move_by, move_cost, moves_decided, some_dir, stands}

-- there and back
back_on : (d : Dir) (n : ℕ) (p : Point) → forward d n (forward (opposite d) n p) ≡ p
back_on East n p = let e : (p.x -ℤ pos n) +ℤ pos n ≡ p.x = omega (arith, ints) in λ i. record { x = e i; y = p.y }
back_on South n p = let e : (p.y -ℤ pos n) +ℤ pos n ≡ p.y = omega (arith, ints) in λ i. record { x = p.x; y = e i }
back_on West n p = let e : (p.x +ℤ pos n) -ℤ pos n ≡ p.x = omega (arith, ints) in λ i. record { x = e i; y = p.y }
back_on North n p = let e : (p.y +ℤ pos n) -ℤ pos n ≡ p.y = omega (arith, ints) in λ i. record { x = p.x; y = e i }

on_back : (d : Dir) (n : ℕ) (p : Point) → forward (opposite d) n (forward d n p) ≡ p
on_back East n p = let e : (p.x +ℤ pos n) -ℤ pos n ≡ p.x = omega (arith, ints) in λ i. record { x = e i; y = p.y }
on_back South n p = let e : (p.y +ℤ pos n) -ℤ pos n ≡ p.y = omega (arith, ints) in λ i. record { x = p.x; y = e i }
on_back West n p = let e : (p.x -ℤ pos n) +ℤ pos n ≡ p.x = omega (arith, ints) in λ i. record { x = e i; y = p.y }
on_back North n p = let e : (p.y -ℤ pos n) +ℤ pos n ≡ p.y = omega (arith, ints) in λ i. record { x = p.x; y = e i }

-- a coordinate by its number from the beginning of the sheet
abbrev pub coordinate : ℕ → ℤ
coordinate i = sheet_start +ℤ pos i

pub numbered : (z : ℤ) → IsCoordinate z → (i : ℕ) × (i < 4000000001) × (coordinate i ≡ z)
numbered z c =
    let low = c.low in
    let high = c.high in
    (unsigned_abs (z -ℤ sheet_start), omega (arith, ints, low, high), omega (arith, ints, low, high))

module _ (floor : Floor) (task : Task) where
  -- some place before, from which a move leads here
  Before : (Place → ℕ → Type 0) → Place → Type 0
  Before P x = (y : Place) × (cost : ℕ) × IsMove floor task y cost x × P y cost

  -- the place from which n steps lead to the place
  abbrev behind : Place → ℕ → ℕ → Dir → Place
  behind x n stage h = stands stage (forward (opposite x.heading) n x.at) h

  HasBehind : (Place → ℕ → Type 0) → Place → Type 0
  HasBehind P x =
      (n : ℕ) × (n < 8000000001) × ((stage : ℕ) × (stage < suc x.stage) × ((h : Dir)
      × (Moves floor task (behind x n stage h) x.heading n x.stage × P (behind x n stage h) (move_cost floor task (behind x n stage h) x.heading n))))

  before_from : (P : Place → ℕ → Type 0) (x : Place) → HasBehind P x → Before P x
  unfolding Before HasBehind
  before_from P x (n, few, (stage, low, (h, (moves, p)))) =
      let y = behind x n stage h in
      let move = move_by floor task y x.heading n x.stage moves in
      let at = back_on x.heading n x.at in
      let place : stands x.stage (forward x.heading n y.at) x.heading ≡ x = λ i. record { stage = x.stage; at = at i; heading = x.heading } in
      (y, move_cost floor task y x.heading n, subst (IsMove floor task y (move_cost floor task y x.heading n)) place move, p)

  before_back : (P : Place → ℕ → Type 0) (x : Place) → Before P x → HasBehind P x
  unfolding Before HasBehind Moves
  before_back P x (y, cost, m, p) =
      let n = m.steps in
      let few = few_ahead floor x.heading y.at n x.at m.next.ahead in
      let from = m.stage.from in
      let there : x.at ≡ forward x.heading n y.at = m.next.ahead.straight in
      let here : y.at ≡ forward (opposite x.heading) n x.at = sym (ap (forward (opposite x.heading) n) there ∙ on_back x.heading n y.at) in
      let place : y ≡ behind x n y.stage y.heading = λ i. record { stage = y.stage; at = here i; heading = y.heading } in
      let again : x.at ≡ forward x.heading n (forward (opposite x.heading) n x.at) = sym (back_on x.heading n x.at) in (
        n,
        omega (arith, few),
        (
          y.stage,
          omega (arith, from),
          (
            y.heading,
            (
              (
                subst (IsNextCrossing floor x.heading (forward (opposite x.heading) n x.at) n) again (subst (λ q. IsNextCrossing floor x.heading q n x.at) here m.next),
                subst (λ q. ComesTo task.via y.stage q x.stage) again m.stage,
              ),
              subst (P (behind x n y.stage y.heading)) m.costs (subst (λ z. P z cost) place p),
            ),
          ),
        ),
      )

  before_decided : (P : Place → ℕ → Type 0) → ((y : Place) (cost : ℕ) → Dec (P y cost)) → (x : Place) → Dec (Before P x)
  unfolding HasBehind
  before_decided P each x = map_dec (before_from P x) (before_back P x)
      (some_below 8000000001 _ (λ n. some_below (suc x.stage) _ (λ stage. some_dir _ (λ h.
      both (moves_decided floor task (behind x n stage h) x.heading n x.stage) (each (behind x n stage h) (move_cost floor task (behind x n stage h) x.heading n))))))

  entry_decided : (x : Place) (cost : ℕ) → Dec (IsEntry floor task x cost)
  unfolding Enters
  entry_decided x cost = map_dec
      (λ h. record { start = h.0; is_start = h.1; crossing = subst (IsCrossing floor) (sym h.2.1.0.0) h.2.0.0.0; free = h.2.0.0.1; stage = h.2.0.1; at = h.2.1.0.0; heading = h.2.1.0.1; costs = h.2.1.1 })
      (λ e. (e.start, e.is_start, (((subst (IsCrossing floor) e.at e.crossing, e.free), e.stage), ((e.at, e.heading), e.costs))))
      (some_in (λ c. Enters floor task c x.stage × (((x.at ≡ c.port) × (x.heading ≡ c.dir)) × (cost ≡ stub_length c + c.cost)))
      (λ c. both (enters_decided floor task c x.stage) (both (both (same_point x.at c.port) (same_dir x.heading c.dir)) (ℕ_discrete cost (stub_length c + c.cost)))) task.starts)

  -- a walk of at most k moves comes here at this cost
  Within : ℕ → ℕ → Place → Type 0
  Within k cost x = (steps : List Step) × Comes floor task steps x cost × (length steps ≤ k)

  within_decided : (k cost : ℕ) (x : Place) → Dec (Within k cost x)
  unfolding Within Before
  within_decided zero cost x = map_dec (λ e. ([], e, omega arith)) (no_moves) (entry_decided x cost)
    where
      no_moves : (steps : List Step) × Comes floor task steps x cost × (length steps ≤ 0) → IsEntry floor task x cost
      no_moves ([], e, few) = e
      no_moves (s ∷ ss, e, few) = absurd (omega (arith, few))
  within_decided (suc k) cost x = map_dec {A = IsEntry floor task x cost ⊎ Before (λ y c. (c ≤ cost) × Within k (cost - c) y) x} into back
      (one_of (entry_decided x cost) (before_decided (λ y c. (c ≤ cost) × Within k (cost - c) y) (λ y c. both (dec_le c cost) (within_decided k (cost - c) y)) x))
    where
      into : IsEntry floor task x cost ⊎ Before (λ y c. (c ≤ cost) × Within k (cost - c) y) x → (steps : List Step) × Comes floor task steps x cost × (length steps ≤ suc k)
      into (inl e) = ([], e, omega arith)
      into (inr (y, c, move, (l, (steps, comes, few)))) = (record { from = y; cost = c } ∷ steps, (cost - c, comes, move, omega (arith, l)), omega (arith, few))

      back : (steps : List Step) × Comes floor task steps x cost × (length steps ≤ suc k) → IsEntry floor task x cost ⊎ Before (λ y c. (c ≤ cost) × Within k (cost - c) y) x
      back ([], e, few) = inl e
      back (s ∷ ss, (before, comes, move, e), few) =
          inr (s.from, s.cost, move, (omega (arith, e), (ss, (let same : before ≡ cost - s.cost = omega (arith, e) in subst (Comes floor task ss s.from) same comes), omega (arith, few))))

  -- each move costs something
  few_moves : (steps : List Step) (x : Place) (cost : ℕ) → Comes floor task steps x cost → length steps ≤ cost
  few_moves [] x cost e = omega arith
  few_moves (s ∷ ss) x cost (before, comes, move, e) =
      let some = move.next.ahead.some in
      let costs = move.costs in omega (arith, e, some, costs, few_moves ss s.from before comes)

  -- a walk comes here at this cost
  pub Reaches : Place → ℕ → Type 0
  Reaches x cost = (steps : List Step) × Comes floor task steps x cost

  pub reaches_decided : (x : Place) (cost : ℕ) → Dec (Reaches x cost)
  unfolding Reaches Within
  reaches_decided x cost = map_dec (λ h. (h.0, h.1)) (λ h. (h.0, h.1, few_moves h.0 x cost h.1)) (within_decided cost cost x)

  -- a walk of at most this number of moves comes here, at whatever cost
  Grows : ℕ → Place → Type 0
  Grows zero x = (cost : ℕ) × IsEntry floor task x cost
  Grows (suc k) x = Grows k x ⊎ Before (λ y cost. Grows k y) x

  some_entry : (x : Place) → Dec ((cost : ℕ) × IsEntry floor task x cost)
  unfolding Enters
  some_entry x = map_dec
      (λ h. (
        stub_length h.0 + h.0.cost,
        record {
          start = h.0;
          is_start = h.1;
          crossing = subst (IsCrossing floor) (sym h.2.1.0) h.2.0.0.0;
          free = h.2.0.0.1;
          stage = h.2.0.1;
          at = h.2.1.0;
          heading = h.2.1.1;
          costs = refl;
        },
      ))
      (λ g. let e = g.1 in (e.start, e.is_start, (((subst (IsCrossing floor) e.at e.crossing, e.free), e.stage), (e.at, e.heading))))
      (some_in (λ c. Enters floor task c x.stage × ((x.at ≡ c.port) × (x.heading ≡ c.dir)))
      (λ c. both (enters_decided floor task c x.stage) (both (same_point x.at c.port) (same_dir x.heading c.dir))) task.starts)

  grows_decided : (k : ℕ) (x : Place) → Dec (Grows k x)
  unfolding Grows
  grows_decided zero x = some_entry x
  grows_decided (suc k) x = one_of (grows_decided k x) (before_decided (λ y cost. Grows k y) (λ y cost. grows_decided k y) x)

  grown_reaches : (k : ℕ) (x : Place) → Grows k x → (cost : ℕ) × Reaches x cost
  unfolding Grows Before Reaches
  grown_reaches zero x (cost, e) = (cost, ([], e))
  grown_reaches (suc k) x (inl g) = grown_reaches k x g
  grown_reaches (suc k) x (inr (y, c, move, g)) = let h = grown_reaches k y g in (h.0 + c, (record { from = y; cost = c } ∷ h.1.0, (h.0, h.1.1, move, refl)))

  reached_grows : (steps : List Step) (x : Place) (cost : ℕ) → Comes floor task steps x cost → (k : ℕ) × Grows k x
  unfolding Grows Before
  reached_grows [] x cost e = (0, (cost, e))
  reached_grows (s ∷ ss) x cost (before, comes, move, e) = let h = reached_grows ss s.from before comes in (suc h.0, inr (s.from, s.cost, move, h.1))

  -- places to which walks may come
  pub record InRange (x : Place) : Type 0 where
    pub at : PointIsOnSheet x.at
    pub stage : x.stage < suc (length task.via)

  pub comes_in_range : (steps : List Step) (x : Place) (cost : ℕ) → Comes floor task steps x cost → InRange x
  comes_in_range [] x cost e = let within = e.stage.within in record { at = crossing_on_sheet floor x.at e.crossing; stage = omega (arith, within) }
  comes_in_range (s ∷ ss) x cost (before, comes, move, e) = let within = move.stage.within in record { at = crossing_on_sheet floor x.at move.next.crossing; stage = omega (arith, within) }

  headings : ℕ → Point → ℕ → List Place
  headings stage at h = stands stage at East ∷ stands stage at South ∷ stands stage at West ∷ stands stage at North ∷ []

  places : List Place
  places = below (suc (length task.via)) (λ stage. below 4000000001 (λ j. below 4000000001 (λ i. headings stage (record { x = coordinate i; y = coordinate j }) 0)))

  in_headings : (stage : ℕ) (at : Point) (h : ℕ) (d : Dir) → Contains (headings stage at h) (stands stage at d)
  unfolding headings
  in_headings stage at h East = (0, omega arith, refl)
  in_headings stage at h South = (1, omega arith, refl)
  in_headings stage at h West = (2, omega arith, refl)
  in_headings stage at h North = (3, omega arith, refl)

  in_places : (x : Place) → InRange x → Contains places x
  unfolding places
  in_places x r =
      let on = r.at in
      let a = numbered x.at.x on.x in
      let b = numbered x.at.y on.y in
      let point : record { x = coordinate a.0; y = coordinate b.0 } ≡ x.at = λ i. record { x = a.2 i; y = b.2 i } in
      let here : Contains (headings x.stage (record { x = coordinate a.0; y = coordinate b.0 }) 0) x =
      subst (λ p. Contains (headings x.stage p 0) x) (sym point) (in_headings x.stage x.at 0 x.heading) in
      contains_below _ (suc (length task.via)) x.stage x r.stage (contains_below _ 4000000001 b.0 x b.1 (contains_below _ 4000000001 a.0 x a.1 here))

  closed : (m : ℕ) → ((x : Place) → Contains places x → Grows (suc m) x → Grows m x) → (steps : List Step) (x : Place) (cost : ℕ) → Comes floor task steps x cost → Grows m x
  unfolding Grows Before
  closed m stable [] x cost e = stable x (in_places x (comes_in_range [] x cost e)) (inl (by_first m))
    where
      by_first : (k : ℕ) → Grows k x
      by_first zero = (cost, e)
      by_first (suc k) = inl (by_first k)
  closed m stable (s ∷ ss) x cost (before, comes, move, e) =
      stable x (in_places x (comes_in_range (s ∷ ss) x cost (before, comes, move, e))) (inr (s.from, s.cost, move, closed m stable ss s.from before comes))

  pub some_cost_decided : (x : Place) → Dec ((cost : ℕ) × Reaches x cost)
  unfolding Reaches Grows
  some_cost_decided x =
      let end = stops places Grows grows_decided (λ k y g. inl g) in
      map_dec (grown_reaches end.0 x) (λ h. closed end.0 end.1 h.1.0 x h.0 h.1.1) (grows_decided end.0 x)

  -- the label of a place: what a walk costs at least that comes there, below the claim; for a cut, 0
  pub record IsLabel (claim : Claim) (x : Place) (label : Option ℕ) : Type 0 where
    pub reached : (n : ℕ) → label ≡ Some n → IsLabelReached floor task claim x n
    pub least : (steps : List Step) (cost : ℕ) → Comes floor task steps x cost → Suffices claim label cost

  label_by_cost : (most : ℕ) (points : List Point) (x : Place) → ((m : ℕ) × (m < most) × HasLeast (Reaches x) m) ⊎ ((n : ℕ) → n < most → Reaches x n → ⊥) → (label : Option ℕ) × IsLabel (Cost most points) x label
  unfolding Reaches
  label_by_cost most points x (inl (m, l, h)) = (
    Some h.least,
    record {
      reached = λ n e. let same = same_Some _ _ e in subst (λ k. IsLabelReached floor task (Cost most points) x k) same (let within = h.within in omega (arith, l, within), h.has.0, h.has.1);
      least = λ steps cost comes. elim (cases_lt cost h.least) as (λ _. h.least ≤ cost) [ inl less ↦ absurd (h.none_below cost less (steps, comes)) | inr more ↦ more ];
    },
  )
  label_by_cost most points x (inr none) = (
    None,
    record {
      reached = λ n e. absurd (none-some _ e);
      least = λ steps cost comes. elim (cases_lt cost most) as (λ _. most ≤ cost) [ inl less ↦ absurd (none cost less (steps, comes)) | inr more ↦ more ];
    },
  )

  label_by_reach : (x : Place) → Dec ((cost : ℕ) × Reaches x cost) → (label : Option ℕ) × IsLabel Cut x label
  unfolding Reaches
  label_by_reach x (yes (cost, (steps, comes))) = (Some 0, record { reached = λ n e. (sym (same_Some _ _ e), steps, cost, comes); least = λ steps cost comes. refl })
  label_by_reach x (no none) = (None, record { reached = λ n e. absurd (none-some _ e); least = λ steps cost comes. absurd (none (cost, (steps, comes))) })

  pub label_at : (claim : Claim) (x : Place) → (label : Option ℕ) × IsLabel claim x label
  label_at (Cost most points) x = label_by_cost most points x (least_below (Reaches x) (reaches_decided x) most)
  label_at Cut x = label_by_reach x (some_cost_decided x)
