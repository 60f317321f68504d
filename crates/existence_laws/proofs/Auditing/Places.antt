-- It is decided whether walks enter a floor at a place, move to it or end there, at a cost.
use Rattle.std.proofs.Common.{◌≡◌, ◌≢◌, ◌⊎◌, inl, inr, ℕ, suc, ◌+◌, ◌*◌, ◌<◌, ◌≤◌, List, length, slice_get, Some, refl, sym, subst, arith}
use Rattle.std.proofs.Math.Decide.{map_dec, dec_le, ℕ_discrete}
use Rattle.std.proofs.Math.IntN.{ℤ_discrete}
use Rattle.std.specs.Prelude.{Contains}
use Rattle.plane_geom.specs.declared.point.Point.{Point}
use Rattle.plane_geom.specs.declared.point.Dir.{Dir}
use Rattle.plane_geom.specs.declared.point.Dir.TheVariants.{East, South, West, North}
use Rattle.plane_geom.specs.declared.floor.Floor.{Floor}
use Rattle.plane_geom.specs.declared.rect.Solid.{Solid}
use Rattle.plane_geom.specs.Point.{forward, opposite}
use Rattle.plane_geom.specs.Rect.{Meets}
use Rattle.plane_geom.specs.Floor.{IsCrossing}
use Rattle.walk_model.specs.declared.task.Choice.{Choice}
use Rattle.walk_model.specs.declared.task.Task.{Task}
use Rattle.walk_model.specs.Choice.{stub_length}
use Rattle.walk_model.specs.Cost.{turn}
use Rattle.move_model.specs.Places.{ComesTo, HasFreeStub}
use Rattle.proof_model.specs.Crossings.{IsNextCrossing}
use Rattle.proof_model.specs.Places.{IsExit, IsEntry, IsMove, Place}
use Rattle.existence_laws.proofs.Deciding.Decided.{both, denied, one_of, same_option, some_below}
use Rattle.existence_laws.proofs.Deciding.Alike.{same_point}
use Rattle.existence_laws.proofs.Auditing.Floors.{all_decided, crossing_decided, few_ahead, meets_decided, next_decided}

free_decided : (solids : List Solid) (c : Choice) → Dec (HasFreeStub solids c)
free_decided solids c = all_decided (λ s. s.node ≢ c.node → Meets s.rect c.pin c.port → ⊥) each solids
  where
    of_node : (s : Solid) → Dec (s.node ≡ c.node) → Dec (Meets s.rect c.pin c.port) → Dec (s.node ≢ c.node → Meets s.rect c.pin c.port → ⊥)
    of_node s (yes own) meets = yes (λ other. absurd (other own))
    of_node s (no other) (no apart) = yes (λ _. apart)
    of_node s (no other) (yes meets) = no (λ free. free other meets)

    each : (s : Solid) → Dec (s.node ≢ c.node → Meets s.rect c.pin c.port → ⊥)
    each s = of_node s (ℤ_discrete s.node c.node) (meets_decided s.rect c.pin c.port)

-- the checkpoints from one number to another are at the point
passed_decided : (via : List Point) (k : ℕ) (p : Point) (j : ℕ) → Dec ((i : ℕ) → k ≤ i → i < j → slice_get via i ≡ Some p)
passed_decided via k p j = map_dec
    (λ none i low high. still i low high none (same_option same_point (slice_get via i) (Some p)))
    (λ all. λ h. let low : k ≤ h.0 = h.2.0 in h.2.1 (all h.0 low h.1))
    (denied (some_below j (λ i. (k ≤ i) × (slice_get via i ≡ Some p → ⊥)) (λ i. both (dec_le k i) (denied (same_option same_point (slice_get via i) (Some p))))))
  where
    still : (i : ℕ) → k ≤ i → i < j → ((h : ℕ) × (h < j) × ((k ≤ h) × (slice_get via h ≡ Some p → ⊥)) → ⊥) → Dec (slice_get via i ≡ Some p) → slice_get via i ≡ Some p
    still i low high none (yes same) = same
    still i low high none (no other) = absurd (none (i, high, (low, other)))

comes_decided : (via : List Point) (k : ℕ) (p : Point) (j : ℕ) → Dec (ComesTo via k p j)
comes_decided via k p j = map_dec
    (λ h. record { from = h.0.0; within = h.0.1; passed = h.1.0; no_more = h.1.1 })
    (λ c. ((c.from, c.within), (c.passed, c.no_more)))
    (both (both (dec_le k j) (dec_le j (length via))) (both (passed_decided via k p j) (denied (same_option same_point (slice_get via j) (Some p)))))

-- some direction, and all
pub some_dir : (P : Dir → Type 0) → ((d : Dir) → Dec (P d)) → Dec ((d : Dir) × P d)
some_dir P each = map_dec {A = (P East ⊎ P South) ⊎ (P West ⊎ P North)} into back (one_of (one_of (each East) (each South)) (one_of (each West) (each North)))
  where
    into : (P East ⊎ P South) ⊎ (P West ⊎ P North) → (d : Dir) × P d
    into (inl (inl p)) = (East, p)
    into (inl (inr p)) = (South, p)
    into (inr (inl p)) = (West, p)
    into (inr (inr p)) = (North, p)

    back : (d : Dir) × P d → (P East ⊎ P South) ⊎ (P West ⊎ P North)
    back (East, p) = inl (inl p)
    back (South, p) = inl (inr p)
    back (West, p) = inr (inl p)
    back (North, p) = inr (inr p)

pub all_dirs : (P : Dir → Type 0) → ((d : Dir) → Dec (P d)) → Dec ((d : Dir) → P d)
all_dirs P each = map_dec {A = (P East × P South) × (P West × P North)} into (λ f. ((f East, f South), (f West, f North))) (both (both (each East) (each South)) (both (each West) (each North)))
  where
    into : (P East × P South) × (P West × P North) → (d : Dir) → P d
    into h East = h.0.0
    into h South = h.0.1
    into h West = h.1.0
    into h North = h.1.1

-- where a walk is after a number of steps from a point, in a stage
abbrev pub stands : ℕ → Point → Dir → Place
stands stage at d = record { stage = stage; at = at; heading = d }

module _ (floor : Floor) (task : Task) where
  -- a walk enters by the start choice, and is then in this stage
  unfoldable pub Enters : Choice → ℕ → Type 0
  Enters c stage = (IsCrossing floor c.port × HasFreeStub floor.solids c) × ComesTo task.via 0 c.port stage

  pub enters_decided : (c : Choice) (stage : ℕ) → Dec (Enters c stage)
  unfolding Enters
  enters_decided c stage = both (both (crossing_decided floor c.port) (free_decided floor.solids c)) (comes_decided task.via 0 c.port stage)

  pub entry_by : (c : Choice) (stage : ℕ) → Contains task.starts c → Enters c stage → IsEntry floor task (stands stage c.port c.dir) (stub_length c + c.cost)
  unfolding Enters
  entry_by c stage has e = record { start = c; is_start = has; crossing = e.0.0; free = e.0.1; stage = e.1; at = refl; heading = refl; costs = refl }

  -- all entries are such
  pub entered : (P : Place → ℕ → Type 0) → ((c : Choice) (stage : ℕ) → Contains task.starts c → stage < suc (length task.via) → Enters c stage → P (stands stage c.port c.dir) (stub_length c + c.cost))
      → (x : Place) (cost : ℕ) → IsEntry floor task x cost → P x cost
  unfolding Enters
  entered P each x cost e =
      let within = e.stage.within in
      let at = each e.start x.stage e.is_start (omega (arith, within))
      ((subst (IsCrossing floor) e.at e.crossing, e.free), e.stage) in
      let place : stands x.stage e.start.port e.start.dir ≡ x = λ i. record { stage = x.stage; at = sym e.at i; heading = sym e.heading i } in
      subst (P x) (sym e.costs) (subst (λ y. P y (stub_length e.start + e.start.cost)) place at)

  -- a walk goes n steps on in the direction, and is then in this stage
  unfoldable pub Moves : Place → Dir → ℕ → ℕ → Type 0
  Moves x d n stage = IsNextCrossing floor d x.at n (forward d n x.at) × ComesTo task.via x.stage (forward d n x.at) stage

  pub moves_decided : (x : Place) (d : Dir) (n stage : ℕ) → Dec (Moves x d n stage)
  unfolding Moves
  moves_decided x d n stage = both (next_decided floor d x.at n) (comes_decided task.via x.stage (forward d n x.at) stage)

  abbrev pub move_cost : Place → Dir → ℕ → ℕ
  move_cost x d n = n + task.penalty * turn x.heading d

  pub move_by : (x : Place) (d : Dir) (n stage : ℕ) → Moves x d n stage → IsMove floor task x (move_cost x d n) (stands stage (forward d n x.at) d)
  unfolding Moves
  move_by x d n stage m = record { steps = n; next = m.0; stage = m.1; costs = refl }

  -- all moves are such
  pub moved : (x : Place) (P : ℕ → Place → Type 0) → ((d : Dir) (n stage : ℕ) → n < 8000000001 → stage < suc (length task.via) → Moves x d n stage → P (move_cost x d n) (stands stage (forward d n x.at) d))
      → (cost : ℕ) (y : Place) → IsMove floor task x cost y → P cost y
  unfolding Moves
  moved x P each cost y m =
      let n = m.steps in
      let few = few_ahead floor y.heading x.at n y.at m.next.ahead in
      let within = m.stage.within in
      let there : y.at ≡ forward y.heading n x.at = m.next.ahead.straight in
      let at = each y.heading n y.stage (omega (arith, few)) (omega (arith, within))
      (subst (IsNextCrossing floor y.heading x.at n) there m.next, subst (λ p. ComesTo task.via x.stage p y.stage) there m.stage) in
      let place : stands y.stage (forward y.heading n x.at) y.heading ≡ y = λ i. record { stage = y.stage; at = sym there i; heading = y.heading } in
      subst (λ c. P c y) (sym m.costs) (subst (P (move_cost x y.heading n)) place at)

  -- a walk ends at the place by the end choice
  pub Ends : Place → Choice → Type 0
  Ends x c = ((IsCrossing floor x.at × HasFreeStub floor.solids c) × (x.stage ≡ length task.via)) × (x.at ≡ c.port)

  pub ends_decided : (x : Place) (c : Choice) → Dec (Ends x c)
  unfolding Ends
  ends_decided x c = both (both (both (crossing_decided floor x.at) (free_decided floor.solids c)) (ℕ_discrete x.stage (length task.via))) (same_point x.at c.port)

  abbrev pub end_cost : Place → Choice → ℕ
  end_cost x c = task.penalty * turn x.heading (opposite c.dir) + stub_length c + c.cost

  pub ending_by : (x : Place) (c : Choice) → Contains task.ends c → Ends x c → IsExit floor task x (end_cost x c)
  unfolding Ends
  ending_by x c has e = record { end = c; is_end = has; crossing = e.0.0.0; free = e.0.0.1; stage = e.0.1; at = e.1; costs = refl }

  -- all endings are such
  pub ended : (x : Place) (P : ℕ → Type 0) → ((c : Choice) → Contains task.ends c → Ends x c → P (end_cost x c)) → (cost : ℕ) → IsExit floor task x cost → P cost
  unfolding Ends
  ended x P each cost e = subst P (sym e.costs) (each e.end e.is_end (((e.crossing, e.free), e.stage), e.at))
