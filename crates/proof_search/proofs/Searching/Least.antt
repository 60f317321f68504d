-- Where all entries and moves were offered, no walk reaches a place for less than its label.
use Rattle.std.proofs.Common.{◌≡◌, ℕ, ◌+◌, ◌*◌, ◌<◌, ◌≤◌, Option, None, Some, false, true, List, [], ◌∷◌, length, refl, sym, ap, subst, ◌∙◌, arith}
use Rattle.std.specs.Prelude.{IfSome, slice_get, unwrap_or}
use Rattle.std.proofs.lemmas.List.Elements.{All-contains}
use Rattle.plane_geom.specs.declared.rect.Solid.{Solid}
use Rattle.plane_geom.specs.declared.floor.Floor.{Floor}
use Rattle.line_arena.specs.Arena.{StandsAt}
use Rattle.line_arena.proofs.Arenas.ArenaLaws.{one_crossing}
use Rattle.walk_model.specs.declared.task.Choice.{Choice}
use Rattle.walk_model.specs.Choice.{stub_length}
use Rattle.walk_model.specs.Cost.{turn}
use Rattle.move_model.specs.declared.ahead.Ahead.{Ahead}
use Rattle.move_model.specs.declared.place.Place.{Place}
use Rattle.move_model.specs.Places.{ComesTo, HasFreeStub, IsEntry as Enters}
use Rattle.move_model.specs.Problems.{IsProblem}
use Rattle.move_model.proofs.Moving.Stages.{one_stage}
use Rattle.search_problem.specs.Ends.{IsEntryOf}
use Rattle.search_problem.specs.Problems.{IsReady}
use Rattle.search_problem.specs.declared.ends.Entry.{Entry}
use Rattle.proof_search.specs.declared.label.Label.{Label}
use Rattle.proof_search.specs.declared.label.Label.TheVariants.{Absent, Open, Closed}
use Rattle.search_problem.specs.declared.problem.Problem.{Problem}
use Rattle.proof_model.specs.declared.next.Next.{Next}
use Rattle.proof_model.specs.LeastLabels.{Comes, Step}
use Rattle.proof_model.specs.Places as floors
use Rattle.proof_model.specs.Rules.{Suffices}
use Rattle.proof_model.proofs.Bridge.{crossing_at}
use Rattle.proof_model.proofs.Least.{at_place}
use Rattle.proof_model.proofs.LeastLabels.{comes_at}
use Rattle.proof_search.specs.declared.labels.Labels.{Labels}
use Rattle.proof_search.specs.declared.scope.Scope.{Scope}
use Rattle.proof_search.specs.declared.scope.Scope.TheVariants.{Below, Every}
use Rattle.proof_search.specs.Scopes.{claim_of, most_of}
use Rattle.proof_search.specs.Search.{IsEntryOffered, IsMoveOffered, IsNextIn, IsOffered, IsSpread, cost_at, cost_in, label_at}
use Rattle.proof_search.proofs.Offers.Scopes.{small_label, suffices_more}

same_choice : (xs : List Choice) (n : ℕ) (c d : Choice) → slice_get xs n ≡ Some c → slice_get xs n ≡ Some d → c ≡ d
same_choice xs n c d e f = let both : Some c ≡ Some d = sym e ∙ f in cc

-- the crossing with the stage and the heading of the place on the floor
abbrev pub standing : ℕ → floors.Place → Place
standing c x = record { crossing = c; stage = x.stage; heading = x.heading }

-- what a label was, from where its cost is
closed_label : (l : Label) (v : ℕ) → ((w : Ahead) → l ≡ Open w → ⊥) → cost_in l ≡ Some v → (w : Ahead) × (l ≡ Closed w) × (w.cost ≡ v)
closed_label Absent v never e = absurd (let both : ◌≡◌ {A = Option ℕ} None (Some v) = e in cc)
closed_label (Open w) v never e = absurd (never w refl)
closed_label (Closed w) v never e = (w, refl, (let both : ◌≡◌ {A = Option ℕ} (Some w.cost) (Some v) = e in cc))

module _ (p : Problem) (ready : IsReady p) (s : Scope) (l : Labels) (spread : IsSpread p s l) (floor : Floor)
    (on : IsProblem floor p.arena.now p.solids.now p.task.now) where
  -- an entry on the floor is one of the list, which was offered
  entry_offered : (x : floors.Place) (cost : ℕ) → floors.IsEntry floor p.task.now x cost → (c : ℕ) → StandsAt p.arena.now c x.at
      → IsOffered s l (standing c x) cost
  entry_offered x cost h c here =
      let via = p.task.now.via in
      let starts = p.task.now.starts in
      let t = h.start in
      let n = h.is_start.0 in
      let is_start = at_place starts t h.is_start in
      let free = subst (λ (solids : List Solid). HasFreeStub solids t) on.same_solids h.free in
      let enters : Enters p.solids.now p.arena.now via t (standing c x) = record
      { free = free; here = subst (StandsAt p.arena.now c) h.at here; heading = h.heading; stage = h.stage } in
      let listed = ready.entries.complete n t (standing c x) h.is_start.1 is_start enters in
      let e : Entry = listed.0 in
      let sound = All-contains (λ k. (k.choice < length starts) × (t : Choice) × IsEntryOf p.solids.now p.arena.now p.task.now t k) p.entries.items e
      ready.entries.sound listed.1 in
      let is = sound.2 in
      let one : sound.1 ≡ t = same_choice starts n sound.1 t (subst (λ k. slice_get starts k ≡ Some sound.1) listed.2 is.is_start) is_start in
      let there : StandsAt p.arena.now e.place.crossing x.at = subst (StandsAt p.arena.now e.place.crossing) (ap (λ (u : Choice). u.port) one ∙ sym h.at)
      is.enters.here in
      let crossing : e.place.crossing ≡ c = one_crossing p.arena.now e.place.crossing c x.at ready.arena there here in
      let stage : e.place.stage ≡ x.stage = one_stage via 0 e.place.stage x.stage t.port
      (subst (λ (u : Choice). ComesTo via 0 u.port e.place.stage) one is.enters.stage) h.stage in
      let heading : e.place.heading ≡ x.heading = is.enters.heading ∙ ap (λ (u : Choice). u.dir) one ∙ sym h.heading in
      let lead : e.lead ≡ cost = is.lead ∙ ap (λ (u : Choice). stub_length u + u.cost) one ∙ sym h.costs in
      let offered : IsEntryOffered s l e = All-contains (IsEntryOffered s l) p.entries.items e spread.entries listed.1 in
      subst (λ n. IsOffered s l (standing c x) n) lead (subst (λ (y : Place). IsOffered s l y e.lead)
      (λ i. record { crossing = crossing i; stage = stage i; heading = heading i }) offered)

  -- a move from a labelled place was offered
  move_offered : (x y : floors.Place) (c b v cost : ℕ) → StandsAt p.arena.now c x.at → StandsAt p.arena.now b y.at → cost_at l (standing c x) ≡ Some v
      → floors.IsMove floor p.task.now x cost y → IsOffered s l (standing b y) (v + cost)
  move_offered x y c b v cost here there is m =
      let closed = closed_label (label_at l (standing c x)) v (spread.closed (standing c x)) is in
      let propagated = spread.searching.propagated (standing c x) closed.0 (λ none. cc) closed.1 x.at here y.heading in
      by_next propagated.next propagated.is_next (subst (λ n. IfSome propagated.next (IsMoveOffered p s l x.at x.heading n y.heading)) closed.2 propagated.offered)
    where
      by_next : (next : Option Next) → IsNextIn p x.stage x.at y.heading next → IfSome next (IsMoveOffered p s l x.at x.heading v y.heading)
          → IsOffered s l (standing b y) (v + cost)
      by_next None none offered = absurd (none floor on x.heading cost y refl m)
      by_next (Some n) next offered =
          let only = (next floor on).only x.heading cost y refl m in
          let at : StandsAt p.arena.now b n.at = subst (StandsAt p.arena.now b) (ap (λ (z : floors.Place). z.at) only.0) there in
          let crossing : n.place.crossing ≡ b = one_crossing p.arena.now n.place.crossing b n.at ready.arena offered.0 at in
          let place : n.place ≡ standing b y = λ i. record { crossing = crossing i; stage = (sym only.0 i).stage; heading = (sym only.0 i).heading } in
          subst (λ k. IsOffered s l (standing b y) (v + k)) (sym only.1)
          (subst (λ (z : Place). IsOffered s l z (v + (n.steps + p.task.now.penalty * turn x.heading y.heading))) place offered.1)

  -- one who goes on from a place that was offered
  goes_on : (t : Scope) → t ≡ s → (o : Option ℕ) (y : Place) (before cost : ℕ) → Suffices (claim_of t) o before
      → ((v : ℕ) → o ≡ Some v → IsOffered s l y (v + cost)) → IsOffered s l y (before + cost)
  goes_on (Below most) same (Some v) y before cost upto further =
      suffices_more s (cost_at l y) (v + cost) (before + cost) (omega (arith, upto)) (further v refl)
  goes_on (Below most) same None y before cost upto further =
      subst (λ (u : Scope). IsOffered u l y (before + cost)) same (value (cost_at l y) (λ v e. small v e))
    where
      small : (v : ℕ) → cost_at l y ≡ Some v → v < most
      small v e = subst (λ (u : Scope). v < most_of u) (sym same) (small_label p s y ready v (spread.searching.reached y v e))

      value : (o : Option ℕ) → ((v : ℕ) → o ≡ Some v → v < most) → unwrap_or o most ≤ before + cost
      value None less = omega (arith, upto)
      value (Some v) less = omega (arith, upto, less v refl)
  goes_on Every same (Some v) y before cost is further =
      subst (λ (u : Scope). IsOffered u l y (before + cost)) same (subst (λ (u : Scope). IsOffered u l y (v + cost)) (sym same) (further v refl))
  goes_on Every same None y before cost is further = absurd (let both : false ≡ true = is in cc)

  -- each walk that reaches a place was offered there
  pub all_offered : (steps : List Step) (x : floors.Place) (cost : ℕ) → Comes floor p.task.now steps x cost → (c : ℕ) → StandsAt p.arena.now c x.at
      → IsOffered s l (standing c x) cost
  all_offered [] x cost comes c here = entry_offered x cost comes c here
  all_offered (t ∷ ts) x cost comes c here =
      let before = comes.0 in
      let m = comes.2 in
      let from = crossing_at floor p.arena.now ready.arena on.stands t.from.at
      (comes_at floor p.arena.now ready.arena on.stands p.task.now on.is_task ts t.from before comes.1).0 in
      let known = all_offered ts t.from before comes.1 from.0 from.1 in
      let further = goes_on s refl (cost_at l (standing from.0 t.from)) (standing c x) before t.cost known
      (λ v e. move_offered t.from x from.0 c v t.cost from.1 here e m) in
      subst (λ n. IsOffered s l (standing c x) n) (sym comes.3) further
