-- Entries of which something is known begin legal walks, and the first walk begins at one of them.
use Rattle.std.proofs.Common.{◌≡◌, ℕ, ◌<◌, ◌≤◌, Option, Some, None, List, [], ◌∷◌, ◌++◌, All, length, refl, sym, ap, subst, ◌∙◌, inl, inr, arith}
use Rattle.std.specs.Prelude.{Contains, slice_get}
use Rattle.std.specs.Ordering.{nat_cmp, ordering_then}
use Rattle.std.specs.Cmp.{nat_cmp_is}
use Rattle.std.specs.declared.cmp.Ordering.TheVariants.{Greater}
use Rattle.std.proofs.lemmas.Bool.{cases_lt}
use Rattle.std.proofs.lemmas.Cmp.{tied_itself}
use Rattle.std.proofs.lemmas.Int.{ints}
use Rattle.std.proofs.lemmas.List.Elements.{All-contains}
use Rattle.std.proofs.lemmas.Option.{slice_get_within}
use Rattle.plane_geom.specs.declared.point.Point.{Point}
use Rattle.plane_geom.specs.Along.{across, way_of}
use Rattle.line_arena.specs.Arena.{StandsAt}
use Rattle.line_arena.proofs.Arenas.ArenaLaws.{one_crossing, one_point}
use Rattle.walk_model.specs.declared.task.Choice.{Choice}
use Rattle.walk_model.specs.Choice.{IsChoice, stub_length}
use Rattle.walk_model.specs.Order.{HasNoWalk, IsFirst, IsLegalTriple, Triple}
use Rattle.walk_model.proofs.Ranking.First.{one_first}
use Rattle.walk_laws.proofs.OnKeptLines.Lines.{chosen}
use Rattle.walk_laws.proofs.Steps.Shift.{across-forward}
use Rattle.move_model.specs.declared.ahead.Ahead.{Ahead}
use Rattle.move_model.specs.declared.place.Place.{Place}
use Rattle.move_model.specs.Ahead.{ahead, ahead_cmp, whole, with_start}
use Rattle.move_model.specs.Places.{IsEntry}
use Rattle.move_model.specs.Ways.{GoesAlongWay, Leads, Leg, steps_of_way, walk_along}
use Rattle.move_model.proofs.Moving.FirstWays.{first_is_way}
use Rattle.move_model.proofs.GoingOn.Joined.{way_ahead}
use Rattle.move_model.proofs.Moving.LegalWays.{way_is_legal}
use Rattle.move_model.proofs.GoingOn.Rivals.{least, start_no_later}
use Rattle.move_model.proofs.Moving.Stages.{one_stage}
use Rattle.move_model.proofs.GoingOn.Stretching.{same_ahead}
use Rattle.search_problem.specs.Ends.{IsEntryOf}
use Rattle.search_problem.specs.Problems.{IsReady}
use Rattle.search_problem.specs.declared.ends.Entry.{Entry}
use Rattle.search_problem.specs.declared.problem.Problem.{Problem}
use Rattle.exit_spread.specs.Ways.{IsWayAhead}
use Rattle.route_search.specs.Known.{IsKnownFirst, Knowledge}
use Rattle.route_search.specs.Starting.{EntersAt, EntersNoLater, IsLeastEntry, whole_from}
use Rattle.exit_rows.proofs.Orders.{ahead_total}
use Rattle.exit_spread.proofs.Known.AheadOrder.{neither_greater}

-- a legal walk by the start choice with the number, with this ahead at the port
pub record Begins (p : Problem) (number : ℕ) (s : Choice) (v : Ahead) : Type 0 where
  pub walk : Triple
  pub legal : IsLegalTriple p.solids.now p.task.now walk
  pub start : walk.start ≡ number
  pub is_whole : whole p.task.now walk ≡ with_start s v

module _ (p : Problem) (ready : IsReady p) where
  -- a way from where a start choice enters the lines makes a legal walk
  begins : (number : ℕ) (s : Choice) (x : Place) (v : Ahead) → slice_get p.task.now.starts number ≡ Some s → IsEntry p.solids.now p.arena.now p.task.now.via s x →
      IsWayAhead p x s.port v → Begins p number s v
  begins number s x v is_start enters w =
      let task = p.task.now in
      let a = p.arena.now in
      let t : Triple = record { start = number; walk = walk_along s w.legs w.end; end = w.number } in
      let along : GoesAlongWay p.solids.now a task t = record { start = s; end = w.end; is_start = is_start; is_end = w.is_end; entry = x; legs = w.legs; enters = enters; way = w.way; walk = refl } in
      let same = ready.problem.same_solids in
      let legal = way_is_legal ready.floor a task t ready.arena ready.problem.stands ready.problem.is_task (subst (λ z. GoesAlongWay z a task t) (sym same) along) in
      let turned : ahead task.penalty s.dir s.port (steps_of_way w.legs w.end) w.end.cost ≡ v =
      ap (λ h. ahead task.penalty h s.port (steps_of_way w.legs w.end) w.end.cost) (sym enters.heading) ∙ sym w.same in
      record {
        walk = t;
        legal = subst (λ z. IsLegalTriple z task t) same legal;
        start = refl;
        is_whole = way_ahead p.solids.now a task t ready.problem.is_task along ∙ ap (with_start s) turned;
      }

  -- so does a way from the place of an entry
  pub enters_by : (e : Entry) (v : Ahead) → Contains p.entries.items e → (q : Point) × IsWayAhead p e.place q v →
      (s : Choice) × IsEntryOf p.solids.now p.arena.now p.task.now s e × Begins p e.choice s v
  enters_by e v has from =
      let a = p.arena.now in
      let of_some =
      All-contains (λ (f : Entry). (f.choice < length p.task.now.starts) × (c : Choice) × IsEntryOf p.solids.now a p.task.now c f) p.entries.items e ready.entries.sound has in
      let s : Choice = of_some.1 in
      let of_s : IsEntryOf p.solids.now a p.task.now s e = of_some.2 in
      let stands : from.0 ≡ s.port = one_point a e.place.crossing from.0 s.port ready.arena from.1.here of_s.enters.here in
      (s, of_s, begins e.choice s e.place v of_s.is_start of_s.enters (subst (λ q. IsWayAhead p e.place q v) stands from.1))

  -- a start choice enters the lines at one place
  one_entry : (s : Choice) (x y : Place) → IsEntry p.solids.now p.arena.now p.task.now.via s x → IsEntry p.solids.now p.arena.now p.task.now.via s y → x ≡ y
  one_entry s x y h g =
      let crossing = one_crossing p.arena.now x.crossing y.crossing s.port ready.arena h.here g.here in
      let stage = one_stage p.task.now.via 0 x.stage y.stage s.port h.stage g.stage in
      let heading = h.heading ∙ sym g.heading in
      λ i. record { crossing = crossing i; stage = stage i; heading = heading i }

  -- a walk that enters there is the same by the entry as by the choice
  by_entry : (s : Choice) (e : Entry) (v : Ahead) → IsEntryOf p.solids.now p.arena.now p.task.now s e → with_start s v ≡ whole_from e v
  by_entry s e v h =
      let choice = chosen IsChoice p.task.now.starts e.choice s h.is_start ready.problem.is_task.starts.each in
      let level : across (way_of e.place.heading) e.port ≡ across (way_of s.dir) s.pin =
      (λ i. across (way_of (h.enters.heading i)) (h.port i)) ∙ ap (across (way_of s.dir)) choice.straight ∙ across-forward s.dir (stub_length s) s.pin in
      same_ahead (with_start s v) (whole_from e v) (omega (arith, h.lead)) (omega arith) (omega (arith, ints, level))

  -- each start choice that enters the lines has an entry
  some_entry : (number : ℕ) (s : Choice) (x : Place) → slice_get p.task.now.starts number ≡ Some s → IsEntry p.solids.now p.arena.now p.task.now.via s x →
      (e : Entry) × Contains p.entries.items e × (e.choice ≡ number) × IsEntryOf p.solids.now p.arena.now p.task.now s e
  some_entry number s x is_start enters =
      let found = ready.entries.complete number s x (slice_get_within p.task.now.starts number s is_start) is_start enters in
      let of_some =
      All-contains (λ (e : Entry). (e.choice < length p.task.now.starts) × (c : Choice) × IsEntryOf p.solids.now p.arena.now p.task.now c e) p.entries.items found.0 ready.entries.sound found.1 in
      let same : of_some.1 ≡ s = let both : Some of_some.1 ≡ Some s = sym of_some.2.is_start ∙ ap (slice_get p.task.now.starts) found.2 ∙ is_start in cc in
      (found.0, found.1, found.2, subst (λ c. IsEntryOf p.solids.now p.arena.now p.task.now c found.0) same of_some.2)

module _ (p : Problem) (known : Knowledge) (ready : IsReady p) (spread : IsKnownFirst p known) where
  -- an entry of which something is known begins a legal walk
  pub entered : (e : Entry) (v : Ahead) → Contains p.entries.items e → known.ahead e.place ≡ Some v →
      (s : Choice) × IsEntryOf p.solids.now p.arena.now p.task.now s e × Begins p e.choice s v
  entered e v has is = enters_by p ready e v has (spread.all.attained e.place v is)

  module _ (t : Triple) (first : IsFirst p.solids.now p.task.now t) where
    on_floor : IsFirst ready.floor.solids p.task.now t
    on_floor = subst (λ z. IsFirst z p.task.now t) (sym ready.problem.same_solids) first

    along : GoesAlongWay p.solids.now p.arena.now p.task.now t
    along =
        subst (λ z. GoesAlongWay z p.arena.now p.task.now t) ready.problem.same_solids
        (first_is_way ready.floor p.arena.now p.task.now t ready.arena ready.problem.stands ready.problem.is_task ready.problem.is_floor_of on_floor)

    abbrev rest : Ahead
    rest = ahead p.task.now.penalty along.entry.heading along.start.port (steps_of_way along.legs along.end) along.end.cost

    first_whole : whole p.task.now t ≡ with_start along.start rest
    first_whole =
        way_ahead p.solids.now p.arena.now p.task.now t ready.problem.is_task along
        ∙ ap (λ h. with_start along.start (ahead p.task.now.penalty h along.start.port (steps_of_way along.legs along.end) along.end.cost)) (sym along.enters.heading)

    -- the entry of the first walk's start choice
    entry : (e : Entry) × Contains p.entries.items e × (e.choice ≡ t.start) × IsEntryOf p.solids.now p.arena.now p.task.now along.start e
    entry = some_entry p ready t.start along.start along.entry along.is_start along.enters

    enters_there : entry.0.place ≡ along.entry
    enters_there = one_entry p ready along.start entry.0.place along.entry entry.3.enters along.enters

    exact_along : (passed legs : List Leg) (x : Place) (at : Point) → along.legs ≡ passed ++ legs → Leads p.arena.now p.task.now.via along.entry passed x →
        StandsAt p.arena.now x.crossing at → known.ahead x ≡ Some (ahead p.task.now.penalty x.heading at (steps_of_way legs along.end) along.end.cost)
    exact_along passed legs x at split leads here = spread.exact t first along x at legs (record { front = passed; legs = split; leads = leads; here = here })

    towards_along : (passed : List Leg) (l : Leg) (legs : List Leg) (x : Place) (at : Point) → along.legs ≡ passed ++ l ∷ legs → Leads p.arena.now p.task.now.via along.entry passed x →
        StandsAt p.arena.now x.crossing at → known.towards x l.to.heading ≡ Some (ahead p.task.now.penalty x.heading at (steps_of_way (l ∷ legs) along.end) along.end.cost)
    towards_along passed l legs x at split leads here = spread.towards t first along x at l legs (record { front = passed; legs = split; leads = leads; here = here })

    -- what is known there is what is ahead of the first walk
    entry_known : known.ahead entry.0.place ≡ Some rest
    entry_known = ap known.ahead enters_there ∙ exact_along [] along.legs along.entry along.start.port refl refl along.enters.here

  -- where nothing is known of any entry there is no legal walk
  pub no_walk : All (λ e. known.ahead e.place ≡ None) p.entries.items → HasNoWalk p.solids.now p.task.now
  no_walk none t legal =
      let some = (one_first p.solids.now p.task.now).some t legal in
      let d = entry some.0 some.1 in
      let empty : known.ahead d.0.place ≡ None = All-contains (λ (e : Entry). known.ahead e.place ≡ None) p.entries.items d.0 none d.1 in
      absurd (let wrong : ◌≡◌ {A = Option Ahead} None (Some (rest some.0 some.1)) = sym empty ∙ entry_known some.0 some.1 in cc)

  -- and the first walk enters at the least entry
  pub first_enters : (e : Entry) (v : Ahead) → IsLeastEntry known.ahead p.entries.items e v → (t : Triple) × EntersAt p known e v t
  first_enters e v h =
      let solids = p.solids.now in
      let task = p.task.now in
      let mine = entered e v h.is h.is_known in
      let some = (one_first solids task).some mine.2.walk mine.2.legal in
      let t : Triple = some.0 in
      let first : IsFirst solids task t = some.1 in
      let w : Ahead = rest t first in
      let d = entry t first in
      let my_whole : whole task mine.2.walk ≡ whole_from e v = mine.2.is_whole ∙ by_entry p ready mine.0 e v mine.1 in
      let its_whole : whole task t ≡ whole_from d.0 w = first_whole t first ∙ by_entry p ready (along t first).start d.0 w d.3 in
      let no_later = All-contains (λ (f : Entry). (u : Ahead) → known.ahead f.place ≡ Some u → EntersNoLater e v f u) p.entries.items d.0 h.least d.1 w (entry_known t first) in
      let same : whole_from e v ≡ whole_from d.0 w = neither_greater (whole_from e v) (whole_from d.0 w)
      (λ greater. no_later (ap (λ o. ordering_then o (nat_cmp e.choice d.0.choice)) greater))
      (λ greater. least solids task t mine.2.walk first mine.2.legal ((λ i. ahead_cmp (its_whole i) (my_whole i)) ∙ greater)) in
      let from : t.start ≤ mine.2.walk.start = start_no_later solids task t mine.2.walk first mine.2.legal (my_whole ∙ same ∙ sym its_whole) in
      let upto : e.choice ≤ d.0.choice = elim (cases_lt d.0.choice e.choice) as (λ _. e.choice ≤ d.0.choice) [
        | inl less ↦ absurd (no_later
            (ap (λ z. ordering_then (ahead_cmp z (whole_from d.0 w)) (nat_cmp e.choice d.0.choice)) same
            ∙ ap (λ o. ordering_then o (nat_cmp e.choice d.0.choice)) (tied_itself ahead_total (whole_from d.0 w))
            ∙ sym (nat_cmp_is e.choice d.0.choice Greater less)))
        | inr le ↦ le
      ] in
      let begun = mine.2.start in
      let its = d.2 in
      let choice : e.choice ≡ t.start = omega (arith, from, upto, begun, its) in
      let start : mine.0 ≡ (along t first).start = let both : Some mine.0 ≡ Some (along t first).start = sym mine.1.is_start ∙ ap (slice_get task.starts) choice ∙ (along t first).is_start in cc in
      let place : e.place ≡ (along t first).entry = one_entry p ready (along t first).start e.place (along t first).entry
      (subst (λ c. IsEntry solids p.arena.now task.via c e.place) start mine.1.enters) (along t first).enters in (
        t,
        record {
          way = record { first = first; along = along t first; exact = exact_along t first; towards = towards_along t first };
          start = choice;
          place = place;
          is_known = h.is_known;
        },
      )
