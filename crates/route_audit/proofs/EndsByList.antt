-- The entries and endings that a search reads are those of the floor.
use Rattle.std.proofs.Common.{◌≡◌, ℕ, ◌+◌, ◌*◌, ◌<◌, Some, refl, sym, ap, subst, ◌∙◌, All, List, length, Contains, arith}
use Rattle.std.specs.Prelude.{slice_get}
use Rattle.std.proofs.lemmas.List.Elements.{All-contains}
use Rattle.plane_geom.specs.declared.point.Dir.{Dir}
use Rattle.plane_geom.specs.declared.floor.Floor.{Floor}
use Rattle.plane_geom.specs.Floor.{IsCrossing}
use Rattle.plane_geom.specs.Point.{opposite}
use Rattle.line_arena.specs.Arena.{Arena, IsArena, StandsAt}
use Rattle.line_arena.specs.Stands.{StandsFor}
use Rattle.walk_model.specs.declared.task.Choice.{Choice}
use Rattle.walk_model.specs.declared.task.Task.{Task}
use Rattle.walk_model.specs.Choice.{stub_length}
use Rattle.walk_model.specs.Cost.{turn}
use Rattle.move_model.specs.declared.place.Place.{Place as Standing}
use Rattle.move_model.specs.Places.{ComesTo, IsEntry as Enters}
use Rattle.move_model.proofs.Moving.Stages.{one_stage}
use Rattle.route_check.proofs.Collisions.Places.{contains_at}
use Rattle.search_problem.specs.declared.ends.Ending.{Ending}
use Rattle.search_problem.specs.declared.ends.Entry.{Entry}
use Rattle.search_problem.specs.Ends.{AreEndings, AreEntries, IsEndingOf, IsEntryOf}
use Rattle.proof_model.specs.declared.proof.Claim.{Claim}
use Rattle.proof_model.specs.declared.proof.LabelRow.{LabelRow}
use Rattle.proof_model.specs.Labels.{label_of}
use Rattle.proof_model.specs.Places.{Place, IsExit, IsEntry}
use Rattle.proof_model.specs.Rules.{AreEntriesFound, MayAllEnd, MayEnd, Suffices}
use Rattle.proof_model.proofs.Bridge.{crossing_at, crossing_of}
use Rattle.proof_model.proofs.Least.{at_place}
use Rattle.route_audit.specs.Ends.{IsEntryFound, MayEndAt, entry_place}

same_choice : (xs : List Choice) (n : ℕ) (c d : Choice) → slice_get xs n ≡ Some c → slice_get xs n ≡ Some d → c ≡ d
same_choice xs n c d e f = let both : Some c ≡ Some d = sym e ∙ f in cc

module _ (floor : Floor) (a : Arena) (arena : IsArena a) (stands : StandsFor floor a) (task : Task) where
  -- an entry of the list is one on the floor
  entry_on_floor : (s : Choice) (e : Entry) → IsEntryOf floor.solids a task s e → IsEntry floor task (entry_place e) e.lead
  entry_on_floor s e is = record {
    start = s;
    is_start = contains_at task.starts e.choice s is.is_start;
    crossing = subst (IsCrossing floor) (sym is.port) (crossing_of floor a arena stands e.place.crossing s.port is.enters.here);
    free = is.enters.free;
    stage = is.enters.stage;
    at = is.port;
    heading = is.enters.heading;
    costs = is.lead;
  }

  -- and each one on the floor is of the list
  entry_in_list : (entries : List Entry) → AreEntries floor.solids a task (length task.starts) entries → (x : Place) (cost : ℕ) → IsEntry floor task x cost →
      (e : Entry) × Contains entries e × (entry_place e ≡ x) × (e.lead ≡ cost)
  entry_in_list entries are x cost h =
      let s = h.start in
      let n = h.is_start.0 in
      let is_start = at_place task.starts s h.is_start in
      let found = crossing_at floor a arena stands x.at h.crossing in
      let y : Standing = record { crossing = found.0; stage = x.stage; heading = x.heading } in
      let enters : Enters floor.solids a task.via s y = record {
        free = h.free;
        here = subst (StandsAt a found.0) h.at found.1;
        heading =
            h.heading;
        stage = h.stage;
      } in
      let listed = are.complete n s y h.is_start.1 is_start enters in
      let e = listed.0 in
      let sound = All-contains (λ e. (e.choice < length task.starts) × (s : Choice) × IsEntryOf floor.solids a task s e) entries e are.sound listed.1 in
      let is = sound.2 in
      let one : sound.1 ≡ s = same_choice task.starts n sound.1 s (subst (λ k. slice_get task.starts k ≡ Some sound.1) listed.2 is.is_start) is_start in
      let port : e.port ≡ x.at = is.port ∙ ap (λ (c : Choice). c.port) one ∙ sym h.at in
      let stage : e.place.stage ≡ x.stage =
      one_stage task.via 0 e.place.stage x.stage s.port (subst (λ (c : Choice). ComesTo task.via 0 c.port e.place.stage) one is.enters.stage) h.stage in
      let heading : e.place.heading ≡ x.heading = is.enters.heading ∙ ap (λ (c : Choice). c.dir) one ∙ sym h.heading in (
        e,
        listed.1,
        (λ i. record { stage = stage i; at = port i; heading = heading i }),
        is.lead ∙ ap (λ (c : Choice). stub_length c + c.cost) one ∙ sym h.costs,
      )

  module _ (claim : Claim) (rows : List LabelRow) where
    pub entries_found : (entries : List Entry) → AreEntries floor.solids a task (length task.starts) entries → All (IsEntryFound claim rows) entries →
        AreEntriesFound floor task claim rows
    entries_found entries are all x cost h =
        let listed = entry_in_list entries are x cost h in
        let e = listed.0 in
        subst (λ k. Suffices claim (label_of rows x) k) listed.3 (subst (λ y. Suffices claim (label_of rows y) e.lead) listed.2 (All-contains
        (IsEntryFound claim rows) entries e all listed.1))

    pub entries_all : (entries : List Entry) → AreEntries floor.solids a task (length task.starts) entries → AreEntriesFound floor task claim rows →
        All (IsEntryFound claim rows) entries
    entries_all entries are found k d within =
        let h = are.sound k d within in
        found _ _ (entry_on_floor h.1 _ h.2)

    -- an ending of the list is one on the floor
    ending_on_floor : (c : Choice) (e : Ending) → IsEndingOf floor.solids a task c e → (h : Dir) →
        IsExit floor task (record { stage = length task.via; at = e.port; heading = h }) (task.penalty * turn h e.dir + e.rest)
    ending_on_floor c e is h =
        let turned : task.penalty * turn h e.dir ≡ task.penalty * turn h (opposite c.dir) = ap (λ d. task.penalty * turn h d) is.dir in
        record {
          end = c;
          is_end = contains_at task.ends e.choice c is.is_end;
          crossing = subst (IsCrossing floor) (sym is.port) (crossing_of floor a arena stands e.crossing c.port is.here);
          free = is.free;
          stage = refl;
          at = is.port;
          costs = omega (arith, turned, is.rest);
        }

    pub endings_all : (endings : List Ending) → AreEndings floor.solids a task (length task.ends) endings → MayAllEnd floor task claim rows →
        All (MayEndAt task claim rows) endings
    endings_all endings are may k d within h label is =
        let s = are.sound k d within in
        may _ label _ is (ending_on_floor s.1 _ s.2 h)

    pub endings_end : (endings : List Ending) → AreEndings floor.solids a task (length task.ends) endings → All (MayEndAt task claim rows) endings →
        MayAllEnd floor task claim rows
    endings_end endings are all x label cost is h =
        let c = h.end in
        let n = h.is_end.0 in
        let is_end = at_place task.ends c h.is_end in
        let found = crossing_at floor a arena stands x.at h.crossing in
        let listed = are.complete n found.0 c h.is_end.1 is_end h.free (subst (StandsAt a found.0) h.at found.1) in
        let e = listed.0 in
        let sound = All-contains (λ e. (e.choice < length task.ends) × (c : Choice) × IsEndingOf floor.solids a task c e) endings e are.sound listed.1 in
        let it = sound.2 in
        let one : sound.1 ≡ c = same_choice task.ends n sound.1 c (subst (λ k. slice_get task.ends k ≡ Some sound.1) listed.2 it.is_end) is_end in
        let port : e.port ≡ x.at = it.port ∙ ap (λ (d : Choice). d.port) one ∙ sym h.at in
        let here : ◌≡◌ {A = Place} (record { stage = length task.via; at = e.port; heading = x.heading }) x = λ i. record {
          stage = sym h.stage i;
          at =
              port i;
          heading = x.heading;
        } in
        let may = All-contains (MayEndAt task claim rows) endings e all listed.1 x.heading label (ap (label_of rows) here ∙ is) in
        let turned : task.penalty * turn x.heading e.dir ≡ task.penalty * turn x.heading (opposite c.dir) =
        ap (λ d. task.penalty * turn x.heading d) (it.dir ∙ ap (λ (d : Choice). opposite d.dir) one) in
        let rest : e.rest ≡ stub_length c + c.cost = it.rest ∙ ap (λ (d : Choice). stub_length d + d.cost) one in
        let same : label + (task.penalty * turn x.heading e.dir + e.rest) ≡ label + cost = omega (arith, turned, rest, h.costs) in
        subst (MayEnd claim) same may
