-- Each bundle has few rules of its class.
use Rattle.std.proofs.Common.{◌≡◌, ℕ, ◌<◌, ◌++◌, List, [], length, map, get_or, take, drop, sym, ap, subst, ◌∙◌, arith, w64, FitsSigned, rules, Vec}
use Rattle.std.specs.Prelude.{All}
use Rattle.std.proofs.lemmas.Int.{to_z-of_z}
use Rattle.std.proofs.lemmas.List.{get_or-map, length-map, take-append-le, take_all}
use Rattle.std.proofs.lemmas.List.Elements.{All-from_get_or, All-weaker}
use Rattle.separation_model.specs.Arena.{Arena}
use Rattle.channel_bundles.specs.declared.channel.Listing.{Listing}
use Rattle.channel_bundles.specs.Listed.{AreListedOf}
use Rattle.channel_bundles.specs.declared.forest.Seat.{Seat}
use Rattle.channel_bundles.specs.declared.channel.RunBundle.{RunBundle}
use Rattle.channel_bundles.specs.Bundles.{members_at}
use Rattle.channel_bundles.specs.Classes.{AreClasses, Connected, HasRule}
use Rattle.channel_bundles.specs.Kept.{AreKept}
use Rattle.channel_bundles.specs.Shares.{AreSeats, IsBundleWith, seat_at}
use Rattle.channel_bundles.proofs.Bundling.{few_places}
use Rattle.channel_bundles.proofs.Sharing.{few_listed, seat_of}
use Rattle.channel_bundles.proofs.shares.few_bundles_of.Goals as goal

abbrev items_of : List (Vec ℕ Arena) → List (List ℕ)
items_of lists = map (λ list. list.items) lists

within : (n : ℕ) (lists : List (Vec ℕ Arena)) → All (All (λ i. i < n)) (items_of lists) → All (λ list. All (λ i. i < n) list.items) lists
within n lists all k d h =
    subst (All (λ i. i < n)) (get_or-map (λ (list : Vec ℕ Arena). list.items) lists k d [] h) (all k [] (omega (arith, h, length-map {B = List ℕ} lists (λ list. list.items))))

in_seat : {connected : ℕ → ℕ → Type 0} (n : ℕ) (classes : List (List ℕ)) (seats : List Seat) → AreClasses connected n classes → AreSeats n classes seats →
    All (λ s. (s.class < length classes) × (s.place < length seats)) seats
in_seat n classes seats are seated = All-from_get_or (λ s. (s.class < length classes) × (s.place < length seats)) seats (record { class = 0; place = 0 }) (λ k h.
    let is = seat_of n classes seats are seated k (omega (arith, h, seated.all)) in
    let class = (seat_at seats k).class in
    let few = few_places (get_or classes class []) n (are.rising class [] is.in_class) (are.within class [] is.in_class) in
    (is.in_class, omega (arith, is.in_place, few, seated.all)))

pub rule_counts-requires-clause-seats : goal.rule_counts-requires-clause-seats
rule_counts-requires-clause-seats c =
    let lists = c.in_ok-classes.classes.lists.items in
    let seats = c.in_ok-classes.classes.seats.items in
    let each = in_seat (length c.args.members.now) (items_of lists) seats c.in_ok-classes.ensures.classes c.in_ok-classes.ensures.seats in
    let count : length (items_of lists) ≡ c.len.result = omega (arith, length-map {B = List ℕ} lists (λ list. list.items), c.len.ensures, c.in_ok-classes.classes.lists.ok.0) in
    subst (All (λ s. s.class < c.len.result)) (sym c.deref-3.ensures.value)
    (All-weaker (λ s. (s.class < length (items_of lists)) × (s.place < length seats)) (λ s. s.class < c.len.result) (λ s is. subst (λ n. s.class < n) count is.0) seats each)

pub bare_bundles-requires-clause-rooms : goal.bare_bundles-requires-clause-rooms
bare_bundles-requires-clause-rooms c =
    omega (arith, ap length c.deref-5.ensures.value, c.in_ok-rooms.ensures, c.len.ensures, c.in_ok-classes.classes.lists.ok.0, ap length c.deref-4.ensures.value)

pub bare_bundles-requires-clause-within : goal.bare_bundles-requires-clause-within
bare_bundles-requires-clause-within c =
    let n = length c.args.members.now in
    subst (All (λ list. All (λ i. i < n) list.items)) (sym c.deref-4.ensures.value) (within n c.in_ok-classes.classes.lists.items c.in_ok-classes.ensures.classes.within)

pub share_out-requires-clause-seats : goal.share_out-requires-clause-seats
share_out-requires-clause-seats c =
    let lists = c.in_ok-classes.classes.lists.items in
    let seats = c.in_ok-classes.classes.seats.items in
    let each = in_seat (length c.args.members.now) (items_of lists) seats c.in_ok-classes.ensures.classes c.in_ok-classes.ensures.seats in
    let count : length (items_of lists) ≡ length c.deref_mut.result.now =
    length-map {B = List ℕ} lists (λ list. list.items) ∙ ap length (sym c.deref-4.ensures.value) ∙ sym c.in_ok-found.ensures.count ∙ ap length (sym c.deref_mut.ensures.value) in
    subst (λ xs. All (λ s. (s.class < length c.deref_mut.result.now) × (s.place < length xs)) xs) (sym c.deref-7.ensures.value)
    (subst (λ n. All (λ s. (s.class < n) × (s.place < length seats)) seats) count each)

pub returns : goal.returns
returns c =
    let fits : FitsSigned w64 c.args.nudge = search rules in
    let nudge = c.args.nudge in
    let members = c.args.members.now in
    let rules_now = c.deref-6.result.now in
    let lists = c.deref-4.result.now in
    let seats = c.deref-7.result.now in
    let bare = c.deref_mut.result.now in
    let found = c.share_out.new.found in
    let same : c.deref.result.now ≡ rules_now = c.deref.ensures.value ∙ sym c.deref-6.ensures.value in
    let kept : AreKept nudge members rules_now = subst (AreKept nudge members) (sym c.deref-6.ensures.value) (simp to_z-of_z at c.in_ok-rules.ensures) in
    let joined : AreClasses (Connected (HasRule rules_now)) (length members) (items_of lists) =
    subst (λ xs. AreClasses (Connected (HasRule rules_now)) (length members) (items_of xs)) (sym c.deref-4.ensures.value)
    (subst (λ rs. AreClasses (Connected (HasRule rs)) (length members) (items_of c.in_ok-classes.classes.lists.items)) same c.in_ok-classes.ensures.classes) in
    let seated : AreSeats (length members) (items_of lists) seats =
    subst (λ xs. AreSeats (length members) (items_of xs) seats) (sym c.deref-4.ensures.value)
    (subst (AreSeats (length members) (items_of c.in_ok-classes.classes.lists.items)) (sym c.deref-7.ensures.value) c.in_ok-classes.ensures.seats) in
    let count : length (items_of lists) ≡ length lists = length-map {B = List ℕ} lists (λ list. list.items) in
    let count_bare : length bare ≡ length (items_of lists) = ap length c.deref_mut.ensures.value ∙ c.in_ok-found.ensures.count ∙ sym count in
    let are = simp to_z-of_z at c.in_ok-found.ensures.each in
    let each : (k : ℕ) (d : RunBundle) → k < length (items_of lists) → IsBundleWith nudge (members_at members (get_or (items_of lists) k [])) [] (get_or bare k d) = λ k d h.
    subst (λ xs. IsBundleWith nudge (members_at members (get_or (items_of lists) k [])) [] (get_or xs k d)) (sym c.deref_mut.ensures.value) (are k d (omega (arith, h, count))) in
    let small : c.in_ok-found.found.len ≡ length found = omega (arith, c.in_ok-found.found.ok.0, c.in_ok-share_out.ensures.count, ap length c.deref_mut.ensures.value) in
    let whole : found ≡ take c.in_ok-found.found.len (found ++ drop (length found) c.in_ok-found.found.items) =
    sym (take-append-le c.in_ok-found.found.len found (drop (length found) c.in_ok-found.found.items) (omega arith) ∙ take_all c.in_ok-found.found.len found (omega arith)) in
    subst (AreListedOf Listing.Few nudge members) whole
    (few_listed nudge members rules_now (items_of lists) seats bare found kept joined seated count_bare c.in_ok-share_out.ensures.count each c.in_ok-share_out.ensures.each)
