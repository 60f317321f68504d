-- Solutions of bundles with few rules are solutions of the bundles with all.
use Rattle.std.proofs.Common.{◌≡◌, ℕ, ◌<◌, ◌^◌, ℤ, pos, ◌≤ℤ◌, Some, List, [], ◌∷◌, Vec, zero, suc, length, refl, get_or, sym, ap, subst, subst₂, ◌∙◌, arith}
use Rattle.std.specs.Prelude.{All, Contains, slice_get, slice_index}
use Rattle.std.proofs.lemmas.Int.{ints}
use Rattle.std.proofs.lemmas.List.Elements.{All-get_or, All-from_get_or}
use Rattle.std.proofs.lemmas.Option.{slice_get_within, slice_get-get_or, get_or_from_slice_get}
use Rattle.plane_geom.specs.declared.point.Way.{Way}
use Rattle.plane_geom.specs.declared.rect.Solid.{Solid}
use Rattle.segment_order.specs.declared.run.Run.{Run}
use Rattle.separation_model.specs.declared.bundle.Rule.{Rule}
use Rattle.separation_model.specs.declared.bundle.Solution.{Solution}
use Rattle.separation_model.specs.Bundle.{IsBundle, int_at}
use Rattle.separation_model.specs.Rounded.{IsRoundedDown}
use Rattle.separation_model.specs.Certified.{IsAccepted, IsSmall, all_multipliers}
use Rattle.separation_model.specs.Padded.{ArePadded}
use Rattle.separation_model.proofs.Chains.{one_least, one_widest_gap}
use Rattle.separation_model.proofs.Padded.{padded_certified, padded_each, padded_length, padded_sum}
use Rattle.separation_model.specs.Arena.{Arena}
use Rattle.channel_bundles.specs.declared.route.PhaseRoute.{PhaseRoute}
use Rattle.channel_bundles.specs.declared.channel.RunBundle.{RunBundle}
use Rattle.channel_bundles.specs.Few.{AreAmong, AreFewBundles, IsFewOf}
use Rattle.nudge_phases.specs.Moved.{IsPutAt}
use Rattle.nudge_phases.specs.Phase.{IsPhase, IsSolutionOf}
use Rattle.nudge_phases.specs.Steps.{AreBundlesIn, AreEach, AreSettledIn, AreSolutionsOf, HasFollowed, IsPut, IsRunIn}
use Rattle.nudge_phases.proofs.BetweenPhases.{is_phase}
use Rattle.nudge_phases.proofs.Covering.{bundles_in}
use Rattle.nudge_phases.proofs.RouteRuns.{some_read}

-- multipliers of all rules, with 0 at those that were left out
padded : (few all : List Rule) (own : List ℤ) → AreAmong few all → length own ≡ length few → (mults : List ℤ) × ArePadded all mults few own
padded few all [] AreAmong.none e = ([], ArePadded.none)
padded few all (m ∷ own) AreAmong.none e = absurd (omega (arith, e))
padded few all [] (AreAmong.kept r rs ss among) e = absurd (omega (arith, e))
padded few all (m ∷ own) (AreAmong.kept r rs ss among) e =
    let p = padded rs ss own among (omega (arith, e)) in
    (m ∷ p.0, ArePadded.kept r m ss p.0 rs own p.1)
padded few all own (AreAmong.left_out r rs ss among) e =
    let p = padded rs ss own among e in
    (pos 0 ∷ p.0, ArePadded.left_out r ss p.0 rs own p.1)

-- a `Vec` as long as another one, with the elements of the list
abbrev pub vec_like : {X Y : Type 0} (v : Vec X Arena) (ys : List Y) → length ys ≡ length v.items → Vec Y Arena
vec_like v ys e = record { ptr = v.ptr; len = v.len; cap = v.cap; alloc = v.alloc; items = ys; ok = (v.ok.0 ∙ sym e, v.ok.1); small = v.small }

module _ (b few : RunBundle) (own : Solution) (good : IsBundle b.bundle) (is_few : IsFewOf b few) (a : IsAccepted few.bundle own) where
  abbrev mults : List ℤ
  mults = (padded few.bundle.rules.items b.bundle.rules.items own.mult.items is_few.order a.certified.mults).0

  abbrev are : ArePadded b.bundle.rules.items mults few.bundle.rules.items own.mult.items
  are = (padded few.bundle.rules.items b.bundle.rules.items own.mult.items is_few.order a.certified.mults).1

  abbrev as_many : length mults ≡ length b.bundle.rules.items
  as_many = padded_length b.bundle.rules.items few.bundle.rules.items mults own.mult.items are

  abbrev whole : Solution
  whole = record own { mult = vec_like b.bundle.rules mults as_many }

  same_sum : (i : ℕ) → all_multipliers b.bundle whole i ≡ all_multipliers few.bundle own i
  same_sum i =
      let left = padded_sum (λ (r : Rule). r.right) i b.bundle.rules.items few.bundle.rules.items mults own.mult.items are in
      let right = padded_sum (λ (r : Rule). r.left) i b.bundle.rules.items few.bundle.rules.items mults own.mult.items are in
      omega (arith, ints, left, right)

  -- what shows positions to be least for the few shows it for all
  accepted : IsAccepted b.bundle whole
  accepted = record {
    gap_low = a.gap_low;
    gap_high = subst (λ z. own.gap ≤ℤ z) is_few.reduced.wanted a.gap_high;
    small_places = a.small_places;
    small_mults = All-from_get_or IsSmall mults (pos 0) (λ j l.
        padded_each (λ r m. IsSmall m) (λ r. omega arith) b.bundle.rules.items few.bundle.rules.items mults own.mult.items are
        (λ k less. All-get_or IsSmall own.mult.items k (pos 0) (omega (arith, less, a.certified.mults)) a.small_mults) j
        (omega (arith, l, as_many)));
    small_lows = a.small_lows;
    small_highs = a.small_highs;
    small_sums = λ i l. subst (λ z. z ≤ℤ pos (2 ^ 126)) (sym (same_sum i)) (a.small_sums i (omega (arith, l, ap length is_few.reduced.items)));
    certified = padded_certified b.bundle few.bundle own whole good is_few.reduced a.gap_low a.certified are;
  }

-- a solution of all at the positions of one of the few
abbrev IsWiderOf : RunBundle → Solution → Solution → Type 0
IsWiderOf b s w = IsSolutionOf b.bundle w × (w.pos.items ≡ s.pos.items) × (w.den.items ≡ s.den.items)

-- a solution of the few is one of all, with 0 at the rules that were left out
solution_of_all : (b few : RunBundle) (s : Solution) → IsBundle b.bundle → IsFewOf b few → IsSolutionOf few.bundle s → (w : Solution) × IsWiderOf b s w
solution_of_all b few s good is_few is = (
  whole b few s good is_few is.accepted,
  (
    record {
      gap = one_widest_gap b.bundle few.bundle s.gap good is_few.reduced is.gap;
      least = one_least b.bundle few.bundle s.gap s.den.items s.pos.items good is_few.reduced is.gap.low is.least;
      accepted = accepted b few s good is_few is.accepted;
    },
    refl,
    refl,
  ),
)

one_more : {Y : Type 0} (P : ℕ → Y → Type 0) (n : ℕ) (y : Y) (ys : List Y) → P zero y → ((k : ℕ) (d : Y) → k < n → P (suc k) (get_or ys k d)) →
    (k : ℕ) (d : Y) → k < suc n → P k (get_or (y ∷ ys) k d)
one_more P n y ys is more zero d h = is
one_more P n y ys is more (suc k) d h = more k d (omega (arith, h))

-- where each number below n has a partner, there is a list of partners
partners : {Y : Type 0} (P : ℕ → Y → Type 0) (n : ℕ) → ((k : ℕ) → k < n → (y : Y) × P k y) → (ys : List Y) × (length ys ≡ n) × ((k : ℕ) (d : Y) → k < n → P k (get_or ys k d))
partners P zero has = ([], refl, λ k d h. absurd (omega (arith, h)))
partners P (suc n) has =
    let first = has zero (omega arith) in
    let rest = partners (λ k. P (suc k)) n (λ k h. has (suc k) (omega (arith, h))) in
    (first.0 ∷ rest.0, ap suc rest.1, one_more P n first.0 rest.0 first.1 rest.2)

module _ (solids : List Solid) (routes : List PhaseRoute) (way : Way) (nudge : ℤ) (few : List RunBundle) (are : AreFewBundles solids routes way nudge few) where
  abbrev found : List RunBundle
  found = are.found

  -- the bundle at a place with all its rules
  partner : (k : ℕ) (f : RunBundle) → slice_get few k ≡ Some f → (b : RunBundle) × (slice_get found k ≡ Some b) × IsFewOf b f
  partner k f e =
      let here = slice_get_within few k f e in
      let in_found : k < length found = omega (arith, here, are.count) in
      let b = some_read found k in_found in
      (b.0, b.1, subst (IsFewOf b.0) (get_or_from_slice_get few k f f e) (subst (λ x. IsFewOf x (get_or few k f)) (get_or_from_slice_get found k b.0 f b.1) (are.each k f in_found)))

  -- and the one at a place with few of them
  fewer : (k : ℕ) (b : RunBundle) → slice_get found k ≡ Some b → (f : RunBundle) × (slice_get few k ≡ Some f) × IsFewOf b f
  fewer k b e =
      let here = slice_get_within found k b e in
      let f = some_read few k (omega (arith, here, are.count)) in
      (f.0, f.1, subst (IsFewOf b) (get_or_from_slice_get few k f.0 b f.1) (subst (λ x. IsFewOf x (get_or few k b)) (get_or_from_slice_get found k b b e) (are.each k b here)))

  abbrev in_all : AreBundlesIn routes way found
  in_all = bundles_in solids routes way nudge found are.bundles are.accepted

  each_few : (P : RunBundle → Type 0) → ((b f : RunBundle) (k : ℕ) → slice_get found k ≡ Some b → slice_get few k ≡ Some f → IsFewOf b f → P f) → All P few
  each_few P step k d h =
      let f = some_read few k h in
      let p = partner k f.0 f.1 in
      subst P (sym (get_or_from_slice_get few k f.0 d f.1)) (step p.0 f.0 k p.1 f.1 p.2)

  read_all : (P : RunBundle → Type 0) (k : ℕ) (b : RunBundle) → All P found → slice_get found k ≡ Some b → P b
  read_all P k b all e = subst P (get_or_from_slice_get found k b b e) (All-get_or P found k b (slice_get_within found k b e) all)

  -- bundles with few rules hold the same runs
  pub few_in : All (λ (b : RunBundle). IsBundle b.bundle) few → AreBundlesIn routes way few
  few_in good = record {
    good = good;
    items = each_few (λ (b : RunBundle). length b.runs.items ≡ length b.bundle.items.items) (λ b f k e g is.
        ap length is.runs ∙ read_all (λ (x : RunBundle). length x.runs.items ≡ length x.bundle.items.items) k b in_all.items e ∙ sym (ap length is.reduced.items));
    own = each_few (λ (b : RunBundle). All (IsRunIn routes way) b.runs.items) (λ b f k e g is.
        subst (All (IsRunIn routes way)) (sym is.runs) (read_all (λ (x : RunBundle). All (IsRunIn routes way) x.runs.items) k b in_all.own e));
    whole = λ r is_in.
        let (b, has, in_b) = in_all.whole r is_in in
        let e : slice_get found has.0 ≡ Some b = slice_get-get_or found has.0 b has.1 ∙ ap Some has.2 in
        let f = fewer has.0 b e in
        (f.0, (has.0, slice_get_within few has.0 f.0 f.1, get_or_from_slice_get few has.0 f.0 f.0 f.1), subst (λ rs. Contains rs r) (sym f.2.runs) in_b);
  }

  module _ (solutions : List Solution) (solved : AreSolutionsOf few solutions) where
    -- the solution at the place, of the bundle there with all its rules
    abbrev IsWiderAt : ℕ → Solution → Type 0
    IsWiderAt k w = (b : RunBundle) (s : Solution) → slice_get found k ≡ Some b → slice_get solutions k ≡ Some s → IsWiderOf b s w

    wider : (k : ℕ) → k < length found → (w : Solution) × IsWiderAt k w
    wider k h =
        let b = some_read found k h in
        let f = fewer k b.0 b.1 in
        let s = some_read solutions k (omega (arith, h, solved.count, are.count)) in
        let w = solution_of_all b.0 f.0 s.0 (read_all (λ (x : RunBundle). IsBundle x.bundle) k b.0 are.accepted b.1) f.2 (solved.each k f.0 s.0 f.1 s.1) in (
          w.0,
          λ c t e g. subst₂ (λ x y. IsWiderOf x y w.0)
              (sym (get_or_from_slice_get found k b.0 b.0 b.1) ∙ get_or_from_slice_get found k c b.0 e)
              (sym (get_or_from_slice_get solutions k s.0 s.0 s.1) ∙ get_or_from_slice_get solutions k t s.0 g) w.1,
        )

    abbrev all_wider : (ws : List Solution) × (length ws ≡ length found) × ((k : ℕ) (d : Solution) → k < length found → IsWiderAt k (get_or ws k d))
    all_wider = partners IsWiderAt (length found) wider

    -- the solutions of the bundles with all their rules
    abbrev whole_solutions : List Solution
    whole_solutions = all_wider.0

    all_solved : AreSolutionsOf found whole_solutions
    all_solved = record {
      count = all_wider.1;
      each = λ k b w e g.
          let here = slice_get_within found k b e in
          let s = some_read solutions k (omega (arith, here, solved.count, are.count)) in
          subst (λ x. IsSolutionOf b.bundle x) (get_or_from_slice_get whole_solutions k w w g) (all_wider.2 k w here b s.0 e s.1).0;
    }

    put_at : (r : Run) (z : ℤ) → IsPutAt few solutions r z → IsPutAt found whole_solutions r z
    put_at r z at =
        let b = partner at.place at.bundle at.of_bundle in
        let here = slice_get_within found at.place b.0 b.1 in
        let w = some_read whole_solutions at.place (omega (arith, here, all_wider.1)) in
        let same = get_or_from_slice_get whole_solutions at.place w.0 w.0 w.1 in
        let is = all_wider.2 at.place w.0 here b.0 at.solution b.1 at.of_solution in
        record {
          place = at.place;
          item = at.item;
          bundle = b.0;
          solution = w.0;
          of_bundle = b.1;
          of_solution = w.1;
          here = ap (λ rs. slice_get rs at.item) (sym b.2.runs) ∙ at.here;
          down = subst₂ (λ ps ds. IsRoundedDown (int_at ps at.item) (slice_index ds at.item) z)
              (sym is.1 ∙ ap (λ (x : Solution). x.pos.items) same) (sym is.2 ∙ ap (λ (x : Solution). x.den.items) same) at.down;
        }

    put : (before after : PhaseRoute) → IsPut way few solutions before after → IsPut way found whole_solutions before after
    put before after is = record {
      same = is.same;
      count = is.count;
      runs = is.runs;
      own = λ k h own. put_at _ _ (is.own k h own);
      others = is.others;
    }

    -- the runs where the solutions of the few put them make the phase
    pub few_phase : (between after : List PhaseRoute) → AreEach (IsPut way few solutions) routes between → AreEach (HasFollowed way) between after → IsPhase solids routes way nudge after
    few_phase between after puts follows = is_phase solids routes between after way nudge found whole_solutions are.bundles all_solved
        (record { count = puts.count; each = λ k x y e g. put x y (puts.each k x y e g) }) follows

-- the same, of what is equal
pub phase_of : (solids : List Solid) (routes first second put followed : List PhaseRoute) (way : Way) (nudge : ℤ) (few bundled : List RunBundle) →
    first ≡ routes → bundled ≡ few → second ≡ put → AreFewBundles solids routes way nudge few → AreBundlesIn routes way few →
    AreSettledIn bundled first put → AreEach (HasFollowed way) second followed → IsPhase solids routes way nudge followed
phase_of solids routes first second put followed way nudge few bundled e f h bundles are settles follows =
    let settled = subst₂ (λ bs rs. AreSettledIn bs rs put) f e settles in
    few_phase solids routes way nudge few bundles settled.solutions settled.solved put followed (settled.put way are)
    (subst (λ rs. AreEach (HasFollowed way) rs followed) h follows)
