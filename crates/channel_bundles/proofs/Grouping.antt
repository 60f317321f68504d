-- Groups: the trees of a forest, runs that a link leaves together, and the next run of each group.
use Rattle.std.proofs.Common.{◌≡◌, ◌≢◌, ℕ, suc, zero, ◌+◌, ◌<◌, ◌≤◌, ◌/◌, ◌%◌, ◌⊎◌, ⊎_elim, ℤ, ◌+ℤ◌, ◌<ℤ◌, Bool, true, false, Option, Some, None, List, length, get_or, set, replicate, if◌then◌else◌, refl, sym, ap, subst, ◌∙◌, arith, inl, inr, true≢false}
use Rattle.std.specs.Prelude.{All, IsSome, ◌==◌}
use Rattle.std.proofs.lemmas.Bool.{cases_Bool}
use Rattle.std.proofs.lemmas.Bool.Decides.{nat_tests}
use Rattle.std.proofs.lemmas.Int.{ints, clamps, by_lt_z}
use Rattle.std.proofs.lemmas.List.{get_or-set_same, get_or-set_other, length-set, get_or-replicate, length-replicate}
use Rattle.std.proofs.lemmas.List.Elements.{All-from_get_or, All-get_or}
use Rattle.segment_order.specs.declared.run.Run.{Run}
use Rattle.channel_bundles.specs.declared.member.Member.{Member}
use Rattle.channel_bundles.specs.declared.groups.By.TheVariants.{Limits, Ranges, Edges, Fours, LaterFours}
use Rattle.channel_bundles.specs.Classes.{AreTreeNumbers, Connected, LeadsUp}
use Rattle.channel_bundles.specs.Groups.{AreGroups, AreNext, AreTogether, Meet, span_at}
use Rattle.channel_bundles.specs.Links.{IsLink, IsMember, IsNudge, asks, asks_movable, link, linked, member_at, no_member, is_second_next, overlap}
use Rattle.channel_bundles.specs.Placed.{AreRising}
use Rattle.channel_bundles.proofs.Clear.{unasked}
use Rattle.channel_bundles.proofs.Trees.{cases_same}

-- what the links of a forest connect has one number
pub one_number : (above roots numbers : List ℕ) → AreTreeNumbers above (length above) roots numbers → (i j : ℕ) → Connected (LeadsUp above) i j → AreTogether numbers i j
one_number above roots numbers are i j (Connected.same n) = refl
one_number above roots numbers are i j (Connected.onward a m b d l) =
    one_number above roots numbers are i m d ∙ sym (are.up m l.0) ∙ ap (λ n. get_or numbers n 0) l.1
one_number above roots numbers are i j (Connected.back a m b d l) =
    one_number above roots numbers are i m d ∙ ap (λ n. get_or numbers n 0) (sym l.1) ∙ are.up j l.0

-- there are no more roots than numbers
at_most_root : (above : List ℕ) (count : ℕ) (roots numbers : List ℕ) → AreTreeNumbers above count roots numbers → (m : ℕ) → m < length roots → m ≤ get_or roots m 0
at_most_root above count roots numbers are zero h = omega arith
at_most_root above count roots numbers are (suc m) h = omega (arith, at_most_root above count roots numbers are m (omega arith), are.rise m (suc m) (omega arith) h)

pub trees_are_groups : (above roots numbers : List ℕ) → AreTreeNumbers above (length above) roots numbers → AreGroups (length above) numbers
trees_are_groups above roots numbers are = record {
  all = are.all;
  within = All-from_get_or (λ g. g < length above) numbers 0 (λ k h.
      let in_k : k < length above = omega (arith, h, are.all) in
      omega (arith, at_most_root above (length above) roots numbers are (get_or numbers k 0) (are.within k in_k), are.not_before k in_k, in_k));
}

-- all runs in one group
pub one_group : (count : ℕ) (groups : List ℕ) → groups ≡ replicate count 0 → AreGroups count groups
one_group count groups e = subst (AreGroups count) (sym e) (record {
  all = length-replicate {A = ℕ} count 0;
  within = All-from_get_or (λ g. g < count) (replicate count 0) 0 (λ k h.
      let some : k < count = omega (arith, h, length-replicate {A = ℕ} count 0) in omega (arith, some, get_or-replicate {A = ℕ} count k 0 0 some));
})

pub one_together : (count : ℕ) (groups : List ℕ) (i j : ℕ) → groups ≡ replicate count 0 → i < count → j < count → AreTogether groups i j
one_together count groups i j e h g =
    ap (λ xs. get_or xs i 0) e ∙ get_or-replicate {A = ℕ} count i 0 0 h ∙ sym (get_or-replicate {A = ℕ} count j 0 0 g) ∙ ap (λ xs. get_or xs j 0) (sym e)

none_linked : (nudge : ℤ) (members : List Member) (i j : ℕ) → link nudge (member_at members i) (member_at members j) ≡ None → IsLink nudge members i j → ⊥
none_linked nudge members i j none l = true≢false (sym (subst IsSome none l.linked))

-- limits of linked runs meet
pub limits_meet : (nudge : ℤ) (members : List Member) (groups : List ℕ) (i j : ℕ) → All IsMember members → AreRising members → IsNudge nudge → IsLink nudge members i j → AreTogether groups i j →
    Meet (span_at Limits nudge members groups i) (span_at Limits nudge members groups j)
limits_meet nudge members groups i j good rising wanted l same =
    let a = member_at members i in
    let b = member_at members j in
    let one : IsMember a = All-get_or IsMember members i no_member (omega (arith, l.forward, l.within)) good in
    let other : IsMember b = All-get_or IsMember members j no_member l.within good in
    let rise = rising.rise i j (omega (arith, l.forward)) l.within in
    let near : b.low <ℤ (a.high +ℤ nudge) = by_lt_z b.low (a.high +ℤ nudge) (λ h. h)
    (λ apart. absurd (none_linked nudge members i j (unasked nudge a b (asks a b) wanted.low apart) l)) in
    record {
      group = same;
      before = omega (arith, ints, one.want_low, other.want_high, rise, wanted.low);
      behind = omega (arith, ints, near);
    }

shared : (r s : Run) → overlap r s ≡ true → (r.lo <ℤ s.hi) × (s.lo <ℤ r.hi)
shared r s e = grind (arith, ints, clamps)

pub other_number : (m n : ℕ) → m ≢ n → (m == n) ≡ false
other_number m n e = grind (arith, nat_tests)

-- runs of different edges whose ranges share no stretch require nothing
unasked_movable : (r s : Run) → r.edge ≢ s.edge → overlap r s ≡ false → asks_movable r s ≡ None
unasked_movable r s differ apart =
    ap (λ t. if t then (if is_second_next r s then Some false else None) else (if overlap r s then Some true else None)) (other_number r.edge s.edge differ)
    ∙ ap (λ t. if t then Some true else None) apart

if_movable : (f g : Bool) (o : Option Bool) → o ≡ None → (if f then (if g then None else o) else o) ≡ None
if_movable true true o e = refl
if_movable true false o e = e
if_movable false g o e = e

-- ranges of runs of different edges that are linked meet
pub ranges_meet : (nudge : ℤ) (members : List Member) (groups : List ℕ) (i j : ℕ) → IsLink nudge members i j → (member_at members i).run.edge ≢ (member_at members j).run.edge → AreTogether groups i j →
    Meet (span_at Ranges nudge members groups i) (span_at Ranges nudge members groups j)
ranges_meet nudge members groups i j l differ same =
    let a = member_at members i in
    let b = member_at members j in
    elim (cases_Bool (overlap a.run b.run)) as (λ _. Meet (span_at Ranges nudge members groups i) (span_at Ranges nudge members groups j)) [
      | inl both ↦ (let ends = shared a.run b.run both in record { group = same; before = ends.0; behind = ends.1 })
      | inr apart ↦ absurd (none_linked nudge members i j
          (ap (linked nudge a b) (if_movable a.fixed b.fixed (asks_movable a.run b.run) (unasked_movable a.run b.run differ apart))) l)
    ]

-- two runs of one edge meet
pub edges_meet : (nudge : ℤ) (members : List Member) (groups : List ℕ) (i j : ℕ) → (member_at members i).run.edge ≡ (member_at members j).run.edge → AreTogether groups i j →
    Meet (span_at Edges nudge members groups i) (span_at Edges nudge members groups j)
edges_meet nudge members groups i j e same = record {
  group = same;
  before = omega (arith, ints, e);
  behind = omega (arith, ints, e);
}

second_next : (r s : Run) → is_second_next r s ≡ true → (r.place + 2 ≡ s.place) ⊎ (s.place + 2 ≡ r.place)
second_next r s e = grind (arith, nat_tests)

-- of two numbers of fours that are next but one to each other, one is shared
fours_shared : (p q : ℕ) → p + 2 ≡ q → (p / 2 / 2 ≡ q / 2 / 2) ⊎ ((p / 2 + 1) / 2 ≡ (q / 2 + 1) / 2)
fours_shared p q e = cases_same (p / 2 % 2) 0 (λ even. inl (omega (arith, e, even))) (λ odd. inr (omega (arith, e, odd)))

next_if : (same next both : Bool) (f g : Bool) → same ≡ true → next ≡ false →
    (if f then (if g then None else (if same then (if next then Some false else None) else (if both then Some true else None))) else (if same then (if next then Some false else None) else (if both then Some true else None))) ≡ None
next_if true false both f g e h = if_movable f g None refl
next_if true true both f g e h = cc
next_if false next both f g e h = cc

same_number : (m n : ℕ) → m ≡ n → (m == n) ≡ true
same_number m n e = grind (arith, nat_tests)

-- two runs of an edge that are linked are together by fours, from 0 or from 2 on
pub in_a_four : (nudge : ℤ) (members : List Member) (edges early late : List ℕ) (i j : ℕ) → IsLink nudge members i j → (member_at members i).run.edge ≡ (member_at members j).run.edge → AreTogether edges i j →
    (Meet (span_at Fours nudge members edges i) (span_at Fours nudge members edges j) → AreTogether early i j) →
    (Meet (span_at LaterFours nudge members edges i) (span_at LaterFours nudge members edges j) → AreTogether late i j) → AreTogether early i j ⊎ AreTogether late i j
in_a_four nudge members edges early late i j l same together on_early on_late =
    let a = member_at members i in
    let b = member_at members j in
    let shared_four : ((a.run.place / 2 / 2 ≡ b.run.place / 2 / 2) ⊎ ((a.run.place / 2 + 1) / 2 ≡ (b.run.place / 2 + 1) / 2)) → AreTogether early i j ⊎ AreTogether late i j =
    λ either. ⊎_elim
    (λ e. inl (on_early (record { group = together; before = omega (arith, ints, e); behind = omega (arith, ints, e) })))
    (λ e. inr (on_late (record { group = together; before = omega (arith, ints, e); behind = omega (arith, ints, e) }))) either in
    elim (cases_Bool (is_second_next a.run b.run)) as (λ _. AreTogether early i j ⊎ AreTogether late i j) [
      | inl next ↦ ⊎_elim
          (λ e. shared_four (fours_shared a.run.place b.run.place e))
          (λ e. shared_four (⊎_elim (λ f. inl (sym f)) (λ f. inr (sym f)) (fours_shared b.run.place a.run.place e)))
          (second_next a.run b.run next)
      | inr apart ↦ absurd (none_linked nudge members i j
          (ap (linked nudge a b) (next_if (a.run.edge == b.run.edge) (is_second_next a.run b.run) (overlap a.run b.run) a.fixed b.fixed (same_number a.run.edge b.run.edge same) apart)) l)
    ]

-- from `at` on each place has its next one, and each group the first of its places
pub record AreNextFrom (groups first next : List ℕ) (at : ℕ) : Type 0 where
  pub first_count : length first ≡ length groups
  pub count : length next ≡ length groups
  pub within : at ≤ length groups
  pub not_before : (g : ℕ) → g < length groups → at ≤ get_or first g 0
  pub has : (g : ℕ) → g < length groups → get_or first g 0 < length groups → get_or groups (get_or first g 0) 0 ≡ g
  pub least : (j : ℕ) → at ≤ j → j < length groups → get_or first (get_or groups j 0) 0 ≤ j
  pub after : (i : ℕ) → at ≤ i → i < length groups → i < get_or next i 0
  pub own : (i : ℕ) → at ≤ i → i < length groups → get_or next i 0 < length groups → AreTogether groups (get_or next i 0) i
  pub none : (i j : ℕ) → at ≤ i → i < j → j < get_or next i 0 → j < length groups → get_or groups j 0 ≢ get_or groups i 0

pub next_begins : (groups first next : List ℕ) (n : ℕ) → n ≡ length groups → first ≡ replicate n n → next ≡ replicate n n → AreNextFrom groups first next n
next_begins groups first next n e is_first is_next =
    let at_first : (g : ℕ) → g < length groups → get_or first g 0 ≡ n = λ g h. ap (λ xs. get_or xs g 0) is_first ∙ get_or-replicate n g n 0 (omega arith) in
    record {
      first_count = ap length is_first ∙ length-replicate n n ∙ e;
      count = ap length is_next ∙ length-replicate n n ∙ e;
      within = omega arith;
      not_before = λ g h. omega (arith, at_first g h);
      has = λ g h in_g. absurd (omega (arith, at_first g h, in_g));
      least = λ j from h. absurd (omega arith);
      after = λ i from h. absurd (omega arith);
      own = λ i from h. absurd (omega arith);
      none = λ i j from less before h. absurd (omega arith);
    }

pub next_more : (groups first next : List ℕ) (at old g f : ℕ) → AreNextFrom groups first next old → old ≡ at + 1 → AreGroups (length groups) groups → g ≡ get_or groups at 0 → f ≡ get_or first g 0 →
    AreNextFrom groups (set first g at) (set next at f) at
next_more groups first next at old g f is e good is_g is_f =
    let n = length groups in
    let in_at : at < n = omega (arith, is.within) in
    let in_g : g < n = subst (λ m. m < n) (sym is_g) (All-get_or (λ m. m < n) groups at 0 in_at good.within) in
    let made = set next at f in
    let new = set first g at in
    let here : get_or made at 0 ≡ f = get_or-set_same next at f 0 (omega (arith, is.count)) in
    let kept : (i : ℕ) → i ≢ at → get_or made i 0 ≡ get_or next i 0 = λ i ne. get_or-set_other next at i f 0 ne in
    let first_here : get_or new g 0 ≡ at = get_or-set_same first g at 0 (omega (arith, is.first_count)) in
    let first_kept : (m : ℕ) → m ≢ g → get_or new m 0 ≡ get_or first m 0 = λ m ne. get_or-set_other first g m at 0 ne in
    let from_f : (j : ℕ) → at < j → j < n → get_or groups j 0 ≡ g → f ≤ j = λ j from h same.
    omega (arith, is_f, ap (λ m. get_or first m 0) same, is.least j (omega arith) h) in
    record {
      first_count = length-set first g at ∙ is.first_count;
      count = length-set next at f ∙ is.count;
      within = omega arith;
      not_before = λ m h. cases_same m g
          (λ s. omega (arith, ap (λ k. get_or new k 0) s, first_here))
          (λ ne. omega (arith, first_kept m ne, is.not_before m h));
      has = λ m h in_m. cases_same m g
          (λ s. ap (λ k. get_or groups k 0) (ap (λ k. get_or new k 0) s ∙ first_here) ∙ sym is_g ∙ sym s)
          (λ ne. ap (λ k. get_or groups k 0) (first_kept m ne) ∙ is.has m h (omega (arith, in_m, first_kept m ne)));
      least = λ j from h. cases_same (get_or groups j 0) g
          (λ s. omega (arith, ap (λ k. get_or new k 0) s, first_here))
          (λ ne. omega (arith, first_kept (get_or groups j 0) ne, is.least j (cases_same j at (λ same. absurd (ne (ap (λ k. get_or groups k 0) same ∙ sym is_g))) (λ other. omega arith)) h));
      after = λ i from h. cases_same i at
          (λ s. omega (arith, ap (λ k. get_or made k 0) s, here, is_f, is.not_before g in_g))
          (λ ne. omega (arith, kept i ne, is.after i (omega arith) h));
      own = λ i from h in_i. cases_same i at
          (λ s. let to : get_or made i 0 ≡ f = ap (λ k. get_or made k 0) s ∙ here in
          ap (λ k. get_or groups k 0) (to ∙ is_f) ∙ is.has g in_g (omega (arith, in_i, to, is_f)) ∙ is_g ∙ sym (ap (λ k. get_or groups k 0) s))
          (λ ne. ap (λ k. get_or groups k 0) (kept i ne) ∙ is.own i (omega arith) h (omega (arith, in_i, kept i ne)));
      none = λ i j from less before h. cases_same i at
          (λ s same. absurd (omega (arith, before, ap (λ k. get_or made k 0) s, here, less, from_f j (omega (arith, less, s)) h (same ∙ ap (λ k. get_or groups k 0) s ∙ sym is_g))))
          (λ ne. is.none i j (omega arith) less (omega (arith, before, kept i ne)) h);
    }

pub next_ends : (groups first next : List ℕ) (at : ℕ) → AreNextFrom groups first next at → at ≤ 0 → AreNext groups next
next_ends groups first next at is none = record {
  count = is.count;
  after = λ i h. is.after i (omega arith) h;
  own = λ i h in_i. is.own i (omega arith) h in_i;
  none = λ i j less before h. is.none i j (omega arith) less before h;
}
