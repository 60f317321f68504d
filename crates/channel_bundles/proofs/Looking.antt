-- The look from one run over later ones: each link is kept, or has a middle; two runs that hide the run close the look.
use Rattle.std.proofs.Common.{◌≡◌, ◌≢◌, ◌⊎◌, ℕ, ◌<◌, ◌≤◌, ℤ, ◌≤ℤ◌, Bool, true, false, Option, Some, None, List, [], ◌∷◌, ◌++◌, length, get_or, if◌then◌else◌, inl, inr, refl, sym, ap, subst, ◌∙◌, arith, ⊎_elim, append_assoc, length-append, ◌-◌}
use Rattle.std.specs.Prelude.{All, AllPairs, Contains, IsSome, ◌==◌}
use Rattle.std.proofs.lemmas.Bool.Decides.{nat_tests}
use Rattle.std.proofs.lemmas.Int.{ints, clamps}
use Rattle.std.proofs.lemmas.List.{append-nil, get_or-append_right}
use Rattle.std.proofs.lemmas.List.Elements.{All-append, All-nil, All-push, All-same, All-weaker, All-get_or, Contains-append_left, Contains-push}
use Rattle.std.proofs.lemmas.List.Quantifiers.{all_pairs_push}
use Rattle.segment_order.specs.declared.run.Run.{Run}
use Rattle.separation_model.specs.declared.bundle.Rule.{Rule}
use Rattle.separation_model.specs.Bundle.{rule_at, no_rule}
use Rattle.channel_bundles.specs.declared.member.Member.{Member}
use Rattle.channel_bundles.specs.Groups.{AreNext, AreTogether}
use Rattle.channel_bundles.specs.Links.{IsLink, asks, asks_movable, is_second_next, link, linked, member_at, overlap, presses}
use Rattle.channel_bundles.specs.Kept.{AreKeptFrom, HasMiddleLink, IsClosing, IsHidden, IsKeptOr, IsLinkRule, IsPast, IsTried, LeadOn, LeadsTowards, nearest, rule_of}
use Rattle.channel_bundles.proofs.Trees.{cases_below, cases_same}

-- ---- what a link says of its runs

some_same : (t s : Bool) → Some t ≡ Some s → t ≡ s
some_same t s e = cc

pressed : (t s p : Bool) → (if p then Some t else None) ≡ Some s → (Some t ≡ Some s) × (p ≡ true)
pressed t s true e = (e, refl)
pressed t s false e = cc

linked_is : (nudge : ℤ) (a b : Member) (o : Option Bool) (s : Bool) → linked nudge a b o ≡ Some s → (o ≡ Some s) × (presses nudge a b s ≡ true)
linked_is nudge a b None s e = cc
linked_is nudge a b (Some t) s e = let p = pressed t s (presses nudge a b t) e in (p.0, subst (λ u. presses nudge a b u ≡ true) (some_same t s p.0) p.1)

asked_movable : (f g : Bool) (o : Option Bool) (s : Bool) → (if f then (if g then None else o) else o) ≡ Some s → o ≡ Some s
asked_movable true true o s e = cc
asked_movable true false o s e = e
asked_movable false g o s e = e

-- whether the edges are the same, and what that leaves
asked_by : (same next both s : Bool) → (if same then (if next then Some false else None) else (if both then Some true else None)) ≡ Some s →
    ((s ≡ false) × (same ≡ true)) ⊎ ((s ≡ true) × ((same ≡ false) × (both ≡ true)))
asked_by true true both s e = inl (cc, refl)
asked_by true false both s e = cc
asked_by false next true s e = inr (cc, (refl, refl))
asked_by false next false s e = cc

same_edge : (m n : ℕ) → (m == n) ≡ true → m ≡ n
same_edge m n e = grind (arith, nat_tests)

other_edge : (m n : ℕ) → (m == n) ≡ false → m ≢ n
other_edge m n e h = grind (arith, nat_tests)

not_same : (m n : ℕ) → m ≢ n → (m == n) ≡ false
not_same m n e = grind (arith, nat_tests)

-- a join links runs of one edge; a spaced rule runs of two, whose ranges overlap
pub joined_edges : (nudge : ℤ) (a b : Member) → link nudge a b ≡ Some false → a.run.edge ≡ b.run.edge
joined_edges nudge a b e =
    let movable = asked_movable a.fixed b.fixed (asks_movable a.run b.run) false ((linked_is nudge a b (asks a b) false e).0) in
    ⊎_elim (λ j. same_edge a.run.edge b.run.edge j.1) (λ x. cc) (asked_by (a.run.edge == b.run.edge) (is_second_next a.run b.run) (overlap a.run b.run) false movable)

record AreSpaced (nudge : ℤ) (a b : Member) : Type 0 where
  edges : a.run.edge ≢ b.run.edge
  both : overlap a.run b.run ≡ true
  presses : presses nudge a b true ≡ true

spaced_is : (nudge : ℤ) (a b : Member) → link nudge a b ≡ Some true → AreSpaced nudge a b
spaced_is nudge a b e =
    let is = linked_is nudge a b (asks a b) true e in
    let movable = asked_movable a.fixed b.fixed (asks_movable a.run b.run) true is.0 in
    ⊎_elim (λ j. cc) (λ x. record { edges = other_edge a.run.edge b.run.edge x.1.0; both = x.1.1; presses = is.1 })
    (asked_by (a.run.edge == b.run.edge) (is_second_next a.run b.run) (overlap a.run b.run) true movable)

pub spaced_edges : (nudge : ℤ) (a b : Member) → link nudge a b ≡ Some true → a.run.edge ≢ b.run.edge
spaced_edges nudge a b e = (spaced_is nudge a b e).edges

if_movable : (f g : Bool) (o : Option Bool) → f ≡ false → (if f then (if g then None else o) else o) ≡ o
if_movable true g o e = cc
if_movable false g o e = refl

spaced_asked : (a b : Member) → a.fixed ≡ false → a.run.edge ≢ b.run.edge → overlap a.run b.run ≡ true → asks a b ≡ Some true
spaced_asked a b movable differ both =
    if_movable a.fixed b.fixed (asks_movable a.run b.run) movable
    ∙ ap (λ t. if t then (if is_second_next a.run b.run then Some false else None) else (if overlap a.run b.run then Some true else None)) (not_same a.run.edge b.run.edge differ)
    ∙ ap (λ t. if t then Some true else None) both

wider : (a b c : Run) → a.lo ≤ℤ b.lo → b.hi ≤ℤ a.hi → overlap b c ≡ true → overlap a c ≡ true
wider a b c from to e = grind (arith, ints, clamps)

nearer : (nudge : ℤ) (a b c : Member) → b.high ≤ℤ a.high → presses nudge b c true ≡ true → presses nudge a c true ≡ true
nearer nudge a b c to e = grind (arith, ints)

-- what is linked to a run, is linked to one of another edge that hides it
pub past_hider : (nudge : ℤ) (members : List Member) (at run j : ℕ) → IsHidden nudge members at run → (member_at members run).run.edge ≢ (member_at members j).run.edge →
    link nudge (member_at members at) (member_at members j) ≡ Some true → link nudge (member_at members run) (member_at members j) ≡ Some true
past_hider nudge members at run j is differ e =
    let a = member_at members at in
    let b = member_at members run in
    let c = member_at members j in
    let was = spaced_is nudge a c e in
    let h = is.hides in
    ap (linked nudge b c) (spaced_asked b c h.movable differ (wider b.run a.run c.run h.from h.to was.both))
    ∙ ap (λ t. if t then Some true else None) (nearer nudge b a c h.high was.presses)

-- ---- the walk along one group

-- each run of the group before p is done
pub record IsWalked (groups : List ℕ) (at p : ℕ) (Done : ℕ → Type 0) : Type 0 where
  pub after : at < p
  pub own : p < length groups → AreTogether groups p at
  pub done : (j : ℕ) → at < j → j < p → j < length groups → AreTogether groups j at → Done j

walk_begins : (groups next : List ℕ) (at p : ℕ) (Done : ℕ → Type 0) → AreNext groups next → at < length groups → p ≡ get_or next at 0 → IsWalked groups at p Done
walk_begins groups next at p Done are h e = subst (λ q. IsWalked groups at q Done) (sym e) (record {
  after = are.after at h;
  own = λ in_p. are.own at h in_p;
  done = λ j less before in_j same. absurd (are.none at j less before in_j same);
})

walk_on : (groups next : List ℕ) (at p later q : ℕ) (Done Now : ℕ → Type 0) → AreNext groups next → IsWalked groups at p Done → IsPast next p later q → at < later → later < length groups →
    ((j : ℕ) → Done j → Now j) → Now later → IsWalked groups at q Now
walk_on groups next at p later q Done Now are is past behind h more here =
    cases_same p later
    (λ e.
    let together : AreTogether groups later at = subst (λ n. AreTogether groups n at) e (is.own (omega (arith, h, e))) in
    subst (λ n. IsWalked groups at n Now) (sym (past.moved e)) (record {
      after = omega (arith, behind, are.after later h);
      own = λ in_q. are.own later h in_q ∙ together;
      done = λ j less before in_j same. cases_below j later
          (λ earlier. more j (is.done j less (omega (arith, earlier, e)) in_j same))
          (λ from. cases_same j later (λ now. subst Now (sym now) here) (λ ne. absurd (are.none later j (omega arith) before in_j (same ∙ sym together))));
    }))
    (λ ne. subst (λ n. IsWalked groups at n Now) (sym (past.same ne)) (record { after = is.after; own = is.own; done = λ j less before in_j same. more j (is.done j less before in_j same) }))

next_above : (groups next : List ℕ) (p later q : ℕ) → AreNext groups next → IsPast next p later q → later ≤ p → later < length groups → later < q
next_above groups next p later q are past from h = cases_same p later
    (λ e. omega (arith, past.moved e, are.after later h))
    (λ ne. omega (arith, past.same ne, from))

least_of : (a e l : ℕ) → (nearest a e l ≤ a) × (nearest a e l ≤ e) × (nearest a e l ≤ l)
least_of a e l = (omega arith, omega arith, omega arith)

above_all : (m a e l : ℕ) → m < a → m < e → m < l → m < nearest a e l
above_all m a e l h i j = omega arith

-- ---- the look

-- a link of the kind from the run to that at j is kept, or has a middle
abbrev pub IsDone : ℤ → List Member → ℕ → Bool → List Rule → ℕ → Type 0
IsDone nudge members at s own j = link nudge (member_at members at) (member_at members j) ≡ Some s → Contains own (rule_of at j s) ⊎ HasMiddleLink nudge members at j

-- a run of the edge before the given one hides the run
pub record IsHider (nudge : ℤ) (members : List Member) (at before edge : ℕ) : Type 0 where
  pub run : ℕ
  pub behind : at < run
  pub below : run < before
  pub within : run < length members
  pub hidden : IsHidden nudge members at run
  pub edge_is : (member_at members run).run.edge ≡ edge

pub record IsLooking (nudge : ℤ) (members : List Member) (channels earlies lates : List ℕ) (old : List Rule) (at : ℕ) (rules : List Rule) (a e l : ℕ) (hider : Option ℕ) : Type 0 where
  pub own : List Rule
  pub is : rules ≡ old ++ own
  pub left : All (λ r. r.left ≡ at) own
  pub each : All (IsLinkRule nudge members) own
  pub rise : AllPairs (λ r s. r.right < s.right) own
  pub before : All (λ r. r.right < nearest a e l) own
  pub channel : IsWalked channels at a (IsDone nudge members at true own)
  pub early : IsWalked earlies at e (IsDone nudge members at false own)
  pub late : IsWalked lates at l (IsDone nudge members at false own)
  pub hides : (edge : ℕ) → hider ≡ Some edge → IsHider nudge members at (nearest a e l) edge

pub looking_begins : (nudge : ℤ) (members : List Member) (channel early late : List ℕ) (lead : LeadOn nudge members channel early late) (old : List Rule) (at a e l : ℕ) → at < length members →
    a ≡ get_or channel at 0 → e ≡ get_or early at 0 → l ≡ get_or late at 0 → IsLooking nudge members lead.channels lead.earlies lead.lates old at old a e l None
looking_begins nudge members channel early late lead old at a e l h is_a is_e is_l = record {
  own = [];
  is = sym (append-nil old);
  left = All-nil (λ (r : Rule). r.left ≡ at);
  each = All-nil (IsLinkRule nudge members);
  rise = λ i j d less in_j. absurd (omega (arith, in_j));
  before = All-nil (λ (r : Rule). r.right < nearest a e l);
  channel = walk_begins lead.channels channel at a (IsDone nudge members at true []) lead.is_channel (omega (arith, h, lead.all)) is_a;
  early = walk_begins lead.earlies early at e (IsDone nudge members at false []) lead.is_early (omega (arith, h, lead.all_early)) is_e;
  late = walk_begins lead.lates late at l (IsDone nudge members at false []) lead.is_late (omega (arith, h, lead.all_late)) is_l;
  hides = λ edge none. cc;
}

-- the own rules after a later run was tried
record IsStep (nudge : ℤ) (members : List Member) (old own made : List Rule) (at later : ℕ) : Type 0 where
  new : List Rule
  is : made ≡ old ++ new
  left : All (λ r. r.left ≡ at) new
  each : All (IsLinkRule nudge members) new
  rise : AllPairs (λ r s. r.right < s.right) new
  before : All (λ r. r.right ≤ later) new
  more : (s : Bool) (j : ℕ) → IsDone nudge members at s own j → IsDone nudge members at s new j
  here : (s : Bool) → IsDone nudge members at s new later

module _ (nudge : ℤ) (members : List Member) (old own rules : List Rule) (at later : ℕ) (is : rules ≡ old ++ own) (left : All (λ r. r.left ≡ at) own) (each : All (IsLinkRule nudge members) own)
    (rise : AllPairs (λ r s. r.right < s.right) own) (before : All (λ r. r.right < later) own) (behind : at < later) (h : later < length members) where
  same_own : (made : List Rule) → made ≡ rules → ((s : Bool) → IsDone nudge members at s own later) → IsStep nudge members old own made at later
  same_own made e here = record {
    new = own;
    is = e ∙ is;
    left = left;
    each = each;
    rise = rise;
    before = All-weaker (λ (r : Rule). r.right < later) (λ r. r.right ≤ later) (λ r l. omega (arith, l)) own before;
    more = λ s j d. d;
    here = here;
  }

  one_more : (s : Bool) (made : List Rule) → link nudge (member_at members at) (member_at members later) ≡ Some s → made ≡ rules ++ rule_of at later s ∷ [] → IsStep nudge members old own made at later
  one_more s made linked e =
      let r = rule_of at later s in
      record {
        new = own ++ r ∷ [];
        is = e ∙ ap (λ xs. xs ++ r ∷ []) is ∙ append_assoc old own (r ∷ []);
        left = All-push (λ (q : Rule). q.left ≡ at) own r left refl;
        each = All-push (IsLinkRule nudge members) own r each (record { forward = behind; within = h; linked = linked });
        rise = all_pairs_push (λ (q t : Rule). q.right < t.right) own r rise (λ k d l. before k d l);
        before = All-push (λ (q : Rule). q.right ≤ later) own r (All-weaker (λ (q : Rule). q.right < later) (λ q. q.right ≤ later) (λ q l. omega (arith, l)) own before) (omega arith);
        more = λ t j d l. ⊎_elim (λ has. inl (Contains-append_left own (r ∷ []) (rule_of at j t) has)) (λ mid. inr mid) (d l);
        here = λ t l. inl (subst (λ u. Contains (own ++ r ∷ []) (rule_of at later u)) (some_same s t (sym linked ∙ l)) (Contains-push own r));
      }

  middle_of : (k : ℕ) → length old ≤ k → k < length rules → LeadsTowards nudge members later (rule_at rules k) → HasMiddleLink nudge members at later
  middle_of k from in_k towards =
      let i = k - length old in
      let in_own : i < length own = omega (arith, from, in_k, ap length is, length-append old own) in
      let same : rule_at rules k ≡ rule_at own i = ap (λ xs. get_or xs k no_rule) is ∙ get_or-append_right old own (length old) k no_rule refl from in
      let to : LeadsTowards nudge members later (rule_at own i) = subst (LeadsTowards nudge members later) same towards in
      let r = rule_at own i in
      let l : r.left ≡ at = All-get_or (λ (q : Rule). q.left ≡ at) own i no_rule in_own left in
      let g : IsLinkRule nudge members r = All-get_or (IsLinkRule nudge members) own i no_rule in_own each in
      let b : r.right < later = All-get_or (λ (q : Rule). q.right < later) own i no_rule in_own before in
      record {
        middle = r.right;
        left = record { forward = omega (arith, g.forward, l); within = g.within; linked = ap (λ n. link nudge (member_at members n) (member_at members r.right)) (sym l) ∙ g.linked ∙ ap (λ s. Some s) to.spaced };
        right = record { forward = b; within = h; linked = to.linked };
      }

  tried_step : (first : ℕ) (made : List Rule) → first ≡ length old → IsTried nudge members first at later rules made → IsStep nudge members old own made at later
  tried_step first made count (IsTried.unlinked none e) = same_own made e (λ s l. (let no : None ≡ Some s = sym none ∙ l in cc))
  tried_step first made count (IsTried.kept s linked e) = one_more s made linked e
  tried_step first made count (IsTried.left_out k from in_k towards e) = same_own made e (λ s l. inr (middle_of k (omega (arith, from, count)) in_k towards))

pub looking_more : (nudge : ℤ) (members : List Member) (channel early late : List ℕ) (lead : LeadOn nudge members channel early late) (old rules made : List Rule) (first at a e l later b f m : ℕ) (hider : Option ℕ) →
    IsLooking nudge members lead.channels lead.earlies lead.lates old at rules a e l hider → first ≡ length old → later ≡ nearest a e l → later < length members → IsTried nudge members first at later rules made →
    IsPast channel a later b → IsPast early e later f → IsPast late l later m → IsLooking nudge members lead.channels lead.earlies lead.lates old at made b f m hider
looking_more nudge members channel early late lead old rules made first at a e l later b f m hider is count nearest_is h tried on_channel on_early on_late =
    let least = least_of a e l in
    let behind : at < later = omega (arith, nearest_is, above_all at a e l is.channel.after is.early.after is.late.after) in
    let in_channel : later < length lead.channels = omega (arith, h, lead.all) in
    let in_early : later < length lead.earlies = omega (arith, h, lead.all_early) in
    let in_late : later < length lead.lates = omega (arith, h, lead.all_late) in
    let onward : later < nearest b f m = above_all later b f m
    (next_above lead.channels channel a later b lead.is_channel on_channel (omega (arith, nearest_is, least.0)) in_channel)
    (next_above lead.earlies early e later f lead.is_early on_early (omega (arith, nearest_is, least.1)) in_early)
    (next_above lead.lates late l later m lead.is_late on_late (omega (arith, nearest_is, least.2)) in_late) in
    let step = tried_step nudge members old is.own rules at later is.is is.left is.each is.rise
    (All-weaker (λ (r : Rule). r.right < nearest a e l) (λ r. r.right < later) (λ r less. omega (arith, less, nearest_is)) is.own is.before) behind h first made count tried in
    record {
      own = step.new;
      is = step.is;
      left = step.left;
      each = step.each;
      rise = step.rise;
      before = All-weaker (λ (r : Rule). r.right ≤ later) (λ r. r.right < nearest b f m) (λ r less. omega (arith, less, onward)) step.new step.before;
      channel = walk_on lead.channels channel at a later b (IsDone nudge members at true is.own) (IsDone nudge members at true step.new) lead.is_channel is.channel on_channel behind in_channel (step.more true) (step.here true);
      early = walk_on lead.earlies early at e later f (IsDone nudge members at false is.own) (IsDone nudge members at false step.new) lead.is_early is.early on_early behind in_early (step.more false) (step.here false);
      late = walk_on lead.lates late at l later m (IsDone nudge members at false is.own) (IsDone nudge members at false step.new) lead.is_late is.late on_late behind in_late (step.more false) (step.here false);
      hides = λ edge so. (let was = is.hides edge so in record {
        run = was.run;
        behind = was.behind;
        below = omega (arith, was.below, nearest_is, onward);
        within = was.within;
        hidden = was.hidden;
        edge_is = was.edge_is;
      });
    }

-- the walk goes on past what was tried
pub onward : (nudge : ℤ) (members : List Member) (channel early late : List ℕ) (lead : LeadOn nudge members channel early late) (a e l later b f m : ℕ) → later ≡ nearest a e l → later < length members →
    IsPast channel a later b → IsPast early e later f → IsPast late l later m → later < nearest b f m
onward nudge members channel early late lead a e l later b f m nearest_is h on_channel on_early on_late =
    let least = least_of a e l in
    above_all later b f m
    (next_above lead.channels channel a later b lead.is_channel on_channel (omega (arith, nearest_is, least.0)) (omega (arith, h, lead.all)))
    (next_above lead.earlies early e later f lead.is_early on_early (omega (arith, nearest_is, least.1)) (omega (arith, h, lead.all_early)))
    (next_above lead.lates late l later m lead.is_late on_late (omega (arith, nearest_is, least.2)) (omega (arith, h, lead.all_late)))

-- a run that hides the run is kept in mind
pub looking_hidden : (nudge : ℤ) (members : List Member) (channels earlies lates : List ℕ) (old rules : List Rule) (at a e l later : ℕ) (hider now : Option ℕ) →
    IsLooking nudge members channels earlies lates old at rules a e l hider → at < later → later < nearest a e l → later < length members →
    ((now ≡ hider) ⊎ ((now ≡ Some (member_at members later).run.edge) × IsHidden nudge members at later)) → IsLooking nudge members channels earlies lates old at rules a e l now
looking_hidden nudge members channels earlies lates old rules at a e l later hider now is behind below h either = record {
  own = is.own;
  is = is.is;
  left = is.left;
  each = is.each;
  rise = is.rise;
  before = is.before;
  channel = is.channel;
  early = is.early;
  late = is.late;
  hides = λ edge so. ⊎_elim
      (λ kept. is.hides edge (sym kept ∙ so))
      (λ new. record { run = later; behind = behind; below = below; within = h; hidden = new.1; edge_is = (let same : Some (member_at members later).run.edge ≡ Some edge = sym new.0 ∙ so in cc) })
      either;
}

-- one of two runs of different edges that hide the run is a middle for each run behind them
closed_done : (nudge : ℤ) (members : List Member) (own : List Rule) (at before edge later j : ℕ) → IsHider nudge members at before edge → IsHidden nudge members at later → edge ≢ (member_at members later).run.edge →
    at < later → later < length members → before ≤ j → later < j → j < length members → IsDone nudge members at true own j
closed_done nudge members own at before edge later j first second differ behind within from on h linked =
    let c = member_at members j in
    let by : (run : ℕ) → at < run → run < j → run < length members → IsHidden nudge members at run → (member_at members run).run.edge ≢ c.run.edge → HasMiddleLink nudge members at j =
    λ run less below in_run hidden ne. record {
      middle = run;
      left = record { forward = less; within = in_run; linked = hidden.linked };
      right = record { forward = below; within = h; linked = past_hider nudge members at run j hidden ne linked };
    } in
    inr (cases_same (member_at members later).run.edge c.run.edge
    (λ same. by first.run first.behind (omega (arith, first.below, from)) first.within first.hidden (λ e. differ (sym first.edge_is ∙ e ∙ sym same)))
    (λ ne. by later behind on within second ne))

looking_closed : (nudge : ℤ) (members : List Member) (channels earlies lates : List ℕ) (old rules : List Rule) (at a e l later edge : ℕ) (hider : Option ℕ) →
    IsLooking nudge members channels earlies lates old at rules a e l hider → IsHidden nudge members at later → at < later → later < nearest a e l → later < length members → length channels ≡ length members →
    hider ≡ Some edge → edge ≢ (member_at members later).run.edge → IsLooking nudge members channels earlies lates old at rules (length members) e l hider
looking_closed nudge members channels earlies lates old rules at a e l later edge hider is hidden behind below h count so differ =
    let first = is.hides edge so in
    let least = least_of a e l in
    let end = length members in
    record {
      own = is.own;
      is = is.is;
      left = is.left;
      each = is.each;
      rise = is.rise;
      before = λ k d in_k. (let b = is.before k d in_k in above_all (get_or is.own k d).right end e l ((is.each k d in_k).within) (omega (arith, b, least.1)) (omega (arith, b, least.2)));
      channel = record {
        after = omega (arith, behind, h);
        own = λ in_end. absurd (omega (arith, in_end, count));
        done = λ j less before in_j same. cases_below j a
            (λ earlier. is.channel.done j less earlier in_j same)
            (λ from. closed_done nudge members is.own at (nearest a e l) edge later j first hidden differ behind h (omega (arith, least.0, from)) (omega (arith, below, least.0, from)) (omega (arith, in_j, count)));
      };
      early = is.early;
      late = is.late;
      hides = λ x e'. (let was = is.hides x e' in record {
        run = was.run;
        behind = was.behind;
        below = above_all was.run end e l was.within (omega (arith, was.below, least.1)) (omega (arith, was.below, least.2));
        within = was.within;
        hidden = was.hidden;
        edge_is = was.edge_is;
      });
    }

-- a turn of the look
module _ (nudge : ℤ) (members : List Member) (channel early late : List ℕ) (lead : LeadOn nudge members channel early late) (old rules made : List Rule) (first at a e l later b f m : ℕ) (hider now : Option ℕ) (closed : Bool)
    (is : IsLooking nudge members lead.channels lead.earlies lead.lates old at rules a e l hider) (count : first ≡ length old) (nearest_is : later ≡ nearest a e l) (h : later < length members)
    (tried : IsTried nudge members first at later rules made) (on_channel : IsPast channel a later b) (on_early : IsPast early e later f) (on_late : IsPast late l later m) (closing : IsClosing nudge members at later hider closed now) where
  pub goes_on : later < nearest b f m
  goes_on = onward nudge members channel early late lead a e l later b f m nearest_is h on_channel on_early on_late

  behind : at < later
  behind = omega (arith, nearest_is, above_all at a e l is.channel.after is.early.after is.late.after)

  turned : IsLooking nudge members lead.channels lead.earlies lead.lates old at made b f m hider
  turned = looking_more nudge members channel early late lead old rules made first at a e l later b f m hider is count nearest_is h tried on_channel on_early on_late

  pub turn_open : IsLooking nudge members lead.channels lead.earlies lead.lates old at made b f m now
  turn_open = looking_hidden nudge members lead.channels lead.earlies lead.lates old made at b f m later hider now turned behind goes_on h closing.kept

  pub goes_on_closed : later < nearest (length members) f m
  goes_on_closed = let least = least_of b f m in above_all later (length members) f m h (omega (arith, goes_on, least.1)) (omega (arith, goes_on, least.2))

  pub turn_closed : closed ≡ true → IsLooking nudge members lead.channels lead.earlies lead.lates old at made (length members) f m now
  turn_closed shut =
      let other = closing.other shut in
      looking_hidden nudge members lead.channels lead.earlies lead.lates old made at (length members) f m later hider now
      (looking_closed nudge members lead.channels lead.earlies lead.lates old made at b f m later other.0 hider turned (closing.hidden shut) behind goes_on h lead.all other.1 other.2)
      behind goes_on_closed h closing.kept

-- where the look stands
pub looking_behind : (nudge : ℤ) (members : List Member) (channels earlies lates : List ℕ) (old rules : List Rule) (at a e l : ℕ) (hider : Option ℕ) →
    IsLooking nudge members channels earlies lates old at rules a e l hider → at < nearest a e l
looking_behind nudge members channels earlies lates old rules at a e l hider is = above_all at a e l is.channel.after is.early.after is.late.after

pub looking_within : (nudge : ℤ) (members : List Member) (channels earlies lates : List ℕ) (old rules : List Rule) (at a e l : ℕ) (hider : Option ℕ) →
    IsLooking nudge members channels earlies lates old at rules a e l hider → All (λ r. r.right < length members) old → All (λ r. r.right < length members) rules
looking_within nudge members channels earlies lates old rules at a e l hider is all =
    All-same (λ (r : Rule). r.right < length members) rules (old ++ is.own) is.is
    (All-append (λ (r : Rule). r.right < length members) old is.own all (All-weaker (IsLinkRule nudge members) (λ r. r.right < length members) (λ r of. of.within) is.own is.each))

kept_or : (nudge : ℤ) (members : List Member) (own : List Rule) (r : Rule) (at : ℕ) → r.left ≡ at → Contains own (rule_of at r.right r.spaced) ⊎ HasMiddleLink nudge members at r.right → IsKeptOr nudge members own r
kept_or nudge members own r at start d = subst (λ n. Contains own (rule_of n r.right r.spaced) ⊎ HasMiddleLink nudge members n r.right) (sym start) d

-- where the look ends, each link of the run is done
pub looking_ends : (nudge : ℤ) (members : List Member) (channel early late : List ℕ) (lead : LeadOn nudge members channel early late) (old rules : List Rule) (at a e l : ℕ) (hider : Option ℕ) →
    IsLooking nudge members lead.channels lead.earlies lead.lates old at rules a e l hider →
    ((j : ℕ) → nearest a e l ≤ j → j < length members → link nudge (member_at members at) (member_at members j) ≡ None) → AreKeptFrom nudge members old at rules
looking_ends nudge members channel early late lead old rules at a e l hider is none = record {
  own = is.own;
  is = is.is;
  left = is.left;
  each = is.each;
  rise = is.rise;
  whole = λ r of start.
      let least = least_of a e l in
      let j = r.right in
      let s = r.spaced in
      let less : at < j = omega (arith, of.forward, start) in
      let linked : link nudge (member_at members at) (member_at members j) ≡ Some s = ap (λ n. link nudge (member_at members n) (member_at members j)) (sym start) ∙ of.linked in
      let linking : IsLink nudge members at j = record { forward = less; within = of.within; linked = subst IsSome (sym linked) refl } in
      let far : nearest a e l ≤ j → ⊥ = λ from. (let no : None ≡ Some s = sym (none j from of.within) ∙ linked in cc) in
      let near : j < nearest a e l = cases_below j (nearest a e l) (λ b. b) (λ from. absurd (far from)) in
      kept_or nudge members is.own r at start (elim s as (λ t. link nudge (member_at members at) (member_at members j) ≡ Some t → Contains is.own (rule_of at j t) ⊎ HasMiddleLink nudge members at j) [
        | true ↦ λ e. is.channel.done j less (omega (arith, near, least.0)) (omega (arith, of.within, lead.all)) (sym (lead.apart at j linking (spaced_edges nudge (member_at members at) (member_at members j) e))) e
        | false ↦ λ e. ⊎_elim
            (λ t. is.early.done j less (omega (arith, near, least.1)) (omega (arith, of.within, lead.all_early)) (sym t) e)
            (λ t. is.late.done j less (omega (arith, near, least.2)) (omega (arith, of.within, lead.all_late)) (sym t) e)
            (lead.same at j linking (joined_edges nudge (member_at members at) (member_at members j) e))
      ] linked);
}
