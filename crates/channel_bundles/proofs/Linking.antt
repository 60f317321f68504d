-- How the links of one run after another are joined, and listed as rules.
use Rattle.std.proofs.Common.{◌≡◌, ◌≢◌, ℕ, suc, ◌+◌, ◌<◌, ◌≤◌, ℤ, None, List, [], ◌∷◌, ◌++◌, length, get_or, drop, inl, inr, refl, sym, ap, subst, ◌∙◌, arith, add-one, append_assoc, true≢false}
use Rattle.std.specs.Prelude.{IsSome}
use Rattle.std.proofs.lemmas.List.{drop_more}
use Rattle.separation_model.specs.declared.bundle.Rule.{Rule}
use Rattle.channel_bundles.specs.declared.member.Member.{Member}
use Rattle.channel_bundles.specs.Classes.{AreClasses, Connected, FollowsLinks, IsForest, LeadsUp, LeadsUpOr}
use Rattle.channel_bundles.specs.Groups.{AreNext, AreTogether}
use Rattle.channel_bundles.specs.Links.{IsLink, link, member_at, no_member, rule_if, rules_after, rules_from}
use Rattle.channel_bundles.proofs.Listing.{classes_by}
use Rattle.channel_bundles.proofs.Trees.{connected_by, connected_link, cases_same, cases_below}

unlinked : (nudge : ℤ) (members : List Member) (i j : ℕ) → link nudge (member_at members i) (member_at members j) ≡ None → IsLink nudge members i j → ⊥
unlinked nudge members i j none l = true≢false (sym (subst IsSome none l.linked))

-- the run's links to the runs of its group before `later` are joined
pub record IsLinking (nudge : ℤ) (members : List Member) (next old above : List ℕ) (at later : ℕ) : Type 0 where
  pub forest : IsForest above
  pub count : length above ≡ length members
  pub kept : (i j : ℕ) → LeadsUp old i j → Connected (LeadsUp above) i j
  pub forward : at < later
  pub own : (groups : List ℕ) → AreNext groups next → later < length groups → AreTogether groups later at
  pub joined : (groups : List ℕ) (j : ℕ) → AreNext groups next → AreTogether groups at j → j < later → IsLink nudge members at j → Connected (LeadsUp above) at j
  pub only : FollowsLinks (IsLink nudge members) old → FollowsLinks (IsLink nudge members) above

pub linking_begins : (nudge : ℤ) (members : List Member) (next old : List ℕ) (at later : ℕ) → IsForest old → length old ≡ length members → length next ≡ length members → at < length members →
    later ≡ get_or next at 0 → at < later → IsLinking nudge members next old old at later
linking_begins nudge members next old at later forest count full h is_later forward = record {
  forest = forest;
  count = count;
  kept = λ i j up. connected_link i j up;
  forward = forward;
  own = λ groups are in_later. subst (λ n. AreTogether groups n at) (sym is_later) (are.own at (omega (arith, are.count, full, h)) (omega (arith, in_later, is_later)));
  joined = λ groups j are same before l. absurd (are.none at j l.forward (omega (arith, before, is_later)) (omega (arith, are.count, full, l.within)) (sym same));
  only = λ follows. follows;
}

-- the next run of the group after `later`
past : (nudge : ℤ) (members : List Member) (next above : List ℕ) (at later : ℕ) → length next ≡ length members → later < length members →
    ((groups : List ℕ) → AreNext groups next → later < length groups → AreTogether groups later at) →
    ((groups : List ℕ) (j : ℕ) → AreNext groups next → AreTogether groups at j → j < later → IsLink nudge members at j → Connected (LeadsUp above) at j) →
    (IsLink nudge members at later → Connected (LeadsUp above) at later) →
    (groups : List ℕ) (j : ℕ) → AreNext groups next → AreTogether groups at j → j < get_or next later 0 → IsLink nudge members at j → Connected (LeadsUp above) at j
past nudge members next above at later full h own joined here groups j are same before l = cases_below j later
    (λ less. joined groups j are same less l)
    (λ from. cases_same j later
    (λ e. subst (λ n. Connected (LeadsUp above) at n) (sym e) (here (subst (λ n. IsLink nudge members at n) e l)))
    (λ ne. absurd (are.none later j (omega arith) before (omega (arith, are.count, full, l.within)) (sym same ∙ sym (own groups are (omega (arith, are.count, full, h)))))))

own_past : (members : List Member) (next : List ℕ) (at later : ℕ) → length next ≡ length members → later < length members →
    ((groups : List ℕ) → AreNext groups next → later < length groups → AreTogether groups later at) →
    (groups : List ℕ) → AreNext groups next → get_or next later 0 < length groups → AreTogether groups (get_or next later 0) at
own_past members next at later full h own groups are in_next =
    let in_later : later < length groups = omega (arith, are.count, full, h) in
    are.own later in_later in_next ∙ own groups are in_later

-- the next run is not linked
pub linking_past : (nudge : ℤ) (members : List Member) (next old above : List ℕ) (at later : ℕ) → IsLinking nudge members next old above at later → length next ≡ length members → later < length members →
    later < get_or next later 0 → link nudge (member_at members at) (member_at members later) ≡ None → IsLinking nudge members next old above at (get_or next later 0)
linking_past nudge members next old above at later is full h after none = record {
  forest = is.forest;
  count = is.count;
  kept = is.kept;
  forward = omega (arith, is.forward, after);
  own = own_past members next at later full h is.own;
  joined = past nudge members next above at later full h is.own is.joined (λ l. absurd (unlinked nudge members at later none l));
  only = is.only;
}

-- the next run is linked, and its tree is joined
pub linking_more : (nudge : ℤ) (members : List Member) (next old above made : List ℕ) (at later : ℕ) → IsLinking nudge members next old above at later → length next ≡ length members → later < length members →
    later < get_or next later 0 → IsLink nudge members at later →
    IsForest made → length made ≡ length above → ((i j : ℕ) → LeadsUp above i j → Connected (LeadsUp made) i j) → Connected (LeadsUp made) at later →
    ((i j : ℕ) → LeadsUp made i j → Connected (LeadsUpOr above at later) i j) → IsLinking nudge members next old made at (get_or next later 0)
linking_more nudge members next old above made at later is full h after l forest count kept ends only = record {
  forest = forest;
  count = count ∙ is.count;
  kept = λ i j up. connected_by kept i j (is.kept i j up);
  forward = omega (arith, is.forward, after);
  own = own_past members next at later full h is.own;
  joined = past nudge members next made at later full h is.own (λ groups j are same before m. connected_by kept at j (is.joined groups j are same before m)) (λ m. ends);
  only = λ follows i j up. connected_by (λ a b either. elim either as (λ _. Connected (IsLink nudge members) a b) [
    | inl one ↦ is.only follows a b one
    | inr pair ↦ subst (λ n. Connected (IsLink nudge members) n b) (sym pair.0) (subst (λ n. Connected (IsLink nudge members) at n) (sym pair.1) (connected_link at later l))
  ]) i j (only i j up);
}

-- all links of the run in its group are joined
pub linking_ends : (nudge : ℤ) (members : List Member) (next old above : List ℕ) (at later : ℕ) → IsLinking nudge members next old above at later →
    ((j : ℕ) → later ≤ j → j < length members → link nudge (member_at members at) (member_at members j) ≡ None) →
    (groups : List ℕ) (j : ℕ) → AreNext groups next → AreTogether groups at j → IsLink nudge members at j → Connected (LeadsUp above) at j
linking_ends nudge members next old above at later is none groups j are same l =
    cases_below j later (λ before. is.joined groups j are same before l) (λ behind. absurd (unlinked nudge members at j (none j behind l.within) l))

-- the links of the runs before `at` are joined
pub record AreLinked (nudge : ℤ) (members : List Member) (above : List ℕ) (at : ℕ) : Type 0 where
  pub forest : IsForest above
  pub count : length above ≡ length members
  pub joined : (i j : ℕ) → i < at → IsLink nudge members i j → Connected (LeadsUp above) i j
  pub only : FollowsLinks (IsLink nudge members) above

pub linked_begins : (nudge : ℤ) (members : List Member) (above : List ℕ) → length above ≡ length members → ((k : ℕ) → k < length above → get_or above k 0 ≡ k) → AreLinked nudge members above 0
linked_begins nudge members above count own = record {
  forest = λ k h. omega (arith, own k h);
  count = count;
  joined = λ i j before l. absurd (omega arith);
  only = λ i j up. subst (λ n. Connected (IsLink nudge members) i n) (sym (own i up.0) ∙ up.1) (Connected.same i);
}

pub linked_more : (nudge : ℤ) (members : List Member) (above made : List ℕ) (at : ℕ) → AreLinked nudge members above at → IsForest made → length made ≡ length members →
    ((i j : ℕ) → LeadsUp above i j → Connected (LeadsUp made) i j) → ((j : ℕ) → IsLink nudge members at j → Connected (LeadsUp made) at j) →
    (FollowsLinks (IsLink nudge members) above → FollowsLinks (IsLink nudge members) made) → AreLinked nudge members made (at + 1)
linked_more nudge members above made at are forest count kept joined only = record {
  forest = forest;
  count = count;
  joined = λ i j before l. cases_same i at
      (λ e. subst (λ n. Connected (LeadsUp made) n j) (sym e) (joined j (subst (λ n. IsLink nudge members n j) e l)))
      (λ ne. connected_by kept i j (are.joined i j (omega arith) l));
  only = only are.only;
}

-- the links of a run are those of its group of different edges, and those of its edge
pub linked_more_by : (nudge : ℤ) (members : List Member) (above first made : List ℕ) (at : ℕ) (channels near edges own : List ℕ) → AreLinked nudge members above at →
    IsForest made → length made ≡ length members → ((i j : ℕ) → LeadsUp above i j → Connected (LeadsUp first) i j) → ((i j : ℕ) → LeadsUp first i j → Connected (LeadsUp made) i j) →
    ((groups : List ℕ) (j : ℕ) → AreNext groups near → AreTogether groups at j → IsLink nudge members at j → Connected (LeadsUp first) at j) →
    ((groups : List ℕ) (j : ℕ) → AreNext groups own → AreTogether groups at j → IsLink nudge members at j → Connected (LeadsUp made) at j) →
    (FollowsLinks (IsLink nudge members) above → FollowsLinks (IsLink nudge members) first) → (FollowsLinks (IsLink nudge members) first → FollowsLinks (IsLink nudge members) made) →
    AreNext channels near → AreNext edges own →
    ((i j : ℕ) → IsLink nudge members i j → (member_at members i).run.edge ≢ (member_at members j).run.edge → AreTogether channels i j) →
    ((i j : ℕ) → IsLink nudge members i j → (member_at members i).run.edge ≡ (member_at members j).run.edge → AreTogether edges i j) → AreLinked nudge members made (at + 1)
linked_more_by nudge members above first made at channels near edges own are forest count kept_first kept joined_near joined_own only_first only are_near are_own spaced same =
    linked_more nudge members above made at are forest count (λ i j up. connected_by kept i j (kept_first i j up))
    (λ j l. cases_same (member_at members at).run.edge (member_at members j).run.edge
    (λ e. joined_own edges j are_own (same at j l e) l)
    (λ ne. connected_by kept at j (joined_near channels j are_near (spaced at j l ne) l)))
    (λ follows. only (only_first follows))

-- one rule more of the run's
pub rule_more : (nudge : ℤ) (at later : ℕ) (m : Member) (members : List Member) (rules made all : List Rule) → later < length members →
    rules ++ rules_from nudge at m later (drop later members) ≡ all → made ≡ rules ++ rule_if at later (link nudge m (member_at members later)) →
    made ++ rules_from nudge at m (later + 1) (drop (later + 1) members) ≡ all
rule_more nudge at later m members rules made all h so is_made =
    ap (λ xs. xs ++ rules_from nudge at m (later + 1) (drop (later + 1) members)) is_made
    ∙ append_assoc rules (rule_if at later (link nudge m (member_at members later))) (rules_from nudge at m (later + 1) (drop (later + 1) members))
    ∙ ap (λ n. rules ++ (rule_if at later (link nudge m (member_at members later)) ++ rules_from nudge at m n (drop (later + 1) members))) (add-one later)
    ∙ ap (λ ms. rules ++ rules_from nudge at m later ms) (sym (drop_more members later no_member h))
    ∙ so

-- no rule where no run is linked
pub no_rules : (nudge : ℤ) (at j : ℕ) (m : Member) (ms : List Member) → ((k : ℕ) → k < length ms → link nudge m (get_or ms k no_member) ≡ None) → rules_from nudge at m j ms ≡ []
no_rules nudge at j m [] none = refl
no_rules nudge at j m (s ∷ rest) none =
    ap (λ o. rule_if at j o ++ rules_from nudge at m (suc j) rest) (none 0 (omega arith)) ∙ no_rules nudge at (suc j) m rest (λ k h. none (suc k) (omega arith))

-- the rules of one run more
pub rules_more : (nudge : ℤ) (at : ℕ) (members : List Member) (rules made all : List Rule) → at < length members → rules ++ rules_after nudge at (drop at members) ≡ all →
    made ≡ rules ++ rules_from nudge at (member_at members at) (at + 1) (drop (at + 1) members) → made ++ rules_after nudge (at + 1) (drop (at + 1) members) ≡ all
rules_more nudge at members rules made all h so is_made =
    let m = member_at members at in
    let rest = drop (at + 1) members in
    ap (λ xs. xs ++ rules_after nudge (at + 1) rest) is_made
    ∙ append_assoc rules (rules_from nudge at m (at + 1) rest) (rules_after nudge (at + 1) rest)
    ∙ ap (λ n. rules ++ (rules_from nudge at m n rest ++ rules_after nudge n rest)) (add-one at)
    ∙ ap (λ ms. rules ++ rules_after nudge at ms) (sym (drop_more members at no_member h))
    ∙ so

-- the trees are the classes
pub linked_classes : (nudge : ℤ) (members : List Member) (above : List ℕ) (at : ℕ) (lists : List (List ℕ)) → AreLinked nudge members above at → length members ≤ at →
    AreClasses (Connected (LeadsUp above)) (length above) lists → AreClasses (Connected (IsLink nudge members)) (length members) lists
linked_classes nudge members above at lists are whole is =
    classes_by (length members) lists are.only (λ i j l. are.joined i j (omega (arith, l.forward, l.within)) l)
    (subst (λ n. AreClasses (Connected (LeadsUp above)) n lists) are.count is)
