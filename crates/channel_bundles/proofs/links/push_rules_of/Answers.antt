-- Each later run has its rule or none; past the stop none has one.
use Rattle.std.proofs.Common.{◌≡◌, ℕ, ◌+◌, ◌<◌, ◌≤◌, ℤ, pos, ◌+ℤ◌, ◌≤ℤ◌, Bool, Option, None, List, ◌++◌, length, get_or, drop, refl, sym, ap, ◌∙◌, arith, rules, w64, FitsSigned}
use Rattle.std.proofs.lemmas.Int.{to_z-of_z}
use Rattle.std.proofs.lemmas.List.{append-nil, length-drop, get_or-drop}
use Rattle.separation_model.specs.declared.bundle.Rule.{Rule}
use Rattle.channel_bundles.specs.declared.member.Member.{Member}
use Rattle.channel_bundles.specs.Links.{link, member_at, no_member, rule_if, rules_from}
use Rattle.channel_bundles.proofs.Clear.{not_linked}
use Rattle.channel_bundles.proofs.Linking.{rule_more, no_rules}
use Rattle.channel_bundles.proofs.links.push_rules_of.Goals as goal
use Rattle.channel_bundles.proofs.links.push_rules_of.Goals.{in-Some+in_ok-push, in_default}

pub is_clear_of-requires-clause-member : goal.is_clear_of-requires-clause-member
is_clear_of-requires-clause-member c = c.requires.members c.args.at _ c.requires.at

pub link-requires-clause-member : goal.link-requires-clause-member
link-requires-clause-member c = c.requires.members c.args.at _ c.requires.at

pub loop-later-preserved : goal.loop-later-preserved
loop-later-preserved c =
    let fits : FitsSigned w64 c.args.nudge = search rules in
    let value = simp to_z-of_z at c.link.ensures in
    let is = simp to_z-of_z at c.loop-later.invariant in
    let later = c.loop-later.later in
    let members = c.args.members.now in
    let m = member_at members c.args.at in
    let rule : Option Bool → List Rule = λ o. rule_if c.args.at later o in
    let old = c.loop-later.rules.items in
    let all = c.args.rules.now.items ++ rules_from c.args.nudge c.args.at m (c.args.at + 1) (drop (c.args.at + 1) members) in
    elim c.match-link.branch [
      | in-Some+in_ok-push w ↦
          let made = ap (λ v. v.items) w.rules-is ∙ w.in_ok-push.ensures.items ∙ ap (λ xs. old ++ xs) (sym (ap rule (sym value ∙ w.in-Some.is))) in
          simp to_z-of_z (rule_more c.args.nudge c.args.at later m members old _ all c.loop-later-test.true is made)
      | in_default w ↦
          let made = ap (λ v. v.items) w.rules-is ∙ sym (append-nil old) ∙ ap (λ xs. old ++ xs) (sym (ap rule (sym value ∙ w.in_default.is))) in
          simp to_z-of_z (rule_more c.args.nudge c.args.at later m members old _ all c.loop-later-test.true is made)
    ]

-- where the look stops, nothing is left
ends : (nudge : ℤ) (at later : ℕ) (m : Member) (members : List Member) (rules all : List Rule) → rules ++ rules_from nudge at m later (drop later members) ≡ all →
    ((j : ℕ) → later ≤ j → j < length members → link nudge m (member_at members j) ≡ None) → rules ≡ all
ends nudge at later m members rules all so none =
    sym (append-nil rules)
    ∙ ap (λ xs. rules ++ xs) (sym (no_rules nudge at later m (drop later members) (λ k h.
    ap (link nudge m) (get_or-drop later members k no_member) ∙ none (later + k) (omega arith) (omega (arith, length-drop later members)))))
    ∙ so

pub returns-then-is_clear_of : goal.returns-then-is_clear_of
returns-then-is_clear_of c =
    let fits : FitsSigned w64 c.args.nudge = search rules in
    let is = simp to_z-of_z at c.loop-later.invariant in
    let members = c.args.members.now in
    let m = member_at members c.args.at in
    let near : FitsSigned w64 (get_or c.args.clear.now c.loop-later.later (pos 0)) = search rules in
    let apart = c.if-is_clear_of.ensures.0 refl in
    let far : (m.high +ℤ c.args.nudge) ≤ℤ get_or c.args.clear.now c.loop-later.later (pos 0) = simp to_z-of_z at apart in
    ends c.args.nudge c.args.at c.loop-later.later m members c.loop-later.rules.items _ is
    (λ j from h. not_linked c.args.nudge members c.args.clear.now m c.loop-later.later j c.requires.clear c.requires.nudge from h far)

pub returns : goal.returns
returns c =
    let fits : FitsSigned w64 c.args.nudge = search rules in
    let is = simp to_z-of_z at c.loop-later.invariant in
    ends c.args.nudge c.args.at c.loop-later.later (member_at c.args.members.now c.args.at) c.args.members.now c.loop-later.rules.items _ is (λ j from h. absurd (omega (arith, c.loop-later-test.false)))
