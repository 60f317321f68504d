-- The rule is appended, or a middle was found.
use Rattle.std.proofs.Common.{ℕ, ◌<◌, ◌≤◌, ℤ, List, length, refl, sym, subst, ◌∙◌, rules, w64, FitsSigned}
use Rattle.std.proofs.lemmas.Int.{to_z-of_z}
use Rattle.separation_model.specs.declared.bundle.Rule.{Rule}
use Rattle.separation_model.specs.Bundle.{rule_at}
use Rattle.channel_bundles.specs.declared.member.Member.{Member}
use Rattle.channel_bundles.specs.Kept.{IsTried, LeadsTowards}
use Rattle.channel_bundles.proofs.few.push_if_needed.Goals as goal

abbrev Middle : ℤ → List Member → ℕ → ℕ → List Rule → Type 0
Middle nudge members first later rules = (k : ℕ) × (first ≤ k) × (k < length rules) × LeadsTowards nudge members later (rule_at rules k)

left_out : (nudge : ℤ) (members : List Member) (first at later : ℕ) (old : List Rule) → Middle nudge members first later old → IsTried nudge members first at later old old
left_out nudge members first at later old (k, from, in_k, to) = IsTried.left_out k from in_k to refl

pub returns-then-has_middle : goal.returns-then-has_middle
returns-then-has_middle c =
    let fits : FitsSigned w64 c.args.nudge = search rules in
    let found = simp to_z-of_z at (c.if-has_middle.ensures refl) in
    left_out c.args.nudge c.args.members.now c.args.first c.args.at c.args.later c.args.rules.now.items (subst (Middle c.args.nudge c.args.members.now c.args.first c.args.later) c.deref.ensures.value found)

pub returns : goal.returns
returns c =
    let fits : FitsSigned w64 c.args.nudge = search rules in
    let value = simp to_z-of_z at c.link.ensures in
    IsTried.kept c.in-Some.spaced (sym value ∙ c.in-Some.is) c.in_ok-push.ensures.items
