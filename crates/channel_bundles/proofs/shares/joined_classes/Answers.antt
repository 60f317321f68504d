-- One rule after another is joined; the trees are then the classes.
use Rattle.std.proofs.Common.{ℕ, List, map, length, get_or, Result, Ok, Err}
use Rattle.std.specs.Prelude.{◌≤◌, IfOk}
use Rattle.std.specs.declared.alloc.AllocError.{AllocError}
use Rattle.std.proofs.lemmas.List.{get_or_default}
use Rattle.separation_model.specs.declared.bundle.Rule.{Rule}
use Rattle.separation_model.specs.Bundle.{no_rule}
use Rattle.channel_bundles.specs.declared.forest.Classes.{Classes}
use Rattle.channel_bundles.specs.Classes.{AreClasses, Connected, HasRule, LeadsUp}
use Rattle.channel_bundles.proofs.Sharing.{AreJoined, joined_all, joined_more, joined_none}
use Rattle.channel_bundles.proofs.shares.joined_classes.Goals as goal

pub loop-rule-init : goal.loop-rule-init
loop-rule-init c = joined_none c.args.rules.now c.args.count _ c.in_ok-forest.ensures.count c.in_ok-forest.ensures.apart

pub loop-rule-preserved : goal.loop-rule-preserved
loop-rule-preserved c =
    let rules = c.args.rules.now in
    let i = c.loop-rule.rule-index in
    let r = get_or rules i no_rule in
    joined_more rules c.args.count c.loop-rule.forest.above.items c.join.new.self.above.items i r c.loop-rule.invariant c.loop-rule-test.true (get_or_default rules i no_rule r c.loop-rule-test.true)
    c.join.ensures.forest c.join.ensures.count c.join.ensures.kept c.join.ensures.joined c.join.ensures.only

joined : (rules : List Rule) (count : ℕ) (above : List ℕ) (i : ℕ) → AreJoined rules count above i → length rules ≤ i → (r : Result Classes AllocError) →
    IfOk r (λ c. AreClasses (Connected (LeadsUp above)) (length above) (map (λ list. list.items) c.lists.items)) → IfOk r (λ c. AreClasses (Connected (HasRule rules)) count (map (λ list. list.items) c.lists.items))
joined rules count above i is whole (Ok c) are = joined_all rules count above i (map (λ list. list.items) c.lists.items) is whole are
joined rules count above i is whole (Err e) are = tt

pub returns-clause-classes : goal.returns-clause-classes
returns-clause-classes c =
    joined c.args.rules.now c.args.count c.loop-rule.forest.above.items c.loop-rule.rule-index c.loop-rule.invariant c.loop-rule-test.false c.classes.result c.classes.ensures.classes
