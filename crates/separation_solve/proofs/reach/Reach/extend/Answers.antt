-- Each listed link adds its lead, or has none.
use Rattle.std.proofs.Common.{All, ◌≡◌, ℕ, ◌<◌, ◌≤◌, length, get_or, arith, sym, ap, subst}
use Rattle.std.proofs.lemmas.List.Elements.{All-get_or}
use Rattle.separation_solve.specs.declared.network.Network.{Network}
use Rattle.separation_solve.specs.declared.reach.Reach.{Reach}
use Rattle.separation_solve.specs.declared.reach.Step.{Step}
use Rattle.separation_solve.specs.Network.{IsSound, IsTightAt, items_of}
use Rattle.separation_solve.specs.Reach.{AddsLeads, IsLead, IsReach, IsStep, start_of, step_at}
use Rattle.separation_solve.proofs.Searches.Extending.{added_here, adds_more, all_added, following, keeps_all, keeps_itself, listed_tight, old_start, own_start}
use Rattle.separation_solve.proofs.Searches.Reaches.{step_read}
use Rattle.separation_solve.proofs.reach.Reach.extend.Goals as goal
use Rattle.separation_solve.proofs.reach.Reach.extend.Goals.{in-Some+in_ok-add, in_default}

-- its node has a list of links
node_inside : (n : Network) (r : Reach) (k : ℕ) (s : Step) → IsSound n → IsReach n (start_of r) r → k < length r.steps.items → s ≡ get_or r.steps.items k s → s.node < length n.tight.items
node_inside n r k s sound reach h e =
    let node : (step_at r.steps.items k).node ≤ items_of n = (reach.steps k h).node in
    omega (arith, ap (λ t. t.node) (step_read r k s h e), node, sound.frame.lists)

pub index-requires : goal.index-requires
index-requires c =
    let inside = node_inside c.args.network.now c.args.self.now c.args.parent c.index-step.result.now c.requires.sound c.requires.reach c.requires.parent c.index-step.ensures in
    omega (arith, inside)

pub lead-requires-clause-link : goal.lead-requires-clause-link
lead-requires-clause-link c =
    let n = c.args.network.now in
    let inside = node_inside n c.args.self.now c.args.parent c.index-step.result.now c.requires.sound c.requires.reach c.requires.parent c.index-step.ensures in
    let tight = listed_tight n c.index-step.result.now.node c.index.result.now c.requires.sound inside c.index.ensures in
    let all = subst (All (IsTightAt n.places.items n.links.items)) (sym c.deref-link-items.ensures.value) tight in
    All-get_or (IsTightAt n.places.items n.links.items) c.deref-link-items.result.now c.loop-link.link-index 0 c.loop-link-test.true all

pub lead-requires-clause-step : goal.lead-requires-clause-step
lead-requires-clause-step c =
    (start_of c.args.self.now, subst (IsStep c.args.network.now (start_of c.args.self.now)) (sym (step_read c.args.self.now c.args.parent c.index-step.result.now c.requires.parent c.index-step.ensures)) (c.requires.reach.steps c.args.parent c.requires.parent))

pub loop-link-preserved : goal.loop-link-preserved
loop-link-preserved c =
    let n = c.args.network.now in
    let old = c.args.self.now in
    let r = c.loop-link.self in
    let was = c.loop-link.invariant in
    let js = c.deref-link-items.result.now in
    let i = c.loop-link.link-index in
    let step = c.index-step.result.now in
    let is_step = step_read old c.args.parent step c.requires.parent c.index-step.ensures in
    elim c.match-lead.branch [
      | in-Some+in_ok-add w ↦
          let led = w.in-Some.ensures in
          let s = w.add.new.self in
          let after = w.in_ok-add.ensures in
          let follows = following n old r (get_or js i 0) c.args.parent step w.in-Some.next was.reach was.keeps c.requires.parent is_step led in
          let reach = old_start n old r s was.reach (after.reach n (own_start n old r was.reach) follows) in
          rw w.self-is (record {
            reach = reach;
            keeps = keeps_all old r s was.keeps after.keeps;
            adds = adds_more n r s js i step.node after.keeps was.adds (added_here n s (get_or js i 0) c.args.parent step w.in-Some.next c.requires.sound led after.added);
          })
      | in_default w ↦
          rw w.self-is (record {
            reach = was.reach;
            keeps = was.keeps;
            adds = adds_more n r r js i step.node (keeps_itself r) was.adds (λ b lead. absurd (w.in_default.ensures b lead));
          })
    ]

pub returns-clause-adds : goal.returns-clause-adds
returns-clause-adds c =
    let n = c.args.network.now in
    let old = c.args.self.now in
    let r = c.loop-link.self in
    let step = c.index-step.result.now in
    let is_step = step_read old c.args.parent step c.requires.parent c.index-step.ensures in
    let inside = node_inside n old c.args.parent step c.requires.sound c.requires.reach c.requires.parent c.index-step.ensures in
    let v = c.index.result.now in
    let same = c.deref-link-items.ensures.value in
    let long : length v.items ≤ c.loop-link.link-index = omega (arith, c.loop-link-test.false, ap length same) in
    let adds = all_added n step.node v r c.requires.sound inside c.index.ensures
    (λ i b h lead. c.loop-link.invariant.adds i b (omega (arith, h, long)) (subst (λ js. IsLead n (get_or js i 0) step.node b) (sym same) lead)) in
    subst (λ a. AddsLeads n a r) (ap (λ t. t.node) is_step) adds
