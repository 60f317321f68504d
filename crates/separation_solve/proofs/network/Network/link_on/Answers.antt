-- Each listed link is tight.
use Rattle.std.proofs.Common.{All, ◌≡◌, get_or, arith, sym, ap, subst, ◌∙◌}
use Rattle.std.proofs.lemmas.List.{get_or_read}
use Rattle.std.proofs.lemmas.List.Elements.{All-get_or}
use Rattle.separation_solve.specs.declared.network.Link.{Link}
use Rattle.separation_solve.specs.Network.{IsTightAt, link_at, no_link}
use Rattle.separation_solve.proofs.Searches.Extending.{listed_tight}
use Rattle.separation_solve.proofs.network.Network.link_on.Goals as goal
use Rattle.separation_solve.proofs.network.Network.link_on.Goals.{After-deref-link-items, then-index-item, else-index-item}

-- the links of the list
are_tight : (c : After-deref-link-items) → All (IsTightAt c.args.self.now.places.items c.args.self.now.links.items) c.deref-link-items.result.now
are_tight c =
    let n = c.args.self.now in
    subst (All (IsTightAt n.places.items n.links.items)) (sym c.deref-link-items.ensures.value)
    (listed_tight n c.args.item c.index.result.now c.requires.sound (omega (arith, c.requires.item, c.requires.sound.frame.lists)) c.index.ensures)

pub index-requires-in-loop-link : goal.index-requires-in-loop-link
index-requires-in-loop-link c =
    let n = c.args.self.now in
    let all = are_tight (goal.at.index-requires-in-loop-link c).After-deref-link-items in
    omega (arith, (All-get_or (IsTightAt n.places.items n.links.items) c.deref-link-items.result.now c.loop-link.link-index 0 c.loop-link-test.true all).link)

pub loop-link-preserved : goal.loop-link-preserved
loop-link-preserved c =
    let n = c.args.self.now in
    let j = get_or c.deref-link-items.result.now c.loop-link.link-index 0 in
    let tight = All-get_or (IsTightAt n.places.items n.links.items) c.deref-link-items.result.now c.loop-link.link-index 0 c.loop-link-test.true (are_tight (goal.at.loop-link-preserved c).After-deref-link-items) in
    let is : c.index-in-loop-link.result.now ≡ link_at n.links.items j = get_or_read n.links.items j c.index-in-loop-link.result.now tight.link c.index-in-loop-link.ensures no_link in
    elim c.if-index-item.branch [
      | then-index-item w ↦ rw w.last-is (record { tight = tight; from = ap (λ (l : Link). l.from) (sym is) ∙ w.if-index-item.true })
      | else-index-item w ↦ rw w.last-is c.loop-link.invariant
    ]
