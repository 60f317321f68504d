-- The goals of `list_tight` that the check leaves.
use Rattle.std.proofs.Common.{◌<◌, length, set, arith, sym, ◌∙◌, true≢false}
use Rattle.std.proofs.lemmas.List.Elements.{All-get_or}
use Rattle.separation_solve.specs.Network.{IsTightAt, IsLink, link_at, no_link}
use Rattle.separation_solve.proofs.Networks.Listing.{added, listing_kept, listing_more, listing_none}
use Rattle.separation_solve.proofs.tight.list_tight.Goals as goal
use Rattle.separation_solve.proofs.tight.list_tight.Goals.{then-is_tight+in_ok-push+in_ok-push-2, else-is_tight}

pub loop-index-init : goal.loop-index-init
loop-index-init c = listing_none c.args.places.now c.args.links.now c.args.lists.now c.requires.empty

pub loop-index-preserved : goal.loop-index-preserved
loop-index-preserved c =
    let places = c.args.places.now in
    let links = c.args.links.now in
    let start = c.args.lists.now in
    let lists = c.loop-index.lists in
    let j = c.loop-index.index in
    let so = c.loop-index.invariant in
    let h : j < length links = c.loop-index-test.true in
    let link = link_at links j in
    let joins = All-get_or (IsLink (length places)) links j no_link h c.requires.links in
    let P = IsTightAt places links in
    elim c.if-is_tight.branch [
      | then-is_tight+in_ok-push+in_ok-push-2 w ↦
          let from : link.from < length lists = omega (arith, so.count, c.requires.count, joins.from) in
          let first = added P lists link.from j w.index-lists-link.result w.push.new.self from w.in_ok-push.ensures.items in
          let mid = set lists link.from w.push.new.self in
          let to : link.to < length mid = omega (arith, so.count, first.count, c.requires.count, joins.to) in
          let second = added P mid link.to j w.index-lists-link-then-is_tight.result w.push-then-is_tight.new.self to w.in_ok-push-2.ensures.items in
          let here : P j = record { link = h; tight = c.is_tight.ensures.0 w.if-is_tight.true } in
          rw w.lists-is (listing_more places links start lists mid (set mid link.to w.push-then-is_tight.new.self) j so here first second)
      | else-is_tight w ↦ rw w.lists-is (listing_kept places links start lists j so (λ tight. true≢false (sym (c.is_tight.ensures.1 tight) ∙ w.if-is_tight.false)))
    ]
