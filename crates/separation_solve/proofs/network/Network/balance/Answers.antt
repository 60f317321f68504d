-- The goals of `Network::balance` that the check leaves.
use Rattle.std.proofs.Common.{◌+◌, ℤ, Vec, length, arith, sym, subst, ◌∙◌}
use Rattle.std.proofs.lemmas.Option.{MatchOption-at_some}
use Rattle.separation_model.specs.Arena.{Arena}
use Rattle.separation_solve.specs.Network.{total_size}
use Rattle.separation_solve.specs.Reach.{IsBlock, IsTable, IsWay, start_of}
use Rattle.separation_solve.proofs.Networks.Balancing.{fewer}
use Rattle.separation_solve.proofs.Networks.Upright.{kept_places, kept_same, same_items, same_on}
use Rattle.separation_solve.proofs.Searches.Leads.{total_size_sign}
use Rattle.separation_solve.proofs.network.Network.balance.Goals as goal

pub search-requires-clause-table : goal.search-requires-clause-table
search-requires-clause-table c =
    let was = c.loop-start.invariant in
    let now = c.in-Some.ensures in
    subst (λ k. IsTable (k + 1) c.loop-start.reach) (same_items now.same was.sound.frame now.sound.frame) was.table

pub loop-start-smaller : goal.loop-start-smaller
loop-start-smaller c =
    fewer (total_size c.push.new.self.excess.items) (total_size c.next_start.new.self.excess.items) (total_size c.loop-start.self.excess.items)
    (total_size_sign c.push.new.self.excess.items) c.push.ensures.less c.in-Some.ensures.size

pub loop-start-init : goal.loop-start-init
loop-start-init c =
    let kept = c.sweep-2.ensures.bundle in
    let first = c.sweep.ensures.bundle in
    let turned = c.mirror.ensures in
    let same = same_on (same_on (kept_same first) turned.same) (kept_same kept) in
    record {
      sound = c.sweep-2.ensures.sound;
      same = same;
      places = kept_places kept c.sweep-2.ensures.places ∙ turned.places ∙ kept_places first c.sweep.ensures.places;
      table = subst (λ k. IsTable (k + 1) c.args.reach.now) (same_items same c.requires.sound.frame c.sweep-2.ensures.sound.frame) c.requires.table;
    }

pub loop-start-preserved : goal.loop-start-preserved
loop-start-preserved c =
    let was = c.loop-start.invariant in
    let now = c.in-Some.ensures in
    let kept = c.push.ensures.bundle in
    let n = c.next_start.new.self in
    let reach = c.search.new.self in
    let way = MatchOption-at_some (IsBlock n (start_of reach) reach) (IsWay n (start_of reach) reach) c.in-Some-2.target c.in-Some-2.is c.in_ok-target.ensures in
    let same = same_on (same_on was.same now.same) (kept_same kept) in
    record {
      sound = c.push.ensures.sound;
      same = same;
      places = kept_places kept c.push.ensures.places ∙ now.places ∙ was.places;
      table = subst (λ (wants : Vec ℤ Arena). IsTable (length wants.items + 1) reach) (sym kept.wants) (record {
        nodes = way.reach.nodes;
        steps = λ k h. omega (arith, (way.reach.steps k h).node);
        found = way.reach.found;
      });
    }
