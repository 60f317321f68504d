-- The goals of `Network::relist`: the lists alone are new.
use Rattle.std.proofs.Common.{◌≡◌, ◌+◌, All, length, OnOk, arith, refl, sym, subst, ap, ◌∙◌}
use Rattle.std.specs.Vec.{with_items}
use Rattle.std.proofs.lemmas.List.Elements.{All-from_get_or}
use Rattle.std.proofs.lemmas.List.{with_items_is}
use Rattle.std.proofs.lemmas.Result.{on_ok_weaker}
use Rattle.separation_solve.specs.Network.{IsLink, ListsTight, items_of, no_link}
use Rattle.separation_solve.proofs.network.Network.relist.Goals as goal

pub list_tight-requires-clause-links : goal.list_tight-requires-clause-links
list_tight-requires-clause-links c =
    let n = c.args.self.now in
    let links = All-from_get_or (IsLink (items_of n + 1)) n.links.items no_link c.requires.frame.links in
    let count : items_of n + 1 ≡ length c.deref.result.now = omega (arith, c.deref.ensures.len, n.places.ok, c.requires.frame.places) in
    subst (λ count. All (IsLink count) c.deref-2.result.now) count (subst (All (IsLink (items_of n + 1))) (sym c.deref-2.ensures.value) links)

pub returns-clause-frame : goal.returns-clause-frame
returns-clause-frame c =
    let n = c.args.self.now in
    let f = c.requires.frame in
    let count = c.list_tight.auto.lists ∙ c.deref_mut-2.ensures.len in
    let lists = ap length (with_items_is (with_items n.tight c.clear_lists.new.lists) c.list_tight.new.lists count) ∙ count in
    on_ok_weaker c.list_tight.result (λ same. record {
      few = f.few;
      weights = f.weights;
      excess = f.excess;
      places = f.places;
      lists = omega (arith, lists, n.tight.ok, f.lists);
      flow = f.flow;
      light = f.light;
      heavy = f.heavy;
      wants = f.wants;
      links = f.links;
      limited = f.limited;
    }) c.list_tight.ensures.count

pub returns-clause-kept : goal.returns-clause-kept
returns-clause-kept c = record {
  spots = c.requires.kept.spots;
  wall_num = c.requires.kept.wall_num;
  wall_den = c.requires.kept.wall_den;
  kept = c.requires.kept.kept;
}

pub returns-clause-tight : goal.returns-clause-tight
returns-clause-tight c =
    let n = c.args.self.now in
    let tight = rw (c.deref.ensures.value, c.deref-2.ensures.value) at c.list_tight.ensures.tight in
    let lists = with_items_is (with_items n.tight c.clear_lists.new.lists) c.list_tight.new.lists (c.list_tight.auto.lists ∙ c.deref_mut-2.ensures.len) in
    subst (λ lists. OnOk c.list_tight.result (ListsTight n.places.items n.links.items lists)) (sym lists) tight

pub returns-clause-bundle : goal.returns-clause-bundle
returns-clause-bundle c = record { links = refl; wants = refl; weights = refl; mirrored = refl }

pub returns-clause-places : goal.returns-clause-places
returns-clause-places c = refl
