-- The mirror image is sound, and is of the same bundle.
use Rattle.std.proofs.Common.{◌≡◌, ◌≤◌, ℤ, pos, neg_ℤ, Vec, List, All, map, length, unsigned_abs, arith, refl, sym, ap, ◌∙◌, subst}
use Rattle.std.specs.Vec.{with_items}
use Rattle.separation_model.specs.Arena.{Arena}
use Rattle.std.proofs.Math.IntN.{neg_ℤ-neg_ℤ}
use Rattle.std.proofs.lemmas.List.{with_items_is, length-map}
use Rattle.std.proofs.lemmas.List.Elements.{All-from_get_or}
use Rattle.separation_solve.specs.Network.{IsSpot, turned_link, turned_place, no_place}
use Rattle.separation_solve.proofs.Searches.Leads.{excess_size}
use Rattle.separation_solve.proofs.Networks.Mirrored.{turned_link_twice, turned_place_twice, turned_sound, upright-turned}
use Rattle.separation_solve.proofs.network.Network.mirror.Goals as goal

-- a list that was mirrored in its vector
turned_items : {A : Type 0} (f : A → A) (v : Vec A Arena) (lent new : List A) → lent ≡ v.items → new ≡ map f lent → (with_items v new).items ≡ map f v.items
turned_items f v lent new is turned =
    let e : new ≡ map f v.items = turned ∙ ap (map f) is in
    with_items_is v new (omega (arith, ap length e, length-map v.items f)) ∙ e

pub turn_places-requires : goal.turn_places-requires
turn_places-requires c =
    let all : All IsSpot c.args.self.now.places.items = All-from_get_or IsSpot c.args.self.now.places.items no_place c.requires.kept.spots in
    subst (All IsSpot) (sym c.deref_mut-3.ensures.value) all

pub turn_excess-requires : goal.turn_excess-requires
turn_excess-requires c =
    let P : ℤ → Type 0 = λ z. unsigned_abs z ≤ 92480000000000000000000000000 in
    let all : All P c.args.self.now.excess.items = All-from_get_or P c.args.self.now.excess.items (pos 0) (λ i h. excess_size c.args.self.now i c.requires) in
    subst (All P) (sym c.deref_mut-4.ensures.value) all

pub returns-clause-sound : goal.returns-clause-sound
returns-clause-sound c =
    let n = c.args.self.now in
    turned_sound n _ _ _ _ _ c.requires (record {
      links_are = turned_items turned_link n.links c.deref_mut.result.now c.turn_links.new.links c.deref_mut.ensures.value c.turn_links.ensures;
      wants_are = turned_items neg_ℤ n.wants c.deref_mut-2.result.now c.turn_wants.new.wants c.deref_mut-2.ensures.value c.turn_wants.ensures;
      places_are = turned_items turned_place n.places c.deref_mut-3.result.now c.turn_places.new.places c.deref_mut-3.ensures.value c.turn_places.ensures;
      excess_are = turned_items neg_ℤ n.excess c.deref_mut-4.result.now c.turn_excess.new.excess c.deref_mut-4.ensures.value c.turn_excess.ensures;
    })

pub returns-clause-same : goal.returns-clause-same
returns-clause-same c =
    let n = c.args.self.now in
    record {
      links = upright-turned turned_link turned_link_twice n.mirrored n.links.items _ (turned_items turned_link n.links c.deref_mut.result.now c.turn_links.new.links c.deref_mut.ensures.value c.turn_links.ensures);
      wants = upright-turned neg_ℤ neg_ℤ-neg_ℤ n.mirrored n.wants.items _ (turned_items neg_ℤ n.wants c.deref_mut-2.result.now c.turn_wants.new.wants c.deref_mut-2.ensures.value c.turn_wants.ensures);
      weights = refl;
    }

pub returns-clause-places : goal.returns-clause-places
returns-clause-places c =
    let n = c.args.self.now in
    upright-turned turned_place turned_place_twice n.mirrored n.places.items _ (turned_items turned_place n.places c.deref_mut-3.result.now c.turn_places.new.places c.deref_mut-3.ensures.value c.turn_places.ensures)

pub returns-clause-excess : goal.returns-clause-excess
returns-clause-excess c = turned_items neg_ℤ c.args.self.now.excess c.deref_mut-4.result.now c.turn_excess.new.excess c.deref_mut-4.ensures.value c.turn_excess.ensures
