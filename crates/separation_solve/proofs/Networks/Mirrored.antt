-- A network whose left and right have changed sides.
use Rattle.std.proofs.Common.{◌≡◌, ℕ, ◌+◌, ◌<◌, Bool, true, false, not, ℤ, pos, neg_ℤ, ◌-ℤ◌, ◌*ℤ◌, ◌≤ℤ◌, unsigned_abs, Vec, All, Contains, List, [], ◌∷◌, map, length, get_or, slice_index, if◌then◌else◌, arith, refl, ap, sym, subst, ◌∙◌}
use Rattle.separation_model.specs.Arena.{Arena}
use Rattle.std.proofs.Math.IntN.{neg_ℤ-neg_ℤ}
use Rattle.std.proofs.Math.ListN.{get_or-map}
use Rattle.std.proofs.lemmas.Int.{ints}
use Rattle.std.proofs.lemmas.List.{length-map}
use Rattle.std.proofs.lemmas.List.Elements.{All-get_or, All-from_get_or, All-weaker}
use Rattle.plane_geom.specs.Point.{IsCoordinate}
use Rattle.separation_model.specs.Bundle.{int_at}
use Rattle.separation_solve.specs.declared.fraction.Fraction.{Fraction}
use Rattle.separation_solve.specs.declared.network.Link.{Link}
use Rattle.separation_solve.specs.declared.network.Network.{Network}
use Rattle.separation_solve.specs.Network.{AreKept, IsFlow, IsFrame, IsKept, IsLink, IsSound, IsSpot, IsTight, IsTightAt, ListsTight, force, items_of, link_at, most_force, net_flow, place_at, total_size, turned_link, turned_place, no_link, no_place}
use Rattle.separation_model.specs.Sum.{sum_below}
use Rattle.separation_solve.proofs.LightFractions.LowestTerms.{reduced_mirrored}
use Rattle.separation_model.proofs.Arithmetic.Ring.{ring, var, num, minus, ◌⊗◌, ◌⊖◌}
use Rattle.separation_model.proofs.Arithmetic.Sums.{sum_below-same}
use Rattle.separation_solve.proofs.Lists.PartSums.{sum_at-map}

-- the parts of a mirrored network
pub link_at-turned : (links : List Link) (j : ℕ) → link_at (map turned_link links) j ≡ turned_link (link_at links j)
link_at-turned links j = get_or-map turned_link links j no_link

pub place_at-turned : (places : List Fraction) (i : ℕ) → place_at (map turned_place places) i ≡ turned_place (place_at places i)
place_at-turned places i = get_or-map turned_place places i no_place

pub int_at-negated : (zs : List ℤ) (i : ℕ) → int_at (map neg_ℤ zs) i ≡ neg_ℤ (int_at zs i)
int_at-negated zs i = get_or-map neg_ℤ zs i (pos 0)

net_flow-turned : (links : List Link) (flow : List ℤ) (i : ℕ) → net_flow (map turned_link links) flow i ≡ neg_ℤ (net_flow links flow i)
net_flow-turned links flow i =
    omega (arith, ints, sum_at-map (λ (l : Link). l.to) turned_link i links flow, sum_at-map (λ (l : Link). l.from) turned_link i links flow)

pub total_size-negated : (zs : List ℤ) → total_size (map neg_ℤ zs) ≡ total_size zs
total_size-negated zs =
    ap (λ k. sum_below k (λ i. pos (unsigned_abs (int_at (map neg_ℤ zs) i)))) (length-map zs neg_ℤ)
    ∙ sum_below-same (length zs) (λ i. pos (unsigned_abs (int_at (map neg_ℤ zs) i))) (λ i. pos (unsigned_abs (int_at zs i)))
    (λ i h. ap (λ z. pos (unsigned_abs z)) (int_at-negated zs i) ∙ omega (arith, ints))

link_turned : (nodes : ℕ) (link : Link) → IsLink nodes link → IsLink nodes (turned_link link)
link_turned nodes link h = record {
  from = h.to;
  to = h.from;
  apart = λ e. h.apart (sym e);
  gap = h.gap;
}

pub coordinate_turned : (z : ℤ) → IsCoordinate z → IsCoordinate (neg_ℤ z)
coordinate_turned z c = record { low = omega (arith, ints, c.high); high = omega (arith, ints, c.low) }

spot_turned : (p : Fraction) → IsSpot p → IsSpot (turned_place p)
spot_turned p s = record {
  reduced = reduced_mirrored p.num p.den s.reduced;
  light = s.light;
  within = record { low = omega (arith, ints, s.within.high); high = omega (arith, ints, s.within.low) };
}

kept_turned : (places : List Fraction) (link : Link) → IsKept places link → IsKept (map turned_place places) (turned_link link)
kept_turned places link h =
    let a = place_at places link.from in
    let b = place_at places link.to in
    let left : link.gap *ℤ pos b.den *ℤ pos a.den ≡ link.gap *ℤ pos a.den *ℤ pos b.den =
    ring (link.gap ∷ pos a.den ∷ pos b.den ∷ []) (var 0 ⊗ var 2 ⊗ var 1) (var 0 ⊗ var 1 ⊗ var 2) refl in
    let right : (neg_ℤ a.num *ℤ pos b.den) -ℤ (neg_ℤ b.num *ℤ pos a.den) ≡ (b.num *ℤ pos a.den) -ℤ (a.num *ℤ pos b.den) =
    ring (a.num ∷ b.num ∷ pos a.den ∷ pos b.den ∷ []) ((minus (var 0) ⊗ var 3) ⊖ (minus (var 1) ⊗ var 2)) ((var 1 ⊗ var 2) ⊖ (var 0 ⊗ var 3)) refl in
    let turned : (link.gap *ℤ pos b.den *ℤ pos a.den) ≤ℤ ((neg_ℤ a.num *ℤ pos b.den) -ℤ (neg_ℤ b.num *ℤ pos a.den)) = rw (left, right) h in
    rw (place_at-turned places link.from, place_at-turned places link.to) turned

tight_turned : (places : List Fraction) (link : Link) → IsTight places link → IsTight (map turned_place places) (turned_link link)
tight_turned places link h =
    let a = place_at places link.from in
    let b = place_at places link.to in
    let e = place_at-turned places link.from in
    let f = place_at-turned places link.to in
    record {
      den = ap (λ (p : Fraction). p.den) f ∙ sym h.den ∙ ap (λ (p : Fraction). p.den) (sym e);
      apart = rw (e, f) (let same : link.gap *ℤ pos a.den ≡ link.gap *ℤ pos b.den = ap (λ d. link.gap *ℤ pos d) h.den in omega (arith, ints, h.apart, same));
    }

-- a list that is mirrored twice
map_twice : {A : Type 0} (f : A → A) → ((x : A) → f (f x) ≡ x) → (xs : List A) → map f (map f xs) ≡ xs
map_twice f back [] = refl
map_twice f back (x ∷ xs) = ap (λ y. y ∷ map f (map f xs)) (back x) ∙ ap (λ ys. x ∷ ys) (map_twice f back xs)

pub turned_place_twice : (p : Fraction) → turned_place (turned_place p) ≡ p
turned_place_twice p = ap (λ z. let q : Fraction = record { num = z; den = p.den } in q) (neg_ℤ-neg_ℤ p.num)

tight_back : (places : List Fraction) (link : Link) → IsTight (map turned_place places) (turned_link link) → IsTight places link
tight_back places link h = subst (λ ps. IsTight ps link) (map_twice turned_place turned_place_twice places) (tight_turned (map turned_place places) (turned_link link) h)

-- the force the other way
force_turned : (w : ℕ) (place : ℤ) (den : ℕ) (want : ℤ) → pos 2 *ℤ pos w *ℤ (neg_ℤ place -ℤ (pos den *ℤ neg_ℤ want)) ≡ neg_ℤ (pos 2 *ℤ pos w *ℤ (place -ℤ (pos den *ℤ want)))
force_turned w place den want =
    ring (pos w ∷ place ∷ pos den ∷ want ∷ []) (num (pos 2) ⊗ var 0 ⊗ (minus (var 1) ⊖ (var 2 ⊗ minus (var 3)))) (minus (num (pos 2) ⊗ var 0 ⊗ (var 1 ⊖ (var 2 ⊗ var 3)))) refl

-- lists of a network, mirrored
pub record AreTurned (n : Network) (links : Vec Link Arena) (wants : Vec ℤ Arena) (places : Vec Fraction Arena) (excess : Vec ℤ Arena) : Type 0 where
  pub links_are : links.items ≡ map turned_link n.links.items
  pub wants_are : wants.items ≡ map neg_ℤ n.wants.items
  pub places_are : places.items ≡ map turned_place n.places.items
  pub excess_are : excess.items ≡ map neg_ℤ n.excess.items

turned_frame : (n : Network) (links : Vec Link Arena) (wants : Vec ℤ Arena) (places : Vec Fraction Arena) (excess : Vec ℤ Arena) (mirrored : Bool) → IsFrame n → AreTurned n links wants places excess →
    IsFrame (record n { links = links; wants = wants; mirrored = mirrored; places = places; excess = excess })
turned_frame n links wants places excess mirrored frame t =
    let many : length links.items ≡ length n.links.items = ap length t.links_are ∙ length-map n.links.items turned_link in
    let items : length wants.items ≡ items_of n = ap length t.wants_are ∙ length-map n.wants.items neg_ℤ in
    let at : (j : ℕ) → link_at links.items j ≡ turned_link (link_at n.links.items j) = λ j. ap (λ ls. link_at ls j) t.links_are ∙ link_at-turned n.links.items j in
    let from : (j : ℕ) → (link_at links.items j).from ≡ (link_at n.links.items j).to = λ j. ap (λ (l : Link). l.from) (at j) in
    let to : (j : ℕ) → (link_at links.items j).to ≡ (link_at n.links.items j).from = λ j. ap (λ (l : Link). l.to) (at j) in
    record {
      few = omega (arith, items, frame.few);
      weights = frame.weights ∙ sym items;
      excess = ap length t.excess_are ∙ length-map n.excess.items neg_ℤ ∙ frame.excess ∙ sym items;
      places = ap length t.places_are ∙ length-map n.places.items turned_place ∙ frame.places ∙ ap (λ k. k + 1) (sym items);
      lists = frame.lists ∙ ap (λ k. k + 1) (sym items);
      flow = frame.flow ∙ sym many;
      light = frame.light;
      heavy = frame.heavy;
      wants = All-from_get_or IsCoordinate wants.items (pos 0) (λ i h.
          let c = All-get_or IsCoordinate n.wants.items i (pos 0) (omega (arith, h, items)) frame.wants in
          subst IsCoordinate (sym (ap (λ zs. int_at zs i) t.wants_are ∙ int_at-negated n.wants.items i)) (coordinate_turned (int_at n.wants.items i) c));
      links = λ j h. subst (λ k. IsLink (k + 1) (link_at links.items j)) (sym items) (subst (IsLink (items_of n + 1)) (sym (at j)) (link_turned (items_of n + 1) (link_at n.links.items j) (frame.links j (omega (arith, h, many)))));
      limited = λ i h.
          let l = frame.limited i (omega (arith, h, items)) in
          record {
            upper = l.lower;
            upper_within = omega (arith, l.lower_within, many);
            upper_from = from l.lower ∙ l.lower_to;
            upper_to = to l.lower ∙ l.lower_from ∙ sym items;
            lower = l.upper;
            lower_within = omega (arith, l.upper_within, many);
            lower_from = from l.upper ∙ l.upper_to ∙ sym items;
            lower_to = to l.upper ∙ l.upper_from;
          };
    }

turned_kept : (n : Network) (links : Vec Link Arena) (wants : Vec ℤ Arena) (places : Vec Fraction Arena) (excess : Vec ℤ Arena) (mirrored : Bool) → AreKept n → AreTurned n links wants places excess →
    AreKept (record n { links = links; wants = wants; mirrored = mirrored; places = places; excess = excess })
turned_kept n links wants places excess mirrored kept t =
    let many : length links.items ≡ length n.links.items = ap length t.links_are ∙ length-map n.links.items turned_link in
    let items : length wants.items ≡ items_of n = ap length t.wants_are ∙ length-map n.wants.items neg_ℤ in
    let nodes : length places.items ≡ length n.places.items = ap length t.places_are ∙ length-map n.places.items turned_place in
    let at : (i : ℕ) → place_at places.items i ≡ turned_place (place_at n.places.items i) = λ i. ap (λ ps. place_at ps i) t.places_are ∙ place_at-turned n.places.items i in
    let wall : place_at places.items (length wants.items) ≡ turned_place (place_at n.places.items (items_of n)) = ap (place_at places.items) items ∙ at (items_of n) in
    record {
      spots = λ i h. subst IsSpot (sym (at i)) (spot_turned (place_at n.places.items i) (kept.spots i (omega (arith, h, nodes))));
      wall_num = ap (λ (p : Fraction). p.num) wall ∙ ap neg_ℤ kept.wall_num;
      wall_den = ap (λ (p : Fraction). p.den) wall ∙ kept.wall_den;
      kept = λ j h.
          let l : link_at links.items j ≡ turned_link (link_at n.links.items j) = ap (λ ls. link_at ls j) t.links_are ∙ link_at-turned n.links.items j in
          subst (λ ps. IsKept ps (link_at links.items j)) (sym t.places_are) (subst (IsKept (map turned_place n.places.items)) (sym l) (kept_turned n.places.items (link_at n.links.items j) (kept.kept j (omega (arith, h, many)))));
    }

-- the same links are tight
turned_tight : (n : Network) (links : Vec Link Arena) (wants : Vec ℤ Arena) (places : Vec Fraction Arena) (excess : Vec ℤ Arena) → ListsTight n.places.items n.links.items n.tight.items → AreTurned n links wants places excess →
    ListsTight places.items links.items n.tight.items
turned_tight n links wants places excess tight t =
    let many : length links.items ≡ length n.links.items = ap length t.links_are ∙ length-map n.links.items turned_link in
    let at : (j : ℕ) → link_at links.items j ≡ turned_link (link_at n.links.items j) = λ j. ap (λ ls. link_at ls j) t.links_are ∙ link_at-turned n.links.items j in
    let from : (j : ℕ) → (link_at links.items j).from ≡ (link_at n.links.items j).to = λ j. ap (λ (l : Link). l.from) (at j) in
    let to : (j : ℕ) → (link_at links.items j).to ≡ (link_at n.links.items j).from = λ j. ap (λ (l : Link). l.to) (at j) in
    let there : (j : ℕ) → IsTightAt n.places.items n.links.items j → IsTightAt places.items links.items j = λ j h. record {
      link = omega (arith, h.link, many);
      tight = subst (λ ps. IsTight ps (link_at links.items j)) (sym t.places_are) (subst (IsTight (map turned_place n.places.items)) (sym (at j)) (tight_turned n.places.items (link_at n.links.items j) h.tight));
    } in
    let back : (j : ℕ) → IsTightAt places.items links.items j → IsTightAt n.places.items n.links.items j = λ j h. record {
      link = omega (arith, h.link, many);
      tight = tight_back n.places.items (link_at n.links.items j) (subst (IsTight (map turned_place n.places.items)) (at j) (subst (λ ps. IsTight ps (link_at links.items j)) t.places_are h.tight));
    } in
    record {
      listed = λ j h.
          let l = tight.listed j (back j h) in
          record {
            at_from = λ d. subst (λ i. Contains (get_or n.tight.items i d).items j) (sym (from j)) (l.at_to d);
            at_to = λ d. subst (λ i. Contains (get_or n.tight.items i d).items j) (sym (to j)) (l.at_from d);
          };
      no_others = All-weaker (λ (v : Vec ℕ Arena). All (IsTightAt n.places.items n.links.items) v.items) (λ (v : Vec ℕ Arena). All (IsTightAt places.items links.items) v.items)
          (λ v h. All-weaker (IsTightAt n.places.items n.links.items) (IsTightAt places.items links.items) there v.items h) n.tight.items tight.no_others;
    }

turned_flow : (n : Network) (links : Vec Link Arena) (wants : Vec ℤ Arena) (places : Vec Fraction Arena) (excess : Vec ℤ Arena) (mirrored : Bool) → IsFrame n → IsFlow n → AreTurned n links wants places excess →
    IsFlow (record n { links = links; wants = wants; mirrored = mirrored; places = places; excess = excess })
turned_flow n links wants places excess mirrored frame flow t =
    let items : length wants.items ≡ items_of n = ap length t.wants_are ∙ length-map n.wants.items neg_ℤ in
    let size : total_size excess.items ≡ total_size n.excess.items = ap total_size t.excess_are ∙ total_size-negated n.excess.items in
    let count : pos (length wants.items) *ℤ total_size excess.items ≡ pos (items_of n) *ℤ total_size n.excess.items = ap (λ k. pos k *ℤ total_size excess.items) items ∙ ap (λ z. pos (items_of n) *ℤ z) size in
    let most : pos (length wants.items) *ℤ pos most_force ≡ pos (items_of n) *ℤ pos most_force = ap (λ k. pos k *ℤ pos most_force) items in
    record {
      sign = flow.sign;
      tight = λ j h some.
          let l : link_at links.items j ≡ turned_link (link_at n.links.items j) = ap (λ ls. link_at ls j) t.links_are ∙ link_at-turned n.links.items j in
          subst (λ ps. IsTight ps (link_at links.items j)) (sym t.places_are) (subst (IsTight (map turned_place n.places.items)) (sym l) (tight_turned n.places.items (link_at n.links.items j) (flow.tight j h some)));
      excess = λ i h.
          let inside : i < length n.excess.items = omega (arith, h, ap length t.excess_are, length-map n.excess.items neg_ℤ) in
          let p = place_at n.places.items i in
          let w = slice_index n.weights.items i in
          let at : place_at places.items i ≡ turned_place p = ap (λ ps. place_at ps i) t.places_are ∙ place_at-turned n.places.items i in
          let want : int_at wants.items i ≡ neg_ℤ (int_at n.wants.items i) = ap (λ zs. int_at zs i) t.wants_are ∙ int_at-negated n.wants.items i in
          let pull : pos 2 *ℤ pos w *ℤ ((place_at places.items i).num -ℤ (pos (place_at places.items i).den *ℤ int_at wants.items i)) ≡ neg_ℤ (force n i) =
          ap (λ (q : Fraction). pos 2 *ℤ pos w *ℤ (q.num -ℤ (pos q.den *ℤ int_at wants.items i))) at
          ∙ ap (λ z. pos 2 *ℤ pos w *ℤ (neg_ℤ p.num -ℤ (pos p.den *ℤ z))) want
          ∙ force_turned w p.num p.den (int_at n.wants.items i) in
          let net : net_flow links.items n.flow.items i ≡ neg_ℤ (net_flow n.links.items n.flow.items i) = ap (λ ls. net_flow ls n.flow.items i) t.links_are ∙ net_flow-turned n.links.items n.flow.items i in
          let was : int_at excess.items i ≡ neg_ℤ (int_at n.excess.items i) = ap (λ zs. int_at zs i) t.excess_are ∙ int_at-negated n.excess.items i in
          omega (arith, ints, pull, net, was, flow.excess i inside);
      small = omega (arith, ints, size, flow.small);
      small_each = λ j h. omega (arith, ints, size, flow.small_each j h);
      small_all = omega (arith, ints, count, most, flow.small_all);
    }

pub turned_sound : (n : Network) (links : Vec Link Arena) (wants : Vec ℤ Arena) (places : Vec Fraction Arena) (excess : Vec ℤ Arena) (mirrored : Bool) → IsSound n → AreTurned n links wants places excess →
    IsSound (record n { links = links; wants = wants; mirrored = mirrored; places = places; excess = excess })
turned_sound n links wants places excess mirrored sound t = record {
  frame = turned_frame n links wants places excess mirrored sound.frame t;
  kept = turned_kept n links wants places excess mirrored sound.kept t;
  tight = turned_tight n links wants places excess sound.tight t;
  flow = turned_flow n links wants places excess mirrored sound.frame sound.flow t;
}

-- with left and right on their own sides it is as before
pub upright-turned : {A : Type 0} (f : A → A) → ((x : A) → f (f x) ≡ x) → (b : Bool) (xs ys : List A) → ys ≡ map f xs → (if not b then map f ys else ys) ≡ (if b then map f xs else xs)
upright-turned f back true xs ys e = e
upright-turned f back false xs ys e = ap (map f) e ∙ map_twice f back xs

pub turned_link_twice : (l : Link) → turned_link (turned_link l) ≡ l
turned_link_twice l = refl
