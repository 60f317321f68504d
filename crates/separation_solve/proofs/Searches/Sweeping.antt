-- What a send over one link leaves.
use Rattle.std.proofs.Common.{◌≡◌, ◌≢◌, ℕ, zero, suc, ◌-◌, ◌<◌, ◌≤◌, ℤ, pos, neg_ℤ, ◌-ℤ◌, ◌+ℤ◌, ◌*ℤ◌, ◌≤ℤ◌, ◌<ℤ◌, unsigned_abs, Vec, List, [], ◌∷◌, length, set, sum_by, arith, refl, ap, sym, subst, ◌∙◌, length-set, get_or-set_other}
use Rattle.separation_model.specs.Arena.{Arena}
use Rattle.std.proofs.lemmas.Int.{ints}
use Rattle.std.proofs.lemmas.List.Sums.{sum_by-cons}
use Rattle.separation_model.specs.Bundle.{int_at}
use Rattle.separation_model.specs.Sum.{here}
use Rattle.separation_solve.specs.declared.network.Network.{Network}
use Rattle.separation_solve.specs.Network.{IsSound, IsTight, items_of, link_at, most_force, net_flow, total_flow, total_size}
use Rattle.separation_solve.specs.Sweep.{IsBudget, LeadsOn, load}
use Rattle.separation_solve.proofs.Networks.Forces.{frame_with, kept_with}
use Rattle.separation_solve.proofs.Searches.Leads.{excess_size, total_size_sign}
use Rattle.separation_solve.proofs.Searches.Pushing.{IsSettled, settled_at_item, settled_at_wall}
use Rattle.separation_solve.proofs.Searches.Sending.{each_set, net_flow-set, total_flow-set}
use Rattle.separation_solve.proofs.Lists.PartSums.{sum_below-first}
use Rattle.separation_model.proofs.Arithmetic.Exchange.{here_other, here_same}
use Rattle.separation_model.proofs.Arithmetic.Order.{mul-mono, mul-nonneg}
use Rattle.separation_model.proofs.Arithmetic.Ring.{ring, var, num, ◌⊕◌, ◌⊗◌}
use Rattle.separation_model.proofs.Arithmetic.Sums.{part_of_sum, sum_below-same}

-- the sum of sizes as the code computes it
pub sizes_are : (zs : List ℤ) → total_size zs ≡ pos (sum_by unsigned_abs zs)
sizes_are [] = refl
sizes_are (z ∷ zs) =
    omega (arith, ints, sum_below-first (length zs) (λ i. pos (unsigned_abs (int_at (z ∷ zs) i))), sizes_are zs, sum_by-cons unsigned_abs z zs)

-- of numbers that are not negative it is their sum
pub sizes_of_flow : (zs : List ℤ) → ((j : ℕ) → j < length zs → pos 0 ≤ℤ int_at zs j) → total_size zs ≡ total_flow zs
sizes_of_flow zs sign = sum_below-same (length zs) (λ j. pos (unsigned_abs (int_at zs j))) (int_at zs) (λ j h. omega (arith, ints, sign j h))

-- all flow together fits by far
pub flow_total : (n : Network) → IsSound n → sum_by unsigned_abs n.flow.items ≤ 78608000000000000000000000000000000000
flow_total n sound =
    let few : (pos (items_of n) *ℤ pos most_force) ≤ℤ pos 78608000000000000000000000000000000000 = omega (arith, ints, sound.frame.few) in
    let size : pos 0 ≤ℤ (pos (items_of n) *ℤ total_size n.excess.items) = mul-nonneg (pos (items_of n)) (total_size n.excess.items) (omega (arith, ints)) (total_size_sign n.excess.items) in
    omega (arith, ints, few, size, sound.flow.small_all, sizes_are n.flow.items, sizes_of_flow n.flow.items sound.flow.sign)

pub excess_total : (n : Network) → IsSound n → sum_by unsigned_abs n.excess.items ≤ 92480000000000000000000000000
excess_total n sound = omega (arith, ints, sound.flow.small, sizes_are n.excess.items)

-- what the code takes as budget
pub budget_is : (n : Network) (left : ℕ) → IsSound n → left ≡ (92480000000000000000000000000 - sum_by unsigned_abs n.flow.items) - sum_by unsigned_abs n.excess.items → IsBudget n left
budget_is n left sound is some = omega (arith, ints, sizes_are n.flow.items, sizes_of_flow n.flow.items sound.flow.sign, sizes_are n.excess.items)

-- a deficit is not too large
pub deficit_size : (n : Network) (i : ℕ) (a : ℤ) → IsSound n → int_at n.excess.items i ≡ neg_ℤ a → unsigned_abs a ≤ 92480000000000000000000000000
deficit_size n i a sound is = omega (arith, ints, excess_size n i sound)

-- the excess after a deficit was sent to an item
pub deficit_to_item : (zs mid new : List ℤ) (from to : ℕ) (a : ℤ) → from < length zs → to < length zs → from ≢ to → pos 0 <ℤ a → int_at zs from ≡ neg_ℤ a → mid ≡ set zs from (int_at zs from +ℤ a) → new ≡ set mid to (int_at mid to +ℤ (pos 0 -ℤ a)) →
    IsSettled zs new from to a (pos 0)
deficit_to_item zs mid new from to a h k apart some deficit mid_is new_is =
    let kept : int_at mid to ≡ int_at zs to = ap (λ l. int_at l to) mid_is ∙ get_or-set_other zs from to (int_at zs from +ℤ a) (pos 0) (λ q. apart (sym q)) in
    let is : new ≡ set (set zs from (int_at zs from +ℤ a)) to (int_at zs to -ℤ a) = new_is ∙ ap (set mid to) (omega (arith, ints, kept)) ∙ ap (λ l. set l to (int_at zs to -ℤ a)) mid_is in
    subst (λ l. IsSettled zs l from to a (pos 0)) (sym is) (settled_at_item zs from to a (pos 0) h k apart some (omega (arith, ints, deficit)) (omega (arith, ints)))

-- and to the wall
pub deficit_to_wall : (zs new : List ℤ) (from to : ℕ) (a : ℤ) → from < length zs → to ≡ length zs → pos 0 <ℤ a → int_at zs from ≡ neg_ℤ a → new ≡ set zs from (int_at zs from +ℤ a) → IsSettled zs new from to a (pos 0)
deficit_to_wall zs new from to a h wall some deficit is =
    let settled = settled_at_wall zs from to a h wall some (omega (arith, ints, deficit)) in
    subst (λ l. IsSettled zs l from to a (pos 0)) (sym is) (record { long = settled.long; each = settled.each; less = omega (arith, ints, settled.less) })

-- which is gone
pub deficit_gone : (zs new : List ℤ) (from to : ℕ) (a fall : ℤ) → IsSettled zs new from to a fall → from < length zs → from ≢ to → int_at zs from ≡ neg_ℤ a → int_at new from ≡ pos 0
deficit_gone zs new from to a fall settled h apart deficit =
    omega (arith, ints, settled.each from h, here_same from from a refl, here_other to from a (λ q. apart (sym q)), deficit)

-- a load that is not too large keeps to the bound on all flow
pub small_load : (k : ℕ) (flow size : ℤ) → 0 < k → (flow +ℤ size) ≤ℤ pos most_force → size ≤ℤ pos most_force → (flow +ℤ (pos k *ℤ size)) ≤ℤ (pos k *ℤ pos most_force)
small_load zero flow size some sum small = absurd (omega arith)
small_load (suc k) flow size some sum small =
    let each = mul-mono (pos k) size (pos most_force) (omega (arith, ints)) small in
    let more = λ (z : ℤ). ring (pos k ∷ z ∷ []) ((var 0 ⊕ num (pos 1)) ⊗ var 1) ((var 0 ⊗ var 1) ⊕ var 1) refl in
    let is : pos (suc k) ≡ pos k +ℤ pos 1 = omega (arith, ints) in
    omega (arith, ints, each, ap (λ x. x *ℤ size) is, ap (λ x. x *ℤ pos most_force) is, more size, more (pos most_force))

-- the network with the deficit sent over the link
pub sent_over : (n : Network) (flow excess : Vec ℤ Arena) (item to j : ℕ) (a : ℤ) → IsSound n → LeadsOn n item j → to ≡ (link_at n.links.items j).to → 0 < items_of n → pos 0 <ℤ a → (load n +ℤ a) ≤ℤ pos most_force →
    flow.items ≡ set n.flow.items j (int_at n.flow.items j +ℤ a) → IsSettled n.excess.items excess.items item to a (pos 0) →
    IsSound (record n { flow = flow; excess = excess }) × ((total_flow flow.items +ℤ total_size excess.items) ≤ℤ (load n +ℤ a))
sent_over n flow excess item to j a sound leads to_is some_item some room is settled =
    let old = sound.flow in
    let z = int_at n.flow.items j +ℤ a in
    let tight = leads.tight in
    let inside : j < length n.flow.items = omega (arith, tight.link, sound.frame.flow) in
    let long : length flow.items ≡ length n.flow.items = ap length is ∙ length-set n.flow.items j z in
    let total : total_flow flow.items ≡ total_flow n.flow.items +ℤ a = ap total_flow is ∙ total_flow-set n.flow.items j a inside in
    let sign : (i : ℕ) → i < length flow.items → pos 0 ≤ℤ int_at flow.items i =
    subst (λ (zs : List ℤ). (i : ℕ) → i < length zs → pos 0 ≤ℤ int_at zs i) (sym is) (each_set n.flow.items j z (λ _ x. pos 0 ≤ℤ x) inside (omega (arith, ints, old.sign j inside)) old.sign) in
    let less : (total_flow flow.items +ℤ total_size excess.items) ≤ℤ (load n +ℤ a) = omega (arith, ints, total, settled.less) in
    let small : total_size excess.items ≤ℤ pos most_force = omega (arith, ints, settled.less, old.small) in
    let sum : (total_flow flow.items +ℤ total_size excess.items) ≤ℤ pos most_force = omega (arith, ints, less, room) in (
      record {
        frame = frame_with n flow excess sound.frame long settled.long;
        kept = kept_with n flow excess sound.kept;
        tight = sound.tight;
        flow = record {
          sign = sign;
          tight = subst (λ (zs : List ℤ). (i : ℕ) → i < length zs → int_at zs i ≢ pos 0 → IsTight n.places.items (link_at n.links.items i)) (sym is)
              (each_set n.flow.items j z (λ i x. x ≢ pos 0 → IsTight n.places.items (link_at n.links.items i)) inside (λ _. tight.tight) old.tight);
          excess = λ i l.
              let was : i < length n.excess.items = omega (arith, l, settled.long) in
              let net = ap (λ (zs : List ℤ). net_flow n.links.items zs i) is ∙ net_flow-set n.links.items n.flow.items j a i tight.link (sym sound.frame.flow) in
              omega (arith, ints, settled.each i was, old.excess i was, net, ap (λ k. here k i a) leads.from, ap (λ k. here k i a) to_is);
          small = small;
          small_each = λ i l. omega (arith, ints, part_of_sum (length flow.items) (int_at flow.items) i l sign, sum);
          small_all = small_load (items_of n) (total_flow flow.items) (total_size excess.items) some_item sum small;
        };
      },
      less,
    )
