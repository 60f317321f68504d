-- The flow and the excess are those of a network with the deficit sent over the link.
use Rattle.std.proofs.Common.{◌≡◌, ◌≢◌, ℕ, ◌<◌, ◌≤◌, ◌^◌, ℤ, pos, ◌+ℤ◌, ◌-ℤ◌, ◌≤ℤ◌, FitsSigned, unsigned_abs, Vec, List, length, set, arith, sym, ap, ◌∙◌, to_z-of_z, lit<, length-set, get_or-set_other}
use Rattle.std.specs.Vec.{with_items}
use Rattle.separation_model.specs.Arena.{Arena}
use mir.Syntax.{w128}
use Rattle.std.proofs.lemmas.Int.{ints, fits_signed_from_abs}
use Rattle.std.proofs.lemmas.List.{get_or_read, with_items_is}
use Rattle.separation_model.specs.Bundle.{int_at}
use Rattle.separation_solve.specs.declared.network.Link.{Link}
use Rattle.separation_solve.specs.declared.network.Network.{Network}
use Rattle.separation_solve.specs.Network.{IsSound, link_at, no_link, total_flow, total_size}
use Rattle.separation_solve.specs.Sweep.{load}
use Rattle.separation_solve.proofs.Searches.Leads.{excess_size, total_size_sign}
use Rattle.separation_solve.proofs.Searches.Pushing.{IsSettled}
use Rattle.separation_solve.proofs.Searches.Sweeping.{deficit_gone, deficit_size, deficit_to_item, deficit_to_wall, sent_over}
use Rattle.separation_solve.proofs.network.Network.send_over.Goals as goal
use Rattle.separation_solve.proofs.network.Network.send_over.Goals.{After-index, After-raise-2, After-raise-then-to-wall, Else-to-wall}

-- the list with the number raised, in its vector
raised_items : (v : Vec ℤ Arena) (lent new : List ℤ) (i : ℕ) (by : ℤ) → lent ≡ v.items → new ≡ set lent i (int_at lent i +ℤ by) → (with_items v new).items ≡ set v.items i (int_at v.items i +ℤ by)
raised_items v lent new i by is raised =
    let e : new ≡ set v.items i (int_at v.items i +ℤ by) = raised ∙ ap (λ zs. set zs i (int_at zs i +ℤ by)) is in
    with_items_is v new (omega (arith, ap length e, length-set v.items i (int_at v.items i +ℤ by))) ∙ e

-- what is known of the amount and of the link
record Known (n : Network) (item j : ℕ) (a : ℤ) (l : Link) : Type 0 where
  item_in : item < length n.excess.items
  apart : item ≢ l.to
  to : l.to ≤ length n.excess.items
  to_is : l.to ≡ (link_at n.links.items j).to
  size : unsigned_abs a ≤ 92480000000000000000000000000
  room : (load n +ℤ a) ≤ℤ pos 92480000000000000000000000000
  turned_fits : FitsSigned w128 (pos 0 -ℤ a)

known : (c : After-index) → Known c.args.self.now c.args.item c.args.link c.args.amount c.index.result.now
known c =
    let n = c.args.self.now in
    let a = c.args.amount in
    let sound = c.requires.sound in
    let tight = c.requires.link.tight in
    let link = sound.frame.links c.args.link tight.link in
    let size = deficit_size n c.args.item a sound c.requires.amount in
    let is : c.index.result.now.to ≡ (link_at n.links.items c.args.link).to = ap (λ (l : Link). l.to) (get_or_read n.links.items c.args.link c.index.result.now tight.link c.index.ensures no_link) in
    record {
      item_in = omega (arith, c.requires.item, sound.frame.excess);
      apart = λ q. link.apart (c.requires.link.from ∙ q ∙ is);
      to = omega (arith, is, link.to, sound.frame.excess);
      to_is = is;
      size = size;
      room = omega (arith, ints, c.requires.budget (omega (arith, ints, c.requires.some)), c.requires.some);
      turned_fits = fits_signed_from_abs w128 (pos 0 -ℤ a) (omega (arith, ints, size, lit< {m = 92480000000000000000000000000} {n = 2 ^ 127} tt));
    }

-- the flow and the excess after the first two changes
flow_is : (c : After-raise-2) → (with_items c.args.self.now.flow c.raise.new.numbers).items ≡ set c.args.self.now.flow.items c.args.link (int_at c.args.self.now.flow.items c.args.link +ℤ c.args.amount)
flow_is c = raised_items c.args.self.now.flow c.deref_mut.result.now c.raise.new.numbers c.args.link c.args.amount c.deref_mut.ensures.value (rw (to_z-of_z c.ranges.amount) at c.raise.ensures)

excess_is : (c : After-raise-2) → (with_items c.args.self.now.excess c.raise-2.new.numbers).items ≡ set c.args.self.now.excess.items c.args.item (int_at c.args.self.now.excess.items c.args.item +ℤ c.args.amount)
excess_is c = raised_items c.args.self.now.excess c.deref_mut-2.result.now c.raise-2.new.numbers c.args.item c.args.amount c.deref_mut-2.ensures.value (rw (to_z-of_z c.ranges.amount) at c.raise-2.ensures)

pub raise-requires-clause-small : goal.raise-requires-clause-small
raise-requires-clause-small c =
    let n = c.args.self.now in
    let sound = c.requires.sound in
    let k = known (goal.at.raise-requires-clause-small c).After-index in
    let inside : c.args.link < length n.flow.items = omega (arith, c.requires.link.tight.link, sound.frame.flow) in
    let bound : 300000000000000000000000000000 < 2 ^ 127 = lit< tt in
    let small : unsigned_abs (int_at n.flow.items c.args.link +ℤ c.args.amount) < 2 ^ 127 =
    omega (arith, ints, sound.flow.sign c.args.link inside, sound.flow.small_each c.args.link inside, total_size_sign n.excess.items, k.size, bound) in
    rw (c.deref_mut.ensures.value, to_z-of_z c.ranges.amount) small

pub raise-requires-then-to-wall-clause-small : goal.raise-requires-then-to-wall-clause-small
raise-requires-then-to-wall-clause-small c =
    let n = c.args.self.now in
    let here = goal.at.raise-requires-then-to-wall-clause-small c in
    let k = known here.After-index in
    let to = c.index.result.now.to in
    let bound : 300000000000000000000000000000 < 2 ^ 127 = lit< tt in
    let same : int_at c.deref_mut-then-to-wall.result.now to ≡ int_at n.excess.items to = ap (λ zs. int_at zs to) (c.deref_mut-then-to-wall.ensures.value ∙ excess_is here.After-raise-2)
    ∙ get_or-set_other n.excess.items c.args.item to (int_at n.excess.items c.args.item +ℤ c.args.amount) (pos 0) (λ q. k.apart (sym q)) in
    let small : unsigned_abs (int_at c.deref_mut-then-to-wall.result.now to +ℤ (pos 0 -ℤ c.args.amount)) < 2 ^ 127 = omega (arith, ints, same, excess_size n to c.requires.sound, k.size, bound) in
    rw (to_z-of_z c.ranges.amount, to_z-of_z k.turned_fits) small

-- the excess that is left where an item takes the deficit
settled_then : (c : After-raise-then-to-wall) → IsSettled c.args.self.now.excess.items (with_items (with_items c.args.self.now.excess c.raise-2.new.numbers) c.raise-then-to-wall.new.numbers).items c.args.item c.index.result.now.to c.args.amount (pos 0)
settled_then c =
    let n = c.args.self.now in
    let here = goal.at.After-raise-then-to-wall c in
    let k = known here.After-index in
    let mid = with_items n.excess c.raise-2.new.numbers in
    let to = c.index.result.now.to in
    let raised : c.raise-then-to-wall.new.numbers ≡ set c.deref_mut-then-to-wall.result.now to (int_at c.deref_mut-then-to-wall.result.now to +ℤ (pos 0 -ℤ c.args.amount)) =
    rw (to_z-of_z c.ranges.amount, to_z-of_z k.turned_fits) at c.raise-then-to-wall.ensures in
    let last = raised_items mid c.deref_mut-then-to-wall.result.now c.raise-then-to-wall.new.numbers to (pos 0 -ℤ c.args.amount) c.deref_mut-then-to-wall.ensures.value raised in
    let inside : to < length n.excess.items = omega (arith, k.to, c.if-to-wall.true, c.wall.ensures, c.requires.sound.frame.excess) in
    deficit_to_item n.excess.items mid.items (with_items mid c.raise-then-to-wall.new.numbers).items c.args.item to c.args.amount k.item_in inside k.apart c.requires.some c.requires.amount (excess_is here.After-raise-2) last

-- and where the wall does
settled_else : (c : Else-to-wall) → IsSettled c.args.self.now.excess.items (with_items c.args.self.now.excess c.raise-2.new.numbers).items c.args.item c.index.result.now.to c.args.amount (pos 0)
settled_else c =
    let n = c.args.self.now in
    let here = goal.at.Else-to-wall c in
    let k = known here.After-index in
    let wall : c.index.result.now.to ≡ length n.excess.items = omega (arith, c.if-to-wall.false, c.wall.ensures, c.requires.sound.frame.excess) in
    deficit_to_wall n.excess.items (with_items n.excess c.raise-2.new.numbers).items c.args.item c.index.result.now.to c.args.amount k.item_in wall c.requires.some c.requires.amount (excess_is here.After-raise-2)

-- the network that is left
left : (c : After-raise-2) (excess : Vec ℤ Arena) → IsSettled c.args.self.now.excess.items excess.items c.args.item c.index.result.now.to c.args.amount (pos 0) →
    IsSound (record c.args.self.now { flow = with_items c.args.self.now.flow c.raise.new.numbers; excess = excess })
    × ((total_flow (with_items c.args.self.now.flow c.raise.new.numbers).items +ℤ total_size excess.items) ≤ℤ (load c.args.self.now +ℤ c.args.amount))
left c excess settled =
    let k = known (goal.at.After-raise-2 c).After-index in
    sent_over c.args.self.now (with_items c.args.self.now.flow c.raise.new.numbers) excess c.args.item c.index.result.now.to c.args.link c.args.amount c.requires.sound c.requires.link k.to_is (omega (arith, c.requires.item)) c.requires.some k.room (flow_is c) settled

pub returns-then-to-wall-clause-sound : goal.returns-then-to-wall-clause-sound
returns-then-to-wall-clause-sound c =
    let here = goal.at.returns-then-to-wall-clause-sound c in
    (left here.After-raise-2 _ (settled_then here.After-raise-then-to-wall)).0

pub returns-then-to-wall-clause-gone : goal.returns-then-to-wall-clause-gone
returns-then-to-wall-clause-gone c =
    let here = goal.at.returns-then-to-wall-clause-gone c in
    let k = known here.After-index in
    deficit_gone c.args.self.now.excess.items _ c.args.item c.index.result.now.to c.args.amount (pos 0) (settled_then here.After-raise-then-to-wall) k.item_in k.apart c.requires.amount

pub returns-then-to-wall-clause-load : goal.returns-then-to-wall-clause-load
returns-then-to-wall-clause-load c =
    let here = goal.at.returns-then-to-wall-clause-load c in
    (left here.After-raise-2 (with_items (with_items c.args.self.now.excess c.raise-2.new.numbers) c.raise-then-to-wall.new.numbers) (settled_then here.After-raise-then-to-wall)).1

pub returns-else-to-wall-clause-sound : goal.returns-else-to-wall-clause-sound
returns-else-to-wall-clause-sound c =
    let here = goal.at.returns-else-to-wall-clause-sound c in
    (left here.After-raise-2 _ (settled_else here.Else-to-wall)).0

pub returns-else-to-wall-clause-gone : goal.returns-else-to-wall-clause-gone
returns-else-to-wall-clause-gone c =
    let here = goal.at.returns-else-to-wall-clause-gone c in
    let k = known here.After-index in
    deficit_gone c.args.self.now.excess.items _ c.args.item c.index.result.now.to c.args.amount (pos 0) (settled_else here.Else-to-wall) k.item_in k.apart c.requires.amount

pub returns-else-to-wall-clause-load : goal.returns-else-to-wall-clause-load
returns-else-to-wall-clause-load c =
    let here = goal.at.returns-else-to-wall-clause-load c in
    (left here.After-raise-2 (with_items c.args.self.now.excess c.raise-2.new.numbers) (settled_else here.Else-to-wall)).1
