-- The flow is sent, and the excess is changed at the start and, where an item takes the flow, at the end.
use Rattle.std.proofs.Common.{◌≡◌, ◌≢◌, ℕ, ◌<◌, ◌≤◌, ◌^◌, ℤ, pos, neg_ℤ, ◌+ℤ◌, ◌-ℤ◌, ◌<ℤ◌, ◌≤ℤ◌, FitsSigned, Vec, List, length, get_or, set, arith, sym, ap, subst, ◌∙◌, to_z, of_z, to_z-of_z, lit<, get_or-set_other}
use Rattle.separation_model.specs.Arena.{Arena}
use mir.Syntax.{w128}
use Rattle.std.proofs.lemmas.Int.{ints, fits_signed_from_abs}
use Rattle.std.proofs.lemmas.List.{get_or_read}
use Rattle.separation_model.specs.Bundle.{int_at}
use Rattle.separation_solve.specs.declared.network.Network.{Network}
use Rattle.separation_solve.specs.declared.reach.Reach.{Reach}
use Rattle.separation_solve.specs.declared.reach.Step.{Step}
use Rattle.separation_solve.specs.Network.{IsSound, items_of}
use Rattle.separation_solve.specs.Push.{IsSent, KeepsRest, TakesAmount}
use Rattle.separation_solve.specs.Reach.{IsWay, start_of, step_at}
use Rattle.separation_solve.proofs.Searches.Leads.{excess_size}
use Rattle.separation_solve.proofs.Searches.Pushing.{IsSettled, pushed, rest_is, settled_at_item, settled_at_wall}
use Rattle.separation_solve.proofs.Searches.Sending.{amount_size, change_fits}
use Rattle.separation_solve.proofs.LightFractions.Spots.{cast_is}
use Rattle.separation_solve.proofs.network.Network.push.Goals as goal
use Rattle.separation_solve.proofs.network.Network.push.Goals.{After-send, Then-end-wall, Else-end-wall, After-index_mut-then-end-wall}

-- the list with the amount added at the index, and taken away there, as the code does it
abbrev raised_at : List ℤ → ℕ → ℤ → ℤ → List ℤ
raised_at zs i x a = set zs i (to_z w128 (of_z w128 (to_z w128 (of_z w128 x) +ℤ to_z w128 (of_z w128 a))))

abbrev lowered_at : List ℤ → ℕ → ℤ → ℤ → List ℤ
lowered_at zs i x a = set zs i (to_z w128 (of_z w128 (to_z w128 (of_z w128 x) -ℤ to_z w128 (of_z w128 a))))

-- what is known when the flow has been sent
record Sent (n now : Network) (r : Reach) (k : ℕ) (a : ℤ) : Type 0 where
  fits : FitsSigned w128 a
  sent : IsSent n r k 0 a now.flow.items
  excess : now.excess.items ≡ n.excess.items
  start_in : start_of r < length n.excess.items
  capacity : a ≤ℤ neg_ℤ (int_at n.excess.items (start_of r))
  start_fits : FitsSigned w128 (int_at n.excess.items (start_of r)) × FitsSigned w128 (int_at n.excess.items (start_of r) +ℤ a)

sent_known : (n now : Network) (r : Reach) (k : ℕ) (a : ℤ) → IsSound n → IsWay n (start_of r) r k → pos 0 <ℤ a → a ≤ℤ (step_at r.steps.items k).capacity → IsSent n r k 0 (to_z w128 (of_z w128 a)) now.flow.items → KeepsRest n now → Sent n now r k a
sent_known n now r k a sound way some capacity sent rest =
    let size = amount_size n (start_of r) r k a sound way.reach way.target some capacity in
    let fits : FitsSigned w128 a = fits_signed_from_abs w128 a (omega (arith, size, lit< {m = 92480000000000000000000000000} {n = 2 ^ 127} tt)) in
    let small = excess_size n (start_of r) sound in
    let both = change_fits (int_at n.excess.items (start_of r)) a (omega (arith, small)) size in
    record {
      fits = fits;
      sent = subst (λ z. IsSent n r k 0 z now.flow.items) (to_z-of_z fits) sent;
      excess = ap (λ (v : Vec ℤ Arena). v.items) rest.excess;
      start_in = omega (arith, way.reach.start_item, sound.frame.excess);
      capacity = omega (arith, ints, capacity, (way.reach.steps k way.target).most);
      start_fits = (both.0, both.1);
    }

-- here
sent_here : (c : After-send) → Sent c.args.self.now c.send.new.self c.args.reach.now c.args.target c.sendable-amount.result
sent_here c =
    let amount = c.sendable-amount.ensures in
    sent_known c.args.self.now c.send.new.self c.args.reach.now c.args.target c.sendable-amount.result c.requires.sound c.requires.way amount.some amount.capacity c.send.ensures.sent c.send.ensures.rest

-- the start that was read
first_is : (r : Reach) (s : Step) → 0 < length r.steps.items → s ≡ get_or r.steps.items 0 s → s.node ≡ start_of r
first_is r s h e = ap (λ (t : Step). t.node) (get_or_read r.steps.items 0 s h e _)

-- the start's excess, as it was read
at_start : (n now : Network) (r : Reach) (k : ℕ) (a : ℤ) (s : Step) (x : ℤ) → IsWay n (start_of r) r k → Sent n now r k a → s ≡ get_or r.steps.items 0 s → x ≡ get_or now.excess.items s.node x → to_z w128 (of_z w128 x) ≡ int_at n.excess.items (start_of r)
at_start n now r k a s x way sent e read =
    let same : x ≡ get_or n.excess.items (start_of r) x = read ∙ ap (λ zs. get_or zs s.node x) sent.excess ∙ ap (λ i. get_or n.excess.items i x) (first_is r s way.reach.some e) in
    cast_is w128 x (int_at n.excess.items (start_of r)) (get_or_read n.excess.items (start_of r) x sent.start_in same (pos 0)) sent.start_fits.0

-- the excess with the amount added at the start
raised : (n now : Network) (r : Reach) (k : ℕ) (a : ℤ) (s : Step) (x : ℤ) → IsWay n (start_of r) r k → Sent n now r k a → s ≡ get_or r.steps.items 0 s → x ≡ get_or now.excess.items s.node x →
    raised_at now.excess.items s.node x a ≡ set n.excess.items (start_of r) (int_at n.excess.items (start_of r) +ℤ a)
raised n now r k a s x way sent e read =
    let z = at_start n now r k a s x way sent e read in
    ap (λ zs. set zs s.node (to_z w128 (of_z w128 (to_z w128 (of_z w128 x) +ℤ to_z w128 (of_z w128 a))))) sent.excess
    ∙ ap (λ i. set n.excess.items i (to_z w128 (of_z w128 (to_z w128 (of_z w128 x) +ℤ to_z w128 (of_z w128 a))))) (first_is r s way.reach.some e)
    ∙ ap (λ y. set n.excess.items (start_of r) (to_z w128 (of_z w128 (y +ℤ to_z w128 (of_z w128 a))))) z
    ∙ ap (λ y. set n.excess.items (start_of r) (to_z w128 (of_z w128 (int_at n.excess.items (start_of r) +ℤ y)))) (to_z-of_z sent.fits)
    ∙ ap (set n.excess.items (start_of r)) (to_z-of_z sent.start_fits.1)

pub overflow_add-index_mut : goal.overflow_add-index_mut
overflow_add-index_mut c =
    let k = sent_here (goal.at.overflow_add-index_mut c).After-send in
    let z = at_start c.args.self.now c.send.new.self c.args.reach.now c.args.target c.sendable-amount.result c.index.result.now c.index_mut.result.now c.requires.way k c.index.ensures c.index_mut.ensures.value in
    rw (z, to_z-of_z k.fits) k.start_fits.1

-- the node that takes the flow is an item, and not the start
record AtEnd (n : Network) (r : Reach) (k : ℕ) (a : ℤ) (t : Step) : Type 0 where
  is : t.node ≡ (step_at r.steps.items k).node
  inside : (step_at r.steps.items k).node < length n.excess.items
  apart : start_of r ≢ (step_at r.steps.items k).node
  capacity : a ≤ℤ int_at n.excess.items (step_at r.steps.items k).node
  fits : FitsSigned w128 (int_at n.excess.items (step_at r.steps.items k).node) × FitsSigned w128 (int_at n.excess.items (step_at r.steps.items k).node -ℤ a)

at_end : (n : Network) (r : Reach) (k : ℕ) (a : ℤ) (t : Step) → IsSound n → IsWay n (start_of r) r k → pos 0 <ℤ a → a ≤ℤ (step_at r.steps.items k).capacity → TakesAmount n (step_at r.steps.items k).node a → t ≡ get_or r.steps.items k t → (t.node ≡ items_of n → ⊥) → AtEnd n r k a t
at_end n r k a t sound way some capacity taken e other =
    let is : t.node ≡ (step_at r.steps.items k).node = ap (λ (u : Step). u.node) (get_or_read r.steps.items k t way.target e _) in
    let end = (step_at r.steps.items k).node in
    let within : end ≤ items_of n = (way.reach.steps k way.target).node in
    let ne : end ≢ items_of n = λ q. other (is ∙ q) in
    let takes = taken ne in
    let size = amount_size n (start_of r) r k a sound way.reach way.target some capacity in
    let both = change_fits (int_at n.excess.items end) a (omega (arith, excess_size n end sound)) size in
    record {
      is = is;
      inside = omega (arith, within, ne, sound.frame.excess);
      apart = λ q. absurd (let h = ap (int_at n.excess.items) q in omega (arith, ints, h, takes, way.reach.start_short));
      capacity = takes;
      fits = (both.0, both.2);
    }

-- here
end_here : (c : Then-end-wall) → AtEnd c.args.self.now c.args.reach.now c.args.target c.sendable-amount.result c.index-2.result.now
end_here c =
    let amount = c.sendable-amount.ensures in
    at_end c.args.self.now c.args.reach.now c.args.target c.sendable-amount.result c.index-2.result.now c.requires.sound c.requires.way amount.some amount.capacity amount.taken c.index-2.ensures
    (λ e. c.if-end-wall.true (e ∙ sym (c.wall.ensures ∙ ap (λ (v : Vec ℤ Arena). length v.items) c.send.ensures.rest.wants)))

-- its excess, as it was read
end_is : (n now : Network) (r : Reach) (k : ℕ) (a : ℤ) (s t : Step) (x y : ℤ) → IsWay n (start_of r) r k → Sent n now r k a → s ≡ get_or r.steps.items 0 s → x ≡ get_or now.excess.items s.node x → AtEnd n r k a t →
    y ≡ get_or (raised_at now.excess.items s.node x a) t.node y → to_z w128 (of_z w128 y) ≡ int_at n.excess.items (step_at r.steps.items k).node
end_is n now r k a s t x y way sent e read end last =
    let zs = n.excess.items in
    let i = (step_at r.steps.items k).node in
    let same : y ≡ get_or zs i y = last ∙ ap (λ l. get_or l t.node y) (raised n now r k a s x way sent e read) ∙ ap (λ m. get_or (set zs (start_of r) (int_at zs (start_of r) +ℤ a)) m y) end.is
    ∙ get_or-set_other zs (start_of r) i (int_at zs (start_of r) +ℤ a) y (λ q. end.apart (sym q)) in
    cast_is w128 y (int_at zs i) (get_or_read zs i y end.inside same (pos 0)) end.fits.0

pub overflow_sub-index_mut : goal.overflow_sub-index_mut
overflow_sub-index_mut c =
    let here = goal.at.overflow_sub-index_mut c in
    let k = sent_here here.After-send in
    let end = end_here here.Then-end-wall in
    let y = end_is c.args.self.now c.send.new.self c.args.reach.now c.args.target c.sendable-amount.result c.index.result.now c.index-2.result.now c.index_mut.result.now c.index_mut-then-end-wall.result.now c.requires.way k c.index.ensures c.index_mut.ensures.value end c.index_mut-then-end-wall.ensures.value in
    rw (y, to_z-of_z k.fits) end.fits.1

-- the excess with the amount taken away at the end too
lowered : (n now : Network) (r : Reach) (k : ℕ) (a : ℤ) (s t : Step) (x y : ℤ) → IsWay n (start_of r) r k → Sent n now r k a → s ≡ get_or r.steps.items 0 s → x ≡ get_or now.excess.items s.node x → AtEnd n r k a t →
    y ≡ get_or (raised_at now.excess.items s.node x a) t.node y →
    lowered_at (raised_at now.excess.items s.node x a) t.node y a
    ≡ set (set n.excess.items (start_of r) (int_at n.excess.items (start_of r) +ℤ a)) (step_at r.steps.items k).node (int_at n.excess.items (step_at r.steps.items k).node -ℤ a)
lowered n now r k a s t x y way sent e read end last =
    let zs = n.excess.items in
    let mid = set zs (start_of r) (int_at zs (start_of r) +ℤ a) in
    let i = (step_at r.steps.items k).node in
    let w = to_z w128 (of_z w128 (to_z w128 (of_z w128 y) -ℤ to_z w128 (of_z w128 a))) in
    ap (λ l. set l t.node w) (raised n now r k a s x way sent e read)
    ∙ ap (λ m. set mid m w) end.is
    ∙ ap (λ z. set mid i (to_z w128 (of_z w128 (z -ℤ to_z w128 (of_z w128 a))))) (end_is n now r k a s t x y way sent e read end last)
    ∙ ap (λ z. set mid i (to_z w128 (of_z w128 (int_at zs i -ℤ z)))) (to_z-of_z sent.fits)
    ∙ ap (set mid i) (to_z-of_z end.fits.1)

-- the network that a push leaves
left : (n now : Network) (excess : Vec ℤ Arena) (r : Reach) (k : ℕ) (a : ℤ) → IsSound n → IsWay n (start_of r) r k → pos 0 <ℤ a → Sent n now r k a → KeepsRest n now → IsSettled n.excess.items excess.items (start_of r) (step_at r.steps.items k).node a a → IsSound (record now { excess = excess })
left n now excess r k a sound way some sent rest settled =
    subst IsSound (sym (ap (λ (m : Network). record m { excess = excess }) (rest_is n now rest))) (pushed n now.flow excess r k a sound way.reach way.target some sent.sent settled)

-- the node that takes the flow is the wall
at_wall : (n : Network) (r : Reach) (k : ℕ) (t : Step) → IsSound n → IsWay n (start_of r) r k → t ≡ get_or r.steps.items k t → t.node ≡ items_of n → (step_at r.steps.items k).node ≡ length n.excess.items
at_wall n r k t sound way e wall = sym (ap (λ (u : Step). u.node) (get_or_read r.steps.items k t way.target e _)) ∙ wall ∙ sym sound.frame.excess

falls : (t u a : ℤ) → pos 0 <ℤ a → (t +ℤ a) ≤ℤ u → t <ℤ u
falls t u a some less = omega (arith, ints)

-- the excess that is left where an item takes the flow
settled_then : (c : After-index_mut-then-end-wall) → IsSettled c.args.self.now.excess.items
    (lowered_at (raised_at c.send.new.self.excess.items c.index.result.now.node c.index_mut.result.now c.sendable-amount.result) c.index-2.result.now.node c.index_mut-then-end-wall.result.now c.sendable-amount.result)
    (start_of c.args.reach.now) (step_at c.args.reach.now.steps.items c.args.target).node c.sendable-amount.result c.sendable-amount.result
settled_then c =
    let n = c.args.self.now in
    let r = c.args.reach.now in
    let a = c.sendable-amount.result in
    let here = goal.at.After-index_mut-then-end-wall c in
    let k = sent_here here.After-send in
    let end = end_here here.Then-end-wall in
    let node = (step_at r.steps.items c.args.target).node in
    let is = lowered n c.send.new.self r c.args.target a c.index.result.now c.index-2.result.now c.index_mut.result.now c.index_mut-then-end-wall.result.now c.requires.way k c.index.ensures c.index_mut.ensures.value end c.index_mut-then-end-wall.ensures.value in
    subst (λ es. IsSettled n.excess.items es (start_of r) node a a) (sym is)
    (settled_at_item n.excess.items (start_of r) node a a k.start_in end.inside end.apart c.sendable-amount.ensures.some k.capacity (omega (arith, ints, end.capacity)))

-- and where the wall takes it
settled_else : (c : Else-end-wall) → IsSettled c.args.self.now.excess.items
    (raised_at c.send.new.self.excess.items c.index.result.now.node c.index_mut.result.now c.sendable-amount.result)
    (start_of c.args.reach.now) (step_at c.args.reach.now.steps.items c.args.target).node c.sendable-amount.result c.sendable-amount.result
settled_else c =
    let n = c.args.self.now in
    let r = c.args.reach.now in
    let a = c.sendable-amount.result in
    let k = sent_here (goal.at.Else-end-wall c).After-send in
    let node = (step_at r.steps.items c.args.target).node in
    let is = raised n c.send.new.self r c.args.target a c.index.result.now c.index_mut.result.now c.requires.way k c.index.ensures c.index_mut.ensures.value in
    let end : node ≡ length n.excess.items = at_wall n r c.args.target c.index-2.result.now c.requires.sound c.requires.way c.index-2.ensures
    (c.if-end-wall.false ∙ c.wall.ensures ∙ ap (λ (v : Vec ℤ Arena). length v.items) c.send.ensures.rest.wants) in
    subst (λ es. IsSettled n.excess.items es (start_of r) node a a) (sym is)
    (settled_at_wall n.excess.items (start_of r) node a k.start_in end c.sendable-amount.ensures.some k.capacity)

pub returns-then-end-wall-clause-sound : goal.returns-then-end-wall-clause-sound
returns-then-end-wall-clause-sound c =
    let here = goal.at.returns-then-end-wall-clause-sound c in
    left c.args.self.now c.send.new.self _ c.args.reach.now c.args.target c.sendable-amount.result c.requires.sound c.requires.way c.sendable-amount.ensures.some
    (sent_here here.After-send) c.send.ensures.rest (settled_then here.After-index_mut-then-end-wall)

pub returns-then-end-wall-clause-less : goal.returns-then-end-wall-clause-less
returns-then-end-wall-clause-less c =
    falls _ _ c.sendable-amount.result c.sendable-amount.ensures.some (settled_then (goal.at.returns-then-end-wall-clause-less c).After-index_mut-then-end-wall).less

pub returns-else-end-wall-clause-sound : goal.returns-else-end-wall-clause-sound
returns-else-end-wall-clause-sound c =
    let here = goal.at.returns-else-end-wall-clause-sound c in
    left c.args.self.now c.send.new.self _ c.args.reach.now c.args.target c.sendable-amount.result c.requires.sound c.requires.way c.sendable-amount.ensures.some
    (sent_here here.After-send) c.send.ensures.rest (settled_else here.Else-end-wall)

pub returns-else-end-wall-clause-less : goal.returns-else-end-wall-clause-less
returns-else-end-wall-clause-less c =
    falls _ _ c.sendable-amount.result c.sendable-amount.ensures.some (settled_else (goal.at.returns-else-end-wall-clause-less c).Else-end-wall).less
