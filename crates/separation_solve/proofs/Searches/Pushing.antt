-- What a push leaves.
use Rattle.std.proofs.Common.{◌≡◌, ◌≢◌, ℕ, ◌<◌, ℤ, pos, neg_ℤ, ◌-ℤ◌, ◌+ℤ◌, ◌*ℤ◌, ◌≤ℤ◌, ◌<ℤ◌, unsigned_abs, Vec, List, [], ◌∷◌, length, set, arith, refl, ap, sym, subst, ◌∙◌, ⊎_elim, length-set, get_or-set_other, get_or-set_same}
use Rattle.separation_model.specs.Arena.{Arena}
use Rattle.std.proofs.lemmas.Bool.{cases_eq}
use Rattle.std.proofs.lemmas.Int.{ints}
use Rattle.separation_model.specs.Bundle.{int_at}
use Rattle.separation_solve.specs.declared.network.Network.{Network}
use Rattle.separation_solve.specs.declared.reach.Reach.{Reach}
use Rattle.separation_solve.specs.Network.{IsSound, items_of, total_size}
use Rattle.separation_solve.specs.Push.{IsSent, KeepsRest}
use Rattle.separation_solve.specs.Reach.{IsReach, start_of, step_at}
use Rattle.separation_model.specs.Sum.{here, sum_below}
use Rattle.separation_solve.proofs.Networks.Forces.{frame_with, kept_with}
use Rattle.separation_model.proofs.Arithmetic.Exchange.{here_same, here_other}
use Rattle.separation_model.proofs.Arithmetic.Order.{mul-mono}
use Rattle.separation_model.proofs.Arithmetic.Ring.{ring, var, ◌⊕◌, ◌⊗◌}
use Rattle.separation_model.proofs.Arithmetic.Sums.{sum_below-at}

-- the network, except its flow
pub rest_is : (n now : Network) → KeepsRest n now → now ≡ record n { flow = now.flow }
rest_is n now rest = λ i. record {
  links = rest.links i;
  tight = rest.tight i;
  wants = rest.wants i;
  weights = rest.weights i;
  mirrored = rest.mirrored i;
  places = rest.places i;
  flow = now.flow;
  excess = rest.excess i;
}

-- the sum of sizes, after one number changed
pub total_size-set : (zs : List ℤ) (i : ℕ) (z : ℤ) → i < length zs → total_size (set zs i z) +ℤ pos (unsigned_abs (int_at zs i)) ≡ total_size zs +ℤ pos (unsigned_abs z)
total_size-set zs i z h =
    let size = λ (ys : List ℤ) (k : ℕ). pos (unsigned_abs (int_at ys k)) in
    let new = set zs i z in
    let same : size new i ≡ pos (unsigned_abs z) = ap (λ x. pos (unsigned_abs x)) (get_or-set_same zs i z (pos 0) h) in
    let change = sum_below-at (length zs) (size zs) (size new) i h (λ k m other. ap (λ x. pos (unsigned_abs x)) (sym (get_or-set_other zs i k z (pos 0) other))) in
    let long : total_size new ≡ sum_below (length zs) (size new) = ap (λ k. sum_below k (size new)) (length-set zs i z) in
    omega (arith, ints, same, change, long)

-- the excess after an amount was sent from one node to another, which lets its size fall at least so far
pub record IsSettled (old new : List ℤ) (from to : ℕ) (a fall : ℤ) : Type 0 where
  pub long : length new ≡ length old
  pub each : (i : ℕ) → i < length old → int_at new i ≡ (int_at old i +ℤ here from i a) -ℤ here to i a
  pub less : (total_size new +ℤ fall) ≤ℤ total_size old

-- to the wall
pub settled_at_wall : (zs : List ℤ) (from to : ℕ) (a : ℤ) → from < length zs → to ≡ length zs → pos 0 <ℤ a → a ≤ℤ neg_ℤ (int_at zs from) → IsSettled zs (set zs from (int_at zs from +ℤ a)) from to a a
settled_at_wall zs from to a h wall some capacity =
    let z = int_at zs from +ℤ a in
    record {
      long = length-set zs from z;
      each = λ i m.
          let none = here_other to i a (λ e. absurd (omega arith)) in
          ⊎_elim
          (λ (e : i ≡ from). subst (λ k. int_at (set zs from z) k ≡ (int_at zs k +ℤ here from k a) -ℤ here to k a) (sym e)
          (omega (arith, ints, get_or-set_same zs from z (pos 0) h, here_same from from a refl, here_other to from a (λ q. absurd (omega arith)))))
          (λ (ne : i ≡ from → ⊥). omega (arith, ints, get_or-set_other zs from i z (pos 0) ne, here_other from i a (λ q. ne (sym q)), none))
          (cases_eq i from);
      less = omega (arith, ints, total_size-set zs from z h);
    }

-- to an item
pub settled_at_item : (zs : List ℤ) (from to : ℕ) (a fall : ℤ) → from < length zs → to < length zs → from ≢ to → pos 0 <ℤ a → a ≤ℤ neg_ℤ (int_at zs from) → (pos (unsigned_abs (int_at zs to -ℤ a)) +ℤ fall) ≤ℤ (pos (unsigned_abs (int_at zs to)) +ℤ a) →
    IsSettled zs (set (set zs from (int_at zs from +ℤ a)) to (int_at zs to -ℤ a)) from to a fall
settled_at_item zs from to a fall h k apart some capacity takes =
    let z = int_at zs from +ℤ a in
    let w = int_at zs to -ℤ a in
    let mid = set zs from z in
    let mid_long = length-set zs from z in
    let kept : int_at mid to ≡ int_at zs to = get_or-set_other zs from to z (pos 0) (λ q. apart (sym q)) in
    let inside : to < length mid = omega (arith, mid_long) in
    record {
      long = length-set mid to w ∙ mid_long;
      each = λ i m. ⊎_elim
          (λ (e : i ≡ to). subst (λ k. int_at (set mid to w) k ≡ (int_at zs k +ℤ here from k a) -ℤ here to k a) (sym e)
          (omega (arith, ints, get_or-set_same mid to w (pos 0) inside, here_same to to a refl, here_other from to a apart)))
          (λ (ne : i ≡ to → ⊥).
          let other = get_or-set_other mid to i w (pos 0) ne in
          let none = here_other to i a (λ q. ne (sym q)) in
          ⊎_elim
          (λ (e : i ≡ from). subst (λ k. int_at (set mid to w) k ≡ int_at mid k → here to k a ≡ pos 0 → int_at (set mid to w) k ≡ (int_at zs k +ℤ here from k a) -ℤ here to k a) (sym e)
          (λ o n. omega (arith, ints, o, n, get_or-set_same zs from z (pos 0) h, here_same from from a refl)) other none)
          (λ (nf : i ≡ from → ⊥). omega (arith, ints, other, none, get_or-set_other zs from i z (pos 0) nf, here_other from i a (λ q. nf (sym q))))
          (cases_eq i from))
          (cases_eq i to);
      less = omega (arith, ints, total_size-set zs from z h, total_size-set mid to w inside, ap (λ x. pos (unsigned_abs x)) kept);
    }

-- the network with the flow sent on
pub pushed : (n : Network) (flow excess : Vec ℤ Arena) (r : Reach) (target : ℕ) (a : ℤ) → IsSound n → IsReach n (start_of r) r → target < length r.steps.items → pos 0 <ℤ a →
    IsSent n r target 0 a flow.items → IsSettled n.excess.items excess.items (start_of r) (step_at r.steps.items target).node a a → IsSound (record n { flow = flow; excess = excess })
pushed n flow excess r target a sound reach h some sent settled =
    let m : Network = record n { flow = flow; excess = excess } in
    let frame = sound.frame in
    let old = sound.flow in
    let T = total_size n.excess.items in
    let t = total_size excess.items in
    let k = items_of n in
    record {
      frame = frame_with n flow excess frame sent.links settled.long;
      kept = kept_with n flow excess sound.kept;
      tight = sound.tight;
      flow = record {
        sign = sent.sign;
        tight = sent.tight;
        excess = λ i l.
            let inside : i < length n.excess.items = omega (arith, l, settled.long) in
            omega (arith, ints, settled.each i inside, old.excess i inside, sent.net i);
        small = omega (arith, ints, settled.less, old.small);
        small_each = λ j l. let inside : j < length n.flow.items = omega (arith, l, sent.links) in omega (arith, ints, settled.less, sent.most j l, old.small_each j inside);
        small_all =
            let far : (pos target *ℤ a) ≤ℤ (pos k *ℤ a) =
            omega (arith, ints, mul-mono a (pos target) (pos k) (omega (arith, ints, some)) (omega (arith, ints, h, reach.count, reach.nodes))) in
            let down : (pos k *ℤ (t +ℤ a)) ≤ℤ (pos k *ℤ T) = mul-mono (pos k) (t +ℤ a) T (omega (arith, ints)) settled.less in
            let both : pos k *ℤ (t +ℤ a) ≡ (pos k *ℤ t) +ℤ (pos k *ℤ a) = ring (pos k ∷ t ∷ a ∷ []) (var 0 ⊗ (var 1 ⊕ var 2)) ((var 0 ⊗ var 1) ⊕ (var 0 ⊗ var 2)) refl in
            omega (arith, ints, far, down, both, sent.total, old.small_all);
      };
    }
