-- Flow that is sent along a way, link by link.
use Rattle.std.proofs.Common.{◌≡◌, ◌≢◌, ◌⊎◌, ℕ, ◌+◌, ◌^◌, ◌<◌, ◌≤◌, ℤ, pos, neg_ℤ, ◌-ℤ◌, ◌+ℤ◌, ◌*ℤ◌, ◌≤ℤ◌, ◌<ℤ◌, FitsSigned, unsigned_abs, Option, Some, None, List, [], ◌∷◌, length, set, MatchOption, arith, refl, ap, sym, subst, ◌∙◌, inl, inr, ⊎_elim, length-set, get_or-set_other, get_or-set_same, lit<}
use mir.Syntax.{w128}
use Rattle.std.proofs.lemmas.Bool.{cases_eq}
use Rattle.std.proofs.lemmas.Int.{ints, fits_signed_from_abs}
use Rattle.std.proofs.lemmas.Option.{MatchOption-at_none, MatchOption-at_some, same_Some}
use Rattle.separation_model.specs.Bundle.{int_at}
use Rattle.separation_solve.specs.declared.network.Link.{Link}
use Rattle.separation_solve.specs.declared.network.Network.{Network}
use Rattle.separation_solve.specs.declared.reach.Reach.{Reach}
use Rattle.separation_solve.specs.declared.reach.Via.{Via}
use Rattle.separation_solve.specs.Network.{IsSound, IsTight, link_at, net_flow, total_flow, no_link}
use Rattle.separation_solve.specs.Push.{IsSent, KeepsRest}
use Rattle.separation_solve.specs.Reach.{IsAfter, IsLead, IsReach, found_at, step_at}
use Rattle.separation_model.specs.Sum.{here, sum_below}
use Rattle.separation_model.proofs.Arithmetic.Exchange.{here_same, here_other, sum_at-set}
use Rattle.separation_solve.proofs.Searches.Leads.{excess_size, total_size_sign}
use Rattle.separation_model.proofs.Arithmetic.Order.{mul-mono}
use Rattle.separation_model.proofs.Arithmetic.Ring.{ring, var, num, ◌⊕◌, ◌⊗◌}
use Rattle.separation_model.proofs.Arithmetic.Sums.{sum_below-at}
use Rattle.separation_solve.proofs.Lists.Optional.{match_option}

-- what is known of a step that was reached over a link
pub via_at : (n : Network) (start : ℕ) (r : Reach) (k : ℕ) (via : Via) → IsReach n start r → k < length r.steps.items → (step_at r.steps.items k).via ≡ Some via →
    (via.parent < k) × IsAfter n via.link (step_at r.steps.items via.parent) (step_at r.steps.items k)
via_at n start r k via reach h e =
    MatchOption-at_some (k ≡ 0) (λ v. (v.parent < k) × IsAfter n v.link (step_at r.steps.items v.parent) (step_at r.steps.items k)) via e (reach.come_by k h)

-- a step with no link before it is the first
pub first_at : (n : Network) (start : ℕ) (r : Reach) (k : ℕ) → IsReach n start r → k < length r.steps.items → (step_at r.steps.items k).via ≡ None → k ≡ 0
first_at n start r k reach h e =
    MatchOption-at_none (k ≡ 0) (λ v. (v.parent < k) × IsAfter n v.link (step_at r.steps.items v.parent) (step_at r.steps.items k)) e (reach.come_by k h)

-- no node is reached by two steps
node_once : (n : Network) (start : ℕ) (r : Reach) (k m : ℕ) → IsReach n start r → k < length r.steps.items → m < length r.steps.items → (step_at r.steps.items k).node ≡ (step_at r.steps.items m).node → k ≡ m
node_once n start r k m reach h l e = same_Some k m (sym (reach.once k h) ∙ ap (found_at r.found.items) e ∙ reach.once m l)

-- so no link leads to two steps
pub link_once : (n : Network) (start : ℕ) (r : Reach) (k m : ℕ) (v u : Via) → IsReach n start r → k < length r.steps.items → m < k → (step_at r.steps.items k).via ≡ Some v → (step_at r.steps.items m).via ≡ Some u → u.link ≢ v.link
link_once n start r k m v u reach h l k_via m_via same =
    let inside : m < length r.steps.items = omega arith in
    let k_at = via_at n start r k v reach h k_via in
    let m_at = via_at n start r m u reach inside m_via in
    let nodes = λ (i : ℕ). (step_at r.steps.items i).node in
    let two : IsLead n v.link (nodes u.parent) (nodes m) = subst (λ j. IsLead n j (nodes u.parent) (nodes m)) same m_at.1.lead in
    let not_m : nodes k ≡ nodes m → ⊥ = λ e. absurd (let q = node_once n start r k m reach h inside e in omega arith) in
    let not_parent : nodes k ≡ nodes u.parent → ⊥ = λ e. absurd (let q = node_once n start r k u.parent reach h (omega (arith, m_at.0)) e in omega (arith, m_at.0)) in
    ⊎_elim
    (λ p. ⊎_elim (λ q. not_m (sym p.1 ∙ q.1)) (λ q. not_parent (sym p.1 ∙ q.0)) two)
    (λ p. ⊎_elim (λ q. not_parent (sym p.1 ∙ q.0)) (λ q. not_m (sym p.1 ∙ q.1)) two)
    k_at.1.lead

here-add : (k i : ℕ) (a b : ℤ) → here k i (a +ℤ b) ≡ here k i a +ℤ here k i b
here-add k i a b =
    ⊎_elim
    (λ (e : k ≡ i). omega (arith, ints, here_same k i (a +ℤ b) e, here_same k i a e, here_same k i b e))
    (λ (e : k ≡ i → ⊥). omega (arith, ints, here_other k i (a +ℤ b) e, here_other k i a e, here_other k i b e))
    (cases_eq k i)

pub here-neg : (k i : ℕ) (a : ℤ) → here k i (neg_ℤ a) ≡ neg_ℤ (here k i a)
here-neg k i a =
    ⊎_elim
    (λ (e : k ≡ i). omega (arith, ints, here_same k i (neg_ℤ a) e, here_same k i a e))
    (λ (e : k ≡ i → ⊥). omega (arith, ints, here_other k i (neg_ℤ a) e, here_other k i a e))
    (cases_eq k i)

-- the net flow, after the flow over one link changed
pub net_flow-set : (links : List Link) (flow : List ℤ) (j : ℕ) (d : ℤ) (i : ℕ) → j < length links → length links ≡ length flow →
    net_flow links (set flow j (int_at flow j +ℤ d)) i ≡ (net_flow links flow i +ℤ here (link_at links j).to i d) -ℤ here (link_at links j).from i d
net_flow-set links flow j d i h e =
    let z = int_at flow j in
    omega (
      arith,
      ints,
      sum_at-set (λ (l : Link). l.to) i links flow j (z +ℤ d) no_link h e,
      sum_at-set (λ (l : Link). l.from) i links flow j (z +ℤ d) no_link h e,
      here-add (link_at links j).to i z d,
      here-add (link_at links j).from i z d,
    )

-- the total, after one flow changed
pub total_flow-set : (flow : List ℤ) (j : ℕ) (d : ℤ) → j < length flow → total_flow (set flow j (int_at flow j +ℤ d)) ≡ total_flow flow +ℤ d
total_flow-set flow j d h =
    let new = set flow j (int_at flow j +ℤ d) in
    let same : int_at new j ≡ int_at flow j +ℤ d = get_or-set_same flow j (int_at flow j +ℤ d) (pos 0) h in
    let change = sum_below-at (length flow) (int_at flow) (int_at new) j h (λ i m other. sym (rw get_or-set_other refl)) in
    let long : total_flow new ≡ sum_below (length flow) (int_at new) = ap (λ k. sum_below k (int_at new)) (length-set flow j (int_at flow j +ℤ d)) in
    omega (arith, ints, same, change, long)

-- what holds of each number still does after one was changed
pub each_set : (flow : List ℤ) (j : ℕ) (z : ℤ) (P : ℕ → ℤ → Type 0) → j < length flow → P j z → ((i : ℕ) → i < length flow → P i (int_at flow i)) → (i : ℕ) → i < length (set flow j z) → P i (int_at (set flow j z) i)
each_set flow j z P h here rest i m =
    ⊎_elim
    (λ (e : i ≡ j). subst (λ k. P k (int_at (set flow j z) k)) (sym e) (subst (P j) (sym (get_or-set_same flow j z (pos 0) h)) here))
    (λ (ne : i ≡ j → ⊥). subst (P i) (sym (get_or-set_other flow j i z (pos 0) ne)) (rest i (omega (arith, m, length-set flow j z))))
    (cases_eq i j)

-- the amount sent over one link more, forward or back
pub sent_on : (n : Network) (start : ℕ) (r : Reach) (target at : ℕ) (v : Via) (a d : ℤ) (flow : List ℤ) → IsSound n → IsReach n start r → at < length r.steps.items → (step_at r.steps.items at).via ≡ Some v →
    IsSent n r target at a flow → pos 0 <ℤ a → int_at flow v.link ≡ int_at n.flow.items v.link →
    (((link_at n.links.items v.link).from ≡ (step_at r.steps.items v.parent).node) × ((link_at n.links.items v.link).to ≡ (step_at r.steps.items at).node) × (d ≡ a))
    ⊎ (((link_at n.links.items v.link).to ≡ (step_at r.steps.items v.parent).node) × ((link_at n.links.items v.link).from ≡ (step_at r.steps.items at).node) × (d ≡ neg_ℤ a)) →
    pos 0 ≤ℤ (int_at flow v.link +ℤ d) → IsTight n.places.items (link_at n.links.items v.link) → IsSent n r target v.parent a (set flow v.link (int_at flow v.link +ℤ d))
sent_on n start r target at v a d flow sound reach h via was some kept way sign tight =
    let links = n.links.items in
    let link = link_at links v.link in
    let j = v.link in
    let z = int_at flow j +ℤ d in
    let p = (step_at r.steps.items v.parent).node in
    let k = (step_at r.steps.items at).node in
    let known = via_at n start r at v reach h via in
    let inside : j < length flow = omega (arith, known.1.link, was.links, sound.frame.flow) in
    let less : d ≤ℤ a = ⊎_elim (λ q. omega (arith, ints, q.2)) (λ q. omega (arith, ints, q.2)) way in
    let moved : (i : ℕ) → ((here link.to i d -ℤ here link.from i d) +ℤ here p i a) ≡ here k i a = λ i. ⊎_elim
    (λ q.
    let to : here link.to i d ≡ here k i a = ap (λ x. here x i d) q.1 ∙ ap (here k i) q.2 in
    let from : here link.from i d ≡ here p i a = ap (λ x. here x i d) q.0 ∙ ap (here p i) q.2 in
    omega (arith, ints, to, from))
    (λ q.
    let to : here link.to i d ≡ neg_ℤ (here p i a) = ap (λ x. here x i d) q.0 ∙ ap (here p i) q.2 ∙ here-neg p i a in
    let from : here link.from i d ≡ neg_ℤ (here k i a) = ap (λ x. here x i d) q.1 ∙ ap (here k i) q.2 ∙ here-neg k i a in
    omega (arith, ints, to, from))
    way in
    record {
      links = length-set flow j z ∙ was.links;
      sign = each_set flow j z (λ _ x. pos 0 ≤ℤ x) inside sign was.sign;
      tight = each_set flow j z (λ i x. x ≢ pos 0 → IsTight n.places.items (link_at links i)) inside (λ _. tight) was.tight;
      most = each_set flow j z (λ i x. x ≤ℤ (int_at n.flow.items i +ℤ a)) inside (omega (arith, ints, less, kept)) was.most;
      net = λ i. omega (arith, ints, net_flow-set links flow j d i known.1.link (omega (arith, was.links, sound.frame.flow)), moved i, was.net i);
      total =
          let step : (pos (v.parent + 1) *ℤ a) ≤ℤ (pos at *ℤ a) =
          omega (arith, ints, mul-mono a (pos (v.parent + 1)) (pos at) (omega (arith, ints, some)) (omega (arith, ints, known.0))) in
          let one : pos (v.parent + 1) *ℤ a ≡ (pos v.parent *ℤ a) +ℤ a = ring (pos v.parent ∷ a ∷ []) ((var 0 ⊕ num (pos 1)) ⊗ var 1) ((var 0 ⊗ var 1) ⊕ var 1) refl in
          omega (arith, ints, total_flow-set flow j d inside, step, one, less, was.total);
    }

-- what the loop over a way knows
pub record IsSending (n now : Network) (r : Reach) (target at : ℕ) (a : ℤ) : Type 0 where
  pub sent : IsSent n r target at a now.flow.items
  pub before : at ≤ target
  pub capacity : a ≤ℤ (step_at r.steps.items at).capacity
  pub kept : (m : ℕ) → m ≤ at → MatchOption (step_at r.steps.items m).via (Unit {0}) (λ via. int_at now.flow.items via.link ≡ int_at n.flow.items via.link)
  pub rest : KeepsRest n now

-- the flow over the step's link is still the network's
pub kept_here : (n now : Network) (r : Reach) (target at : ℕ) (v : Via) (a : ℤ) → IsSending n now r target at a → (step_at r.steps.items at).via ≡ Some v → int_at now.flow.items v.link ≡ int_at n.flow.items v.link
kept_here n now r target at v a was via =
    MatchOption-at_some (Unit {0}) (λ u. int_at now.flow.items u.link ≡ int_at n.flow.items u.link) v via (was.kept at (omega arith))

-- the loop's next round
pub sending_on : (n now after : Network) (start : ℕ) (r : Reach) (target at : ℕ) (v : Via) (a d : ℤ) → IsSound n → IsReach n start r → target < length r.steps.items → (step_at r.steps.items at).via ≡ Some v →
    IsSending n now r target at a → pos 0 <ℤ a →
    (((link_at n.links.items v.link).from ≡ (step_at r.steps.items v.parent).node) × ((link_at n.links.items v.link).to ≡ (step_at r.steps.items at).node) × (d ≡ a))
    ⊎ (((link_at n.links.items v.link).to ≡ (step_at r.steps.items v.parent).node) × ((link_at n.links.items v.link).from ≡ (step_at r.steps.items at).node) × (d ≡ neg_ℤ a)) →
    pos 0 ≤ℤ (int_at now.flow.items v.link +ℤ d) → IsTight n.places.items (link_at n.links.items v.link) →
    after.flow.items ≡ set now.flow.items v.link (int_at now.flow.items v.link +ℤ d) → KeepsRest n after → IsSending n after r target v.parent a
sending_on n now after start r target at v a d sound reach h via was some way sign tight flow_is rest =
    let inside : at < length r.steps.items = omega (arith, h, was.before) in
    let known = via_at n start r at v reach inside via in
    let z = int_at now.flow.items v.link +ℤ d in
    record {
      sent = subst (IsSent n r target v.parent a) (sym flow_is) (sent_on n start r target at v a d now.flow.items sound reach inside via was.sent some (kept_here n now r target at v a was via) way sign tight);
      before = omega (arith, known.0, was.before);
      capacity = omega (arith, ints, was.capacity, known.1.less);
      kept = λ m l. match_option (step_at r.steps.items m).via (Unit {0}) (Unit {0}) (λ u. int_at now.flow.items u.link ≡ int_at n.flow.items u.link) (λ u. int_at after.flow.items u.link ≡ int_at n.flow.items u.link) (λ z. z)
          (λ u e same.
          let other = link_once n start r at m v u reach inside (omega (arith, known.0)) via e in
          ap (λ zs. int_at zs u.link) flow_is ∙ get_or-set_other now.flow.items v.link u.link z (pos 0) other ∙ same)
          (was.kept m (omega (arith, known.0)));
      rest = rest;
    }

pub sending_back : (n now after : Network) (start : ℕ) (r : Reach) (target at : ℕ) (v : Via) (a : ℤ) → IsSound n → IsReach n start r → target < length r.steps.items → (step_at r.steps.items at).via ≡ Some v →
    IsSending n now r target at a → pos 0 <ℤ a → (link_at n.links.items v.link).from ≡ (step_at r.steps.items at).node →
    after.flow.items ≡ set now.flow.items v.link (int_at now.flow.items v.link +ℤ neg_ℤ a) → KeepsRest n after → IsSending n after r target v.parent a
sending_back n now after start r target at v a sound reach h via was some from flow_is rest =
    let inside : at < length r.steps.items = omega (arith, h, was.before) in
    let known = via_at n start r at v reach inside via in
    let link = sound.frame.links v.link known.1.link in
    let lead = ⊎_elim
    (λ (p : ((link_at n.links.items v.link).from ≡ (step_at r.steps.items v.parent).node) × ((link_at n.links.items v.link).to ≡ (step_at r.steps.items at).node) × IsTight n.places.items (link_at n.links.items v.link)). absurd (link.apart (from ∙ sym p.1)))
    (λ (p : ((link_at n.links.items v.link).to ≡ (step_at r.steps.items v.parent).node) × ((link_at n.links.items v.link).from ≡ (step_at r.steps.items at).node) × (pos 0 <ℤ int_at n.flow.items v.link)). p) known.1.lead in
    let back = known.1.back from in
    let same = kept_here n now r target at v a was via in
    sending_on n now after start r target at v a (neg_ℤ a) sound reach h via was some (inr (lead.0, lead.1, refl))
    (omega (arith, ints, same, back, was.capacity))
    (sound.flow.tight v.link (omega (arith, known.1.link, sound.frame.flow)) (λ e. absurd (omega (arith, ints, lead.2)))) flow_is rest

pub sending_forward : (n now after : Network) (start : ℕ) (r : Reach) (target at : ℕ) (v : Via) (a : ℤ) → IsSound n → IsReach n start r → target < length r.steps.items → (step_at r.steps.items at).via ≡ Some v →
    IsSending n now r target at a → pos 0 <ℤ a → ((link_at n.links.items v.link).from ≡ (step_at r.steps.items at).node → ⊥) →
    after.flow.items ≡ set now.flow.items v.link (int_at now.flow.items v.link +ℤ a) → KeepsRest n after → IsSending n after r target v.parent a
sending_forward n now after start r target at v a sound reach h via was some from flow_is rest =
    let inside : at < length r.steps.items = omega (arith, h, was.before) in
    let known = via_at n start r at v reach inside via in
    let lead = ⊎_elim
    (λ (p : ((link_at n.links.items v.link).from ≡ (step_at r.steps.items v.parent).node) × ((link_at n.links.items v.link).to ≡ (step_at r.steps.items at).node) × IsTight n.places.items (link_at n.links.items v.link)). p)
    (λ (p : ((link_at n.links.items v.link).to ≡ (step_at r.steps.items v.parent).node) × ((link_at n.links.items v.link).from ≡ (step_at r.steps.items at).node) × (pos 0 <ℤ int_at n.flow.items v.link)). absurd (from p.1)) known.1.lead in
    let sign = was.sent.sign v.link (omega (arith, known.1.link, was.sent.links, sound.frame.flow)) in
    sending_on n now after start r target at v a a sound reach h via was some (inl (lead.0, lead.1, refl)) (omega (arith, ints, sign)) lead.2 flow_is rest

same_kept : (o : Option Via) (n : Network) → MatchOption o (Unit {0}) (λ u. int_at n.flow.items u.link ≡ int_at n.flow.items u.link)
same_kept None n = tt
same_kept (Some u) n = refl

-- nothing sent yet
pub sent_none : (n : Network) (r : Reach) (target : ℕ) (a : ℤ) → IsSound n → pos 0 <ℤ a → IsSent n r target target a n.flow.items
sent_none n r target a sound some = record {
  links = refl;
  sign = sound.flow.sign;
  tight = sound.flow.tight;
  most = λ j h. omega (arith, ints);
  net = λ i. refl;
  total = omega (arith, ints);
}

pub sending_none : (n : Network) (r : Reach) (target : ℕ) (a : ℤ) → IsSound n → pos 0 <ℤ a → a ≤ℤ (step_at r.steps.items target).capacity → IsSending n n r target target a
sending_none n r target a sound some capacity = record {
  sent = sent_none n r target a sound some;
  before = omega arith;
  capacity = capacity;
  kept = λ m l. same_kept (step_at r.steps.items m).via n;
  rest = record { links = refl; tight = refl; wants = refl; weights = refl; places = refl; mirrored = refl; excess = refl };
}

-- what is sent is not too large
pub amount_size : (n : Network) (start : ℕ) (r : Reach) (k : ℕ) (a : ℤ) → IsSound n → IsReach n start r → k < length r.steps.items → pos 0 <ℤ a → a ≤ℤ (step_at r.steps.items k).capacity → unsigned_abs a ≤ 92480000000000000000000000000
amount_size n start r k a sound reach h some capacity = omega (arith, ints, (reach.steps k h).most, excess_size n start sound)

-- nor is the flow on the way
pub sending_size : (n now : Network) (start : ℕ) (r : Reach) (target at : ℕ) (a : ℤ) (j : ℕ) → IsSound n → IsReach n start r → target < length r.steps.items → pos 0 <ℤ a → IsSending n now r target at a → j < length n.links.items →
    unsigned_abs (int_at now.flow.items j) ≤ 184960000000000000000000000000
sending_size n now start r target at a j sound reach h some was inside =
    let old : j < length n.flow.items = omega (arith, sound.frame.flow) in
    let new : j < length now.flow.items = omega (arith, was.sent.links) in
    let each = sound.flow.small_each j old in
    let most = was.sent.most j new in
    omega (arith, ints, was.sent.sign j new, most, each, total_size_sign n.excess.items, amount_size n start r at a sound reach (omega (arith, h, was.before)) some was.capacity)

pub change_fits : (z a : ℤ) → unsigned_abs z ≤ 184960000000000000000000000000 → unsigned_abs a ≤ 92480000000000000000000000000 → FitsSigned w128 z × FitsSigned w128 (z +ℤ a) × FitsSigned w128 (z -ℤ a)
change_fits z a h k =
    let bound : 300000000000000000000000000000 < 2 ^ 127 = lit< tt in (
      fits_signed_from_abs w128 z (omega (arith, bound)),
      fits_signed_from_abs w128 (z +ℤ a) (omega (arith, ints, bound)),
      fits_signed_from_abs w128 (z -ℤ a) (omega (arith, ints, bound)),
    )
