-- A search that continues over the tight links listed at a node, and its result.
use Rattle.std.proofs.Common.{◌≡◌, ℕ, ◌+◌, ◌<◌, ◌≤◌, IsSome, List, length, get_or, All, Contains, Vec, arith, refl, sym, subst, ◌∙◌, ⊎_elim}
use Rattle.separation_model.specs.Arena.{Arena}
use Rattle.std.proofs.lemmas.Bool.{cases_lt}
use Rattle.std.proofs.lemmas.Int.{ints}
use Rattle.std.proofs.lemmas.List.{get_or_default}
use Rattle.std.proofs.lemmas.List.Elements.{All-get_or}
use Rattle.separation_solve.specs.declared.network.Network.{Network}
use Rattle.separation_solve.specs.declared.reach.Reach.{Reach}
use Rattle.separation_solve.specs.declared.reach.Step.{Step}
use Rattle.separation_solve.specs.Network.{IsSound, IsTight, IsTightAt, link_at}
use Rattle.separation_solve.specs.Reach.{AddsLeads, IsBlock, TakesFlow, IsAfter, IsFollowing, IsLead, IsLedTo, IsReach, IsStep, KeepsSteps, found_at, start_of, step_at}
use Rattle.separation_solve.proofs.Lists.Optional.{match_some, some_is}

-- the links that are listed at a node are tight
pub listed_tight : (n : Network) (a : ℕ) (v : Vec ℕ Arena) → IsSound n → a < length n.tight.items → v ≡ get_or n.tight.items a v → All (IsTightAt n.places.items n.links.items) v.items
listed_tight n a v sound h e =
    subst (λ (w : Vec ℕ Arena). All (IsTightAt n.places.items n.links.items) w.items) (sym e)
    (All-get_or (λ (w : Vec ℕ Arena). All (IsTightAt n.places.items n.links.items) w.items) n.tight.items a v h sound.tight.no_others)

-- flow goes over tight links alone
lead_tight : (n : Network) (j a b : ℕ) → IsSound n → j < length n.links.items → IsLead n j a b → IsTight n.places.items (link_at n.links.items j)
lead_tight n j a b sound h lead = ⊎_elim
    (λ p. p.2)
    (λ p. sound.flow.tight j (omega (arith, h, sound.frame.flow)) (λ e. omega (arith, ints, e, p.2)))
    lead

-- a link leads from a node to one node only
pub lead_unique : (n : Network) (j a b c : ℕ) → IsSound n → j < length n.links.items → IsLead n j a b → IsLead n j a c → b ≡ c
lead_unique n j a b c sound h first second =
    let apart = (sound.frame.links j h).apart in
    ⊎_elim
    (λ p. ⊎_elim (λ q. sym p.1 ∙ q.1) (λ q. absurd (apart (p.0 ∙ sym q.0))) second)
    (λ p. ⊎_elim (λ q. absurd (apart (q.0 ∙ sym p.0))) (λ q. sym p.1 ∙ q.1) second)
    first

-- what was found stays found
pub found_stays : (old new : Reach) (i : ℕ) → KeepsSteps old new → IsSome (found_at old.found.items i) → IsSome (found_at new.found.items i)
found_stays old new i keeps h =
    let k = some_is (found_at old.found.items i) h in
    subst IsSome (sym (keeps.found i k.0 k.1)) refl

pub keeps_all : (old mid new : Reach) → KeepsSteps old mid → KeepsSteps mid new → KeepsSteps old new
keeps_all old mid new first second = record {
  fewer = omega (arith, first.fewer, second.fewer);
  steps = λ k h. second.steps k (omega (arith, h, first.fewer)) ∙ first.steps k h;
  found = λ i k e. second.found i k (first.found i k e);
}

-- the step that a link leads to comes after those there are
pub following : (n : Network) (old r : Reach) (j parent : ℕ) (step next : Step) → IsReach n (start_of old) r → KeepsSteps old r → parent < length old.steps.items → step ≡ step_at old.steps.items parent → IsLedTo n j parent step next → IsFollowing n r next
following n old r j parent step next reach keeps h e led =
    let inside : parent < length r.steps.items = omega (arith, h, keeps.fewer) in
    let same : step_at r.steps.items parent ≡ step = keeps.steps parent h ∙ sym e in
    record {
      is_step = led.is_step (start_of r) (subst (λ i. IsStep n i step) (sym reach.first) (subst (IsStep n (start_of old)) same (reach.steps parent inside)));
      come_by = match_some next.via ⊥ (λ via. (via.parent < length r.steps.items) × IsAfter n via.link (step_at r.steps.items via.parent) next) _ led.via
          (inside, subst (λ s. IsAfter n j s next) (sym same) led.after);
    }

-- the reach with its own start
pub own_start : (n : Network) (old r : Reach) → IsReach n (start_of old) r → IsReach n (start_of r) r
own_start n old r reach = subst (λ i. IsReach n i r) (sym reach.first) reach

pub old_start : (n : Network) (old r s : Reach) → IsReach n (start_of old) r → IsReach n (start_of r) s → IsReach n (start_of old) s
old_start n old r s reach after = subst (λ i. IsReach n i s) reach.first after

-- every link over which flow can go from the node stands in its list
pub listed_at : (n : Network) (a j b : ℕ) (v : Vec ℕ Arena) → IsSound n → j < length n.links.items → a < length n.tight.items → v ≡ get_or n.tight.items a v → IsLead n j a b → Contains v.items j
listed_at n a j b v sound h inside e lead =
    let listed = sound.tight.listed j (record { link = h; tight = lead_tight n j a b sound h lead }) in
    let at : (i : ℕ) → i ≡ a → Contains (get_or n.tight.items i v).items j → Contains v.items j = λ i q c.
    subst (λ (w : Vec ℕ Arena). Contains w.items j) (sym e) (subst (λ k. Contains (get_or n.tight.items k v).items j) q c) in
    ⊎_elim
    (λ p. at (link_at n.links.items j).from p.0 (listed.at_from v))
    (λ p. at (link_at n.links.items j).to p.0 (listed.at_to v))
    lead

-- so all nodes to which flow can go were added
pub all_added : (n : Network) (a : ℕ) (v : Vec ℕ Arena) (r : Reach) → IsSound n → a < length n.tight.items → v ≡ get_or n.tight.items a v →
    ((i b : ℕ) → i < length v.items → IsLead n (get_or v.items i 0) a b → IsSome (found_at r.found.items b)) →
    (j b : ℕ) → j < length n.links.items → IsLead n j a b → IsSome (found_at r.found.items b)
all_added n a v r sound inside e adds j b h lead =
    let c = listed_at n a j b v sound h inside e lead in
    let same : get_or v.items c.0 0 ≡ j = get_or_default v.items c.0 0 j c.1 ∙ c.2 in
    adds c.0 b c.1 (subst (λ k. IsLead n k a b) (sym same) lead)

-- where the link at an index leads was added, and the rest stays
pub adds_more : (n : Network) (r s : Reach) (js : List ℕ) (i a : ℕ) → KeepsSteps r s → ((k b : ℕ) → k < i → IsLead n (get_or js k 0) a b → IsSome (found_at r.found.items b)) →
    ((b : ℕ) → IsLead n (get_or js i 0) a b → IsSome (found_at s.found.items b)) →
    (k b : ℕ) → k < i + 1 → IsLead n (get_or js k 0) a b → IsSome (found_at s.found.items b)
adds_more n r s js i a keeps adds here k b h lead =
    ⊎_elim
    (λ (l : k < i). found_stays r s b keeps (adds k b l lead))
    (λ (l : i ≤ k). let e : k ≡ i = omega arith in here b (subst (λ m. IsLead n (get_or js m 0) a b) e lead))
    (cases_lt k i)

-- the link leads to the node that was added
pub added_here : (n : Network) (r : Reach) (j parent : ℕ) (step next : Step) → IsSound n → IsLedTo n j parent step next → IsSome (found_at r.found.items next.node) → (b : ℕ) → IsLead n j step.node b → IsSome (found_at r.found.items b)
added_here n r j parent step next sound led added b lead =
    subst (λ i. IsSome (found_at r.found.items i)) (lead_unique n j step.node next.node b sound led.after.link led.after.lead lead) added

pub keeps_itself : (r : Reach) → KeepsSteps r r
keeps_itself r = record {
  fewer = omega arith;
  steps = λ k h. refl;
  found = λ i k e. e;
}

-- where no node takes flow and none leads out, the nodes are a block
pub block_of : (n : Network) (start : ℕ) (r : Reach) → IsReach n start r → ((k : ℕ) → k < length r.steps.items → TakesFlow n (step_at r.steps.items k).node → ⊥) → ((k : ℕ) → k < length r.steps.items → AddsLeads n (step_at r.steps.items k).node r) → IsBlock n start r
block_of n start r reach none closed = record {
  reach = reach;
  closed = λ j a b k h lead e. let at = reach.found a k e in subst (λ i. AddsLeads n i r) at.1 (closed k at.0) j b h lead;
  none_takes = λ i k e takes. let at = reach.found i k e in none k at.0 (subst (TakesFlow n) (sym at.1) takes);
}

-- a step of the search
pub takes_more : (n : Network) (r s : Reach) (i : ℕ) → KeepsSteps r s → i < length r.steps.items → ((k : ℕ) → k < i → TakesFlow n (step_at r.steps.items k).node → ⊥) → (TakesFlow n (step_at r.steps.items i).node → ⊥) →
    (k : ℕ) → k < i + 1 → TakesFlow n (step_at s.steps.items k).node → ⊥
takes_more n r s i keeps inside none here k h takes =
    let old : TakesFlow n (step_at r.steps.items k).node = subst (λ t. TakesFlow n t.node) (keeps.steps k (omega (arith, h, inside))) takes in
    ⊎_elim
    (λ (l : k < i). none k l old)
    (λ (l : i ≤ k). let e : k ≡ i = omega arith in here (subst (λ m. TakesFlow n (step_at r.steps.items m).node) e old))
    (cases_lt k i)

pub closed_more : (n : Network) (r s : Reach) (i : ℕ) → KeepsSteps r s → i < length r.steps.items → ((k : ℕ) → k < i → AddsLeads n (step_at r.steps.items k).node r) → AddsLeads n (step_at r.steps.items i).node s →
    (k : ℕ) → k < i + 1 → AddsLeads n (step_at s.steps.items k).node s
closed_more n r s i keeps inside closed here k h =
    let same = sym (keeps.steps k (omega (arith, h, inside))) in
    subst (λ t. AddsLeads n t.node s) same
    (⊎_elim
    (λ (l : k < i) (j b : ℕ) (m : j < length n.links.items) (lead : IsLead n j (step_at r.steps.items k).node b). found_stays r s b keeps (closed k l j b m lead))
    (λ (l : i ≤ k). let e : i ≡ k = omega arith in subst (λ m. AddsLeads n (step_at r.steps.items m).node s) e here)
    (cases_lt k i))
