-- The steps of a search, as they are added.
use Rattle.std.proofs.Common.{Bool, true, not, is_some, ◌≡◌, ◌≢◌, ◌⊎◌, ℕ, ◌+◌, ◌<◌, ◌≤◌, Option, Some, None, List, [], ◌∷◌, ◌++◌, length, get_or, set, sum_by, MatchOption, arith, refl, ap, sym, subst, ◌∙◌, inl, inr, ⊎_elim, length-append, length-set, get_or-set_other, get_or-set_same}
use Rattle.std.proofs.Math.ListN.{get_or-append}
use Rattle.std.proofs.Math.Seq.{get_or-append_seam}
use Rattle.std.proofs.lemmas.Bool.{cases_lt, cases_eq}
use Rattle.std.proofs.lemmas.List.Sums.{sum_by-set}
use Rattle.std.proofs.lemmas.Option.{none-some}
use Rattle.std.proofs.lemmas.List.{get_or_read}
use Rattle.separation_solve.specs.declared.network.Network.{Network}
use Rattle.separation_solve.specs.declared.reach.Reach.{Reach}
use Rattle.separation_solve.specs.declared.reach.Step.{Step}
use Rattle.separation_solve.specs.Reach.{IsAfter, IsComeBy, IsReach, IsStep, found_at, not_found, step_at}
use Rattle.separation_solve.proofs.Lists.Optional.{match_option, none_is}

-- an earlier step stays
pub step_at-append : (steps : List Step) (step : Step) (k : ℕ) → k < length steps → step_at (steps ++ step ∷ []) k ≡ step_at steps k
step_at-append steps step k h = get_or-append steps (step ∷ []) _ k h

pub step_at-last : (steps : List Step) (step : Step) (k : ℕ) → k ≡ length steps → step_at (steps ++ step ∷ []) k ≡ step
step_at-last steps step k e = ap (step_at (steps ++ step ∷ [])) e ∙ get_or-append_seam steps step [] _

come_by-same : (n : Network) (steps more : List Step) (k : ℕ) → step_at more k ≡ step_at steps k → ((m : ℕ) → m < k → step_at more m ≡ step_at steps m) → IsComeBy n steps k → IsComeBy n more k
come_by-same n steps more k e same h =
    subst (λ s. MatchOption s.via (k ≡ 0) (λ via. (via.parent < k) × IsAfter n via.link (step_at more via.parent) s)) (sym e)
    (match_option (step_at steps k).via (k ≡ 0) (k ≡ 0)
    (λ via. (via.parent < k) × IsAfter n via.link (step_at steps via.parent) (step_at steps k))
    (λ via. (via.parent < k) × IsAfter n via.link (step_at more via.parent) (step_at steps k))
    (λ z. z) (λ via _ p. (p.0, subst (λ s. IsAfter n via.link s (step_at steps k)) (sym (same via.parent p.0)) p.1)) h)

-- what is asked of the next step
pub record IsNext (n : Network) (start : ℕ) (r : Reach) (step : Step) : Type 0 where
  pub new : found_at r.found.items step.node ≡ None
  pub is_step : IsStep n start step
  pub come_by : MatchOption step.via ⊥ (λ via. (via.parent < length r.steps.items) × IsAfter n via.link (step_at r.steps.items via.parent) step)

-- how the last step was reached
come_by_last : (n : Network) (start : ℕ) (r s : Reach) (step : Step) (k : ℕ) → k ≡ length r.steps.items → step_at s.steps.items k ≡ step → ((m : ℕ) → m < length r.steps.items → step_at s.steps.items m ≡ step_at r.steps.items m) →
    MatchOption step.via ⊥ (λ via. (via.parent < length r.steps.items) × IsAfter n via.link (step_at r.steps.items via.parent) step) → IsComeBy n s.steps.items k
come_by_last n start r s step k e last keep h =
    subst (λ t. MatchOption t.via (k ≡ 0) (λ via. (via.parent < k) × IsAfter n via.link (step_at s.steps.items via.parent) t)) (sym last)
    (match_option step.via ⊥ (k ≡ 0)
    (λ via. (via.parent < length r.steps.items) × IsAfter n via.link (step_at r.steps.items via.parent) step)
    (λ via. (via.parent < k) × IsAfter n via.link (step_at s.steps.items via.parent) step)
    (λ z. absurd z) (λ via _ p. (omega (arith, e, p.0), subst (λ t. IsAfter n via.link t step) (sym (keep via.parent p.0)) p.1)) h)

pub reach_added : (n : Network) (start : ℕ) (r s : Reach) (step : Step) → IsReach n start r → IsNext n start r step →
    s.steps.items ≡ r.steps.items ++ step ∷ [] → s.found.items ≡ set r.found.items step.node (Some (length r.steps.items)) → IsReach n start s
reach_added n start r s step reach next steps_are found_are =
    let old = r.steps.items in
    let len = length old in
    let inside : step.node < length r.found.items = omega (arith, reach.nodes, next.is_step.node) in
    let long : length s.steps.items ≡ len + 1 = ap length steps_are ∙ omega (arith, length-append old (step ∷ [])) in
    let keep : (k : ℕ) → k < len → step_at s.steps.items k ≡ step_at old k = λ k h. ap (λ l. step_at l k) steps_are ∙ step_at-append old step k h in
    let last : (k : ℕ) → k ≡ len → step_at s.steps.items k ≡ step = λ k e. ap (λ l. step_at l k) steps_are ∙ step_at-last old step k e in
    let cases : (k : ℕ) → k < length s.steps.items → (k < len) ⊎ (k ≡ len) = λ k h.
    ⊎_elim (λ (l : k < len). inl l) (λ (l : len ≤ k). inr (omega (arith, h, long))) (cases_lt k len) in
    let found_same : found_at s.found.items step.node ≡ Some len = ap (λ l. found_at l step.node) found_are ∙ (rw get_or-set_same refl) in
    let found_other : (i : ℕ) → (i ≢ step.node) → found_at s.found.items i ≡ found_at r.found.items i = λ i ne. ap (λ l. found_at l i) found_are ∙ (rw get_or-set_other refl) in
    record {
      nodes = ap length found_are ∙ length-set r.found.items step.node (Some len) ∙ reach.nodes;
      start_item = reach.start_item;
      start_short = reach.start_short;
      some = omega (arith, long);
      first = ap (λ t. t.node) (keep 0 reach.some) ∙ reach.first;
      steps = λ k h. ⊎_elim
          (λ l. subst (IsStep n start) (sym (keep k l)) (reach.steps k l))
          (λ e. subst (IsStep n start) (sym (last k e)) next.is_step) (cases k h);
      come_by = λ k h. ⊎_elim
          (λ l. come_by-same n old s.steps.items k (keep k l) (λ m b. keep m (omega arith)) (reach.come_by k l))
          (λ e. come_by_last n start r s step k e (last k e) keep next.come_by) (cases k h);
      once = λ k h. ⊎_elim
          (λ l.
          let was = reach.once k l in
          let ne : (step_at old k).node ≢ step.node = λ q. absurd (none-some k (sym next.new ∙ ap (found_at r.found.items) (sym q) ∙ was)) in
          ap (λ t. found_at s.found.items t.node) (keep k l) ∙ found_other (step_at old k).node ne ∙ was)
          (λ e. ap (λ t. found_at s.found.items t.node) (last k e) ∙ found_same ∙ ap Some (sym e)) (cases k h);
      found = λ i k e. ⊎_elim
          (λ (q : i ≡ step.node).
          let is_len : Some len ≡ Some k = sym found_same ∙ ap (found_at s.found.items) (sym q) ∙ e in
          let k_is : len ≡ k = cc in
          (omega (arith, long, k_is), ap (λ t. t.node) (last k (sym k_is)) ∙ sym q))
          (λ (ne : i ≢ step.node).
          let was = reach.found i k (sym (found_other i ne) ∙ e) in
          (omega (arith, long, was.0), ap (λ t. t.node) (keep k was.0) ∙ was.1))
          (cases_eq i step.node);
      count =
          let change = sum_by-set not_found r.found.items step.node (Some len) None inside in
          let one : not_found (get_or r.found.items step.node None) ≡ 1 = ap not_found next.new in
          let total = ap (sum_by not_found) found_are in
          let lens = ap length found_are ∙ length-set r.found.items step.node (Some len) in
          omega (arith, long, change, one, total, lens, reach.count);
    }

-- the consequence of a test of a node that was read
pub not_found_is : (o p : Option ℕ) (b : Bool) → is_some o ≡ not b → b ≡ true → o ≡ p → p ≡ None
not_found_is o p b e t same = sym same ∙ none_is o (e ∙ ap not t)

-- the step that was read
pub step_read : (r : Reach) (k : ℕ) (s : Step) → k < length r.steps.items → s ≡ get_or r.steps.items k s → s ≡ step_at r.steps.items k
step_read r k s h e = get_or_read r.steps.items k s h e _
