-- A place is taken: its label is closed, and passed on.
use Rattle.std.proofs.Common.{◌≡◌, ◌≢◌, ℕ, Option, None, Some, sym, ap, subst, ◌∙◌, inl, inr, arith}
use Rattle.std.specs.Prelude.{All}
use Rattle.std.specs.BinaryHeap.{heap_items}
use Rattle.search_problem.specs.declared.queue.Queue.{Queue}
use Rattle.move_model.specs.declared.ahead.Ahead.{Ahead}
use Rattle.move_model.specs.declared.place.Place.{Place}
use Rattle.proof_search.specs.Tables.{Puts}
use Rattle.proof_search.specs.declared.label.Label.TheVariants.{Open, Closed}
use Rattle.search_problem.specs.declared.problem.Problem.{Problem}
use Rattle.proof_model.specs.Rules.{Suffices}
use Rattle.proof_search.proofs.Offers.OnePlace.{one_place}
use Rattle.proof_search.specs.declared.labels.Labels.{Labels}
use Rattle.proof_search.specs.declared.scope.Scope.{Scope}
use Rattle.proof_search.specs.Scopes.{claim_of}
use Rattle.proof_search.specs.Search.{Falls, IsPropagated, IsPlace, IsQueued, IsSearching, Spreads, cost_at, cost_in, label_at}
use Rattle.proof_search.proofs.Offers.Offering.{still_propagated}

same_place : (x y : Place) → ◌≡◌ {A = Option Place} (Some x) (Some y) → x ≡ y
same_place x y e = cc

-- the place that may not be queued is not open
pub none_open : (p : Problem) (s : Scope) (l : Labels) (x : Place) → IsSearching p s l (Some x) None → ((v : Ahead) → label_at l x ≡ Open v → ⊥)
    → IsSearching p s l None None
none_open p s l x h never = record {
  small = h.small;
  reached = h.reached;
  queued = λ y w but e. h.queued y w (λ (same : ◌≡◌ {A = Option Place} (Some y) (Some x)). never w (ap (label_at l) (sym (same_place y x same)) ∙ e)) e;
  propagated = h.propagated;
  candidates = h.candidates;
  rooms = h.rooms;
}

-- an open label is closed
module _ (p : Problem) (s : Scope) (old new : Labels) (x : Place) (v : Ahead) (searching : IsSearching p s old (Some x) None)
    (is_open : label_at old x ≡ Open v)
    (puts : Puts old.table new.table x (Closed v)) (queue : new.queue ≡ old.queue) where
  still_cost : (y : Place) → cost_at new y ≡ cost_at old y
  still_cost y = elim (one_place y x) as (λ _. cost_at new y ≡ cost_at old y) [
    | inl same ↦ ap (cost_at new) same ∙ ap cost_in puts.changed ∙ sym (ap cost_in is_open) ∙ ap (cost_at old) (sym same)
    | inr other ↦ ap cost_in (puts.others y other)
  ]

  pub closing_falls : Falls s old new
  closing_falls y n h = subst (λ (o : Option ℕ). Suffices (claim_of s) o n) (sym (still_cost y)) h

  other_open : (y : Place) (w : Ahead) → label_at new y ≡ Open w → (y ≢ x) × (label_at old y ≡ Open w)
  other_open y w e = elim (one_place y x) as (λ _. (y ≢ x) × (label_at old y ≡ Open w)) [
    | inl same ↦ absurd (let wrong : Closed v ≡ Open w = sym puts.changed ∙ ap (label_at new) (sym same) ∙ e in cc)
    | inr other ↦ (other, sym (puts.others y other) ∙ e)
  ]

  pub closed_searching : IsSearching p s new None (Some x)
  closed_searching = record {
    small = searching.small;
    reached = λ y w e. searching.reached y w (sym (still_cost y) ∙ e);
    queued = λ y w but e.
        (let o = other_open y w e in
        let was = searching.queued y w (λ (same : ◌≡◌ {A = Option Place} (Some y) (Some x)). o.0 (same_place y x same)) o.1 in
        subst (λ (q : Queue Place). IsQueued (record { table = new.table; queue = q }) y) (sym queue) was);
    propagated = λ y w but e. elim (one_place y x) as (λ _. IsPropagated p s new y w.cost) [
      | inl same ↦ absurd (but (ap Some same))
      | inr other ↦ still_propagated p s old new closing_falls y w.cost (searching.propagated y w (λ none. cc) (sym (puts.others y other) ∙ e))
    ];
    candidates = subst (λ (q : Queue Place). All (λ c. IsPlace p c.0.item) (heap_items q.heap)) (sym queue) searching.candidates;
    rooms = record { places = puts.rooms.places ∙ searching.rooms.places; rows = omega (arith, puts.rooms.rows, searching.rooms.rows) };
  }

-- and it is passed on
pub propagated_searching : (p : Problem) (s : Scope) (mid new : Labels) (x : Place) (v : Ahead) → label_at mid x ≡ Closed v → IsSearching p s new None (Some x)
    → Spreads s mid new
    → IsPropagated p s new x v.cost → IsSearching p s new None None
propagated_searching p s mid new x v closed h spreads propagated = record {
  small = h.small;
  reached = h.reached;
  queued = h.queued;
  propagated = λ y w but e. elim (one_place y x) as (λ _. IsPropagated p s new y w.cost) [
    | inl same ↦ (
        let was : Closed v ≡ Closed w = sym closed ∙ spreads.closed x w (ap (label_at new) (sym same) ∙ e) in
        let is : v ≡ w = cc in
        subst (λ (z : Place). IsPropagated p s new z w.cost) (sym same) (subst (λ (u : Ahead). IsPropagated p s new x u.cost) is propagated))
    | inr other ↦ h.propagated y w (λ (both : ◌≡◌ {A = Option Place} (Some y) (Some x)). other (same_place y x both)) e
  ];
  candidates = h.candidates;
  rooms = h.rooms;
}
