-- A label is opened: what holds of the labels still holds.
use Rattle.std.proofs.Common.{◌≡◌, ◌≢◌, ◌⊎◌, ℕ, ◌≤◌, Option, Some, None, sym, ap, subst, ◌∙◌, inl, inr, arith}
use Rattle.std.specs.Prelude.{All, Contains, IfSome}
use Rattle.std.specs.BinaryHeap.{heap_items}
use Rattle.plane_geom.specs.declared.point.Point.{Point}
use Rattle.plane_geom.specs.declared.point.Dir.{Dir}
use Rattle.move_model.specs.declared.place.Place.{Place}
use Rattle.move_model.specs.declared.ahead.Ahead.{Ahead}
use Rattle.search_problem.specs.Problems.{IsReady}
use Rattle.proof_search.specs.Tables.{Puts}
use Rattle.proof_search.specs.declared.label.Label.TheVariants.{Open, Closed}
use Rattle.search_problem.specs.declared.problem.Problem.{Problem}
use Rattle.proof_model.specs.declared.next.Next.{Next}
use Rattle.proof_model.specs.Rules.{Suffices}
use Rattle.proof_search.proofs.Offers.OnePlace.{one_place}
use Rattle.proof_search.specs.declared.labels.Labels.{Labels}
use Rattle.proof_search.specs.declared.scope.Scope.{Scope}
use Rattle.proof_search.specs.Scopes.{claim_of}
use Rattle.proof_search.specs.Search.{Falls, IsPropagatedIn, IsPropagated, IsMoveOffered, IsOffered, IsPlace, IsQueued, IsReachedAt, IsSearching, Spreads, cost_at, cost_in, label_at}
use Rattle.proof_search.proofs.Offers.Scopes.{lower_suffices, small_label}

module _ (p : Problem) (s : Scope) (old new : Labels) (falls : Falls s old new) where
  move_still : (at : Point) (heading d : Dir) (cost : ℕ) (next : Option Next) → IfSome next (IsMoveOffered p s old at heading cost d)
      → IfSome next (IsMoveOffered p s new at heading cost d)
  move_still at heading d cost None h = h
  move_still at heading d cost (Some n) h = (h.0, falls n.place _ h.1)

  -- what was offered has been offered still
  pub in_still : (x : Place) (at : Point) (cost : ℕ) (d : Dir) → IsPropagatedIn p s old x at cost d → IsPropagatedIn p s new x at cost d
  in_still x at cost d h = record { next = h.next; is_next = h.is_next; offered = move_still at x.heading d cost h.next h.offered }

  pub still_propagated : (x : Place) (cost : ℕ) → IsPropagated p s old x cost → IsPropagated p s new x cost
  still_propagated x cost h at here d = in_still x at cost d (h at here d)

-- what falls twice has fallen
pub falls_both : (s : Scope) (old mid new : Labels) → Falls s old mid → Falls s mid new → Falls s old new
falls_both s old mid new f g x cost h = g x cost (f x cost h)

pub spreads_both : (s : Scope) (old mid new : Labels) → Spreads s old mid → Spreads s mid new → Spreads s old new
spreads_both s old mid new f g = record {
  falls = falls_both s old mid new f.falls g.falls;
  closed = λ x v e. f.closed x v (g.closed x v e);
}

pub spreads_none : (s : Scope) (l : Labels) → Spreads s l l
spreads_none s l = record { falls = λ x cost h. h; closed = λ x v e. e }

-- a label is given to a place that is queued
module _ (p : Problem) (ready : IsReady p) (s : Scope) (old new : Labels) (but : Option Place) (searching : IsSearching p s old None but)
    (x : Place) (v : ℕ) (known : Ahead) (cost : known.cost ≡ v) (reached : IsReachedAt p s x v) (lower : (w : ℕ) → cost_at old x ≡ Some w → v ≤ w)
    (puts : Puts old.table new.table x (Open known))
    (kept : (c : _) → Contains (heap_items old.queue.heap) c → Contains (heap_items new.queue.heap) c)
    (queued : IsQueued new x) (places : All (λ c. IsPlace p c.0.item) (heap_items new.queue.heap)) where
  here : label_at new x ≡ Open known
  here = puts.changed

  cost_here : cost_at new x ≡ Some v
  cost_here = ap cost_in here ∙ ap Some cost

  same_cost : (w : ℕ) → cost_at new x ≡ Some w → v ≡ w
  same_cost w e = let f : ◌≡◌ {A = Option ℕ} (Some v) (Some w) = sym cost_here ∙ e in cc

  -- labels fall
  pub labels_fall : Falls s old new
  labels_fall y n h = by_place (one_place y x)
    where
      by_place : (y ≡ x) ⊎ (y ≢ x) → IsOffered s new y n
      by_place (inl same) =
          let offered : IsOffered s old x n = subst (λ (z : Place). IsOffered s old z n) same h in
          let at : IsOffered s new x n = subst (λ (o : Option ℕ). Suffices (claim_of s) o n) (sym cost_here)
          (lower_suffices s (cost_at old x) v n (small_label p s x ready v reached) lower offered) in
          subst (λ (z : Place). IsOffered s new z n) (sym same) at
      by_place (inr other) = subst (λ (o : Option ℕ). Suffices (claim_of s) o n) (sym (ap cost_in (puts.others y other))) h

  -- and none is closed
  pub none_closed : (y : Place) (w : Ahead) → label_at new y ≡ Closed w → label_at old y ≡ Closed w
  none_closed y w e = by_place (one_place y x)
    where
      by_place : (y ≡ x) ⊎ (y ≢ x) → label_at old y ≡ Closed w
      by_place (inl same) = absurd (let wrong : Open known ≡ Closed w = sym here ∙ ap (label_at new) (sym same) ∙ e in cc)
      by_place (inr other) = sym (puts.others y other) ∙ e

  pub opened_spreads : Spreads s old new
  opened_spreads = record { falls = labels_fall; closed = none_closed }

  -- what holds between two steps of a search holds again
  pub opened : IsSearching p s new None but
  opened = record {
    small = searching.small;
    reached = λ y w e. reached_at y w e (one_place y x);
    queued = λ y w not_but e. queued_at y w e (one_place y x);
    propagated = λ y w not_but e. still_propagated p s old new labels_fall y w.cost (searching.propagated y w not_but (none_closed y w e));
    candidates = places;
    rooms = record { places = puts.rooms.places ∙ searching.rooms.places; rows = omega (arith, puts.rooms.rows, searching.rooms.rows) };
  }
    where
      reached_at : (y : Place) (w : ℕ) → cost_at new y ≡ Some w → (y ≡ x) ⊎ (y ≢ x) → IsReachedAt p s y w
      reached_at y w e (inl same) =
          let is : v ≡ w = same_cost w (ap (cost_at new) (sym same) ∙ e) in
          subst (λ (z : Place). IsReachedAt p s z w) (sym same) (subst (IsReachedAt p s x) is reached)
      reached_at y w e (inr other) = searching.reached y w (ap cost_in (sym (puts.others y other)) ∙ e)

      queued_at : (y : Place) (w : Ahead) → label_at new y ≡ Open w → (y ≡ x) ⊎ (y ≢ x) → IsQueued new y
      queued_at y w e (inl same) = subst (IsQueued new) (sym same) queued
      queued_at y w e (inr other) =
          let was = searching.queued y w (λ none. cc) (sym (puts.others y other) ∙ e) in
          (was.0, kept _ was.1)
