-- A search begins without labels, takes out one candidate after another, and ends where none is left.
use Rattle.std.proofs.Common.{◌≡◌, ◌≢◌, ◌⊎◌, ℕ, ◌+◌, ◌^◌, ◌≤◌, Bool, true, false, if◌then◌else◌, nat_lt, Option, None, Some, List, [], ◌∷◌, length, get_or, refl, sym, ap, ◌∙◌, inl, inr, arith}
use Rattle.std.specs.Prelude.{All, Contains, IsPermutation}
use Rattle.std.specs.BinaryHeap.{heap_items}
use Rattle.std.specs.declared.cmp.Reverse.{Reverse}
use Rattle.std.proofs.lemmas.Bool.{cases_lt}
use Rattle.std.proofs.lemmas.List.{get_or_past}
use Rattle.search_problem.specs.declared.queue.Candidate.{Candidate}
use Rattle.search_problem.specs.declared.queue.Queue.{Queue}
use Rattle.plane_geom.specs.declared.point.Dir.{Dir}
use Rattle.move_model.specs.declared.ahead.Ahead.{Ahead}
use Rattle.move_model.specs.declared.place.Place.{Place}
use Rattle.proof_search.specs.Labels.{empty_row, label_in}
use Rattle.proof_search.specs.Tables.{row_of}
use Rattle.search_problem.specs.declared.ends.Entry.{Entry}
use Rattle.proof_search.specs.declared.label.Label.{Label}
use Rattle.proof_search.specs.declared.label.Label.TheVariants.{Absent, Open}
use Rattle.proof_search.specs.declared.label.Row.{Row}
use Rattle.search_problem.specs.declared.problem.Problem.{Problem}
use Rattle.exit_spread.proofs.Taking.Offered.{by_heading}
use Rattle.search_problem.proofs.Queues.{none_all, none_has, pop_all, pop_count, pop_one, pop_or_rest}
use Rattle.proof_search.specs.declared.labels.Labels.{Labels}
use Rattle.proof_search.specs.declared.scope.Scope.{Scope}
use Rattle.proof_search.specs.Scopes.{most_of}
use Rattle.proof_search.specs.Search.{AreNone, Falls, HasRooms, IsEntryOffered, IsPlace, IsQueued, IsSearching, IsSpread, cost_at, cost_in, label_at, weight}
use Rattle.proof_search.proofs.Offers.Offering.{still_propagated}

-- the labels with another queue
abbrev pub with_queue : Labels → Queue Place → Labels
with_queue l q = record { table = l.table; queue = q }

pub queue_falls : (s : Scope) (l : Labels) (q : Queue Place) → Falls s l (with_queue l q)
queue_falls s l q x cost h = h

pub entries_still : (s : Scope) (old new : Labels) → Falls s old new → (entries : List Entry) → All (IsEntryOffered s old) entries
    → All (IsEntryOffered s new) entries
entries_still s old new falls entries all k d lt = falls (get_or entries k d).place (get_or entries k d).lead (all k d lt)

absent_both : (b : Bool) (l : Label) → l ≡ Absent → (if b then l else Absent) ≡ Absent
absent_both true l e = e
absent_both false l e = refl

all_absent : (r : Row) (h : Dir) → r ≡ empty_row → label_in r h ≡ Absent
all_absent r h e = ap (λ (s : Row). label_in s h) e ∙ by_heading (λ d. label_in empty_row d ≡ Absent) refl refl refl refl h

-- without labels
module _ (p : Problem) (s : Scope) (l : Labels) (none : AreNone l) where
  no_label : (x : Place) → label_at l x ≡ Absent
  no_label x =
      absent_both (nat_lt x.crossing l.table.places) _ (all_absent _ x.heading
      (elim (cases_lt (row_of l.table x) (length l.table.rows.items)) as (λ _. get_or l.table.rows.items (row_of l.table x) empty_row ≡ empty_row) [
        | inl lt ↦ none.table (row_of l.table x) empty_row lt
        | inr past ↦ get_or_past l.table.rows.items (row_of l.table x) empty_row past
      ]))

  nothing_known : (x : Place) (v : ℕ) → cost_at l x ≡ Some v → ⊥
  nothing_known x v e = let wrong : ◌≡◌ {A = Option ℕ} None (Some v) = sym (ap cost_in (no_label x)) ∙ e in cc

  pub searching_begins : most_of s ≤ 10 ^ 18 → HasRooms p l → IsSearching p s l None None
  searching_begins small rooms = record {
    small = small;
    reached = λ x v e. absurd (nothing_known x v e);
    queued = λ x v but e. absurd (nothing_known x v.cost (ap cost_in e));
    propagated = λ x v but e. absurd (nothing_known x v.cost (ap cost_in e));
    candidates = none_all (heap_items l.queue.heap) none.queue (λ c. IsPlace p c.0.item);
    rooms = rooms;
  }

module _ (p : Problem) (s : Scope) (l : Labels) (q : Queue Place) (searching : IsSearching p s l None None) where
  -- what the queue has to have
  with_candidates : (but : Option Place) → All (λ (c : Reverse (Candidate Place)). IsPlace p c.0.item) (heap_items q.heap)
      → ((x : Place) (v : Ahead) → Some x ≢ but → label_at l x ≡ Open v → IsQueued (with_queue l q) x) → IsSearching p s (with_queue l q) but None
  with_candidates but places queued = record {
    small = searching.small;
    reached = searching.reached;
    queued = queued;
    propagated = λ x v other closed. still_propagated p s l (with_queue l q) (queue_falls s l q) x v.cost (searching.propagated x v other closed);
    candidates = places;
    rooms = record { places = searching.rooms.places; rows = searching.rooms.rows };
  }

  -- the queue is empty
  pub spread_at_end : All (IsEntryOffered s l) p.entries.items → heap_items l.queue.heap ≡ [] → heap_items q.heap ≡ [] → IsSpread p s (with_queue l q)
  spread_at_end entries old_none new_none =
      let never : (x : Place) (v : Ahead) → label_at l x ≡ Open v → ⊥ =
      λ x v is_open. (let has = searching.queued x v (λ none. cc) is_open in none_has (heap_items l.queue.heap) old_none _ has.1) in
      record {
        searching = with_candidates None (none_all (heap_items q.heap) new_none (λ c. IsPlace p c.0.item))
            (λ x v other is_open. absurd (never x v is_open));
        entries = entries;
        closed = never;
      }

  -- a candidate is taken out
  module _ (c : Candidate Place) (taken : IsPermutation (heap_items l.queue.heap) (record { 0 = c } ∷ heap_items q.heap)) where
    rest_or_taken : (d : Reverse (Candidate Place)) → Contains (heap_items l.queue.heap) d → Contains (heap_items q.heap) d ⊎ (d ≡ record { 0 = c })
    rest_or_taken = pop_or_rest (record { 0 = c }) (heap_items l.queue.heap) (heap_items q.heap) taken

    rest_places : All (λ (d : Reverse (Candidate Place)). IsPlace p d.0.item) (heap_items q.heap)
    rest_places = pop_all (record { 0 = c }) (heap_items l.queue.heap) (heap_items q.heap) taken (λ d. IsPlace p d.0.item) searching.candidates

    pub taken_place : IsPlace p c.item
    taken_place = pop_one (record { 0 = c }) (heap_items l.queue.heap) (heap_items q.heap) taken (λ d. IsPlace p d.0.item) searching.candidates

    pub lighter_queue : weight s (with_queue l q) + 1 ≤ weight s l
    lighter_queue = let less = pop_count (record { 0 = c }) (heap_items l.queue.heap) (heap_items q.heap) taken in omega (arith, less)

    pub taken_out : IsSearching p s (with_queue l q) (Some c.item) None
    taken_out = with_candidates (Some c.item) rest_places
        (λ x v other is_open.
        (let has = searching.queued x v (λ none. cc) is_open in
        elim (rest_or_taken _ has.1) as (λ _. IsQueued (with_queue l q) x) [
          | inl rest ↦ (has.0, rest)
          | inr same ↦ absurd (other (ap (λ (d : Reverse (Candidate Place)). Some d.0.item) same))
        ]))
