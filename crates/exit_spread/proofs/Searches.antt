-- A search begins without exits, removes the candidate with the least bound, and ends where none matters.
use Rattle.std.proofs.Common.{◌≡◌, ◌⊎◌, ℕ, ◌+◌, ◌<◌, ◌≤◌, Bool, true, false, if◌then◌else◌, nat_lt, List, [], ◌∷◌, Option, None, Some, All, Vec, get_or, length, refl, sym, ap, subst, inl, inr, arith}
use Rattle.std.specs.Prelude.{Contains, IsPermutation, slice_get}
use Rattle.std.specs.BinaryHeap.{heap_items}
use Rattle.std.specs.declared.alloc.Global.{Global}
use Rattle.std.specs.declared.cmp.Reverse.{Reverse}
use Rattle.std.proofs.lemmas.Bool.{cases_lt}
use Rattle.std.proofs.lemmas.List.{get_or_default}
use Rattle.search_problem.specs.declared.queue.Candidate.{Candidate}
use Rattle.search_problem.specs.declared.queue.Queue.{Queue}
use Rattle.plane_geom.specs.declared.point.Point.{Point}
use Rattle.plane_geom.specs.declared.point.Dir.{Dir}
use Rattle.plane_geom.specs.declared.point.Way.{Way}
use Rattle.plane_geom.specs.Along.{way_of}
use Rattle.line_arena.specs.Arena.{StandsAt}
use Rattle.walk_laws.proofs.OnKeptLines.Lines.{chosen}
use Rattle.line_lists.specs.Lists.{Lists, number_of}
use Rattle.move_model.specs.Places.{ComesTo}
use Rattle.search_problem.specs.Problems.{IsReady}
use Rattle.search_problem.specs.declared.ends.Ending.{Ending}
use Rattle.search_problem.specs.declared.problem.Problem.{Problem}
use Rattle.exit_rows.specs.Exits.{IsLate}
use Rattle.exit_rows.specs.Rows.{IsClear, exits_in, kept_in, row_of}
use Rattle.exit_rows.specs.declared.exit.Exit.{Exit}
use Rattle.exit_rows.specs.declared.exit.Kept.{Kept}
use Rattle.exit_rows.specs.declared.rows.Rows.{Rows}
use Rattle.exit_spread.specs.declared.spread.Spread.{Spread}
use Rattle.exit_spread.specs.Propagating.{IsSound}
use Rattle.exit_spread.specs.Offers.{IsOffered, IsTaken, kept_of}
use Rattle.exit_spread.specs.Searching.{AreNone, HasRooms, IsCandidate, IsKeptOf, IsSearching, IsSettled, IsStubOffered, weight}
use Rattle.exit_spread.specs.Taking.{Grows, IsExit}
use Rattle.exit_spread.specs.Ways.{IsBest}
use Rattle.exit_spread.proofs.Sizes.{small_ending}
use Rattle.exit_spread.proofs.Spreading.Still.{still_late}
use Rattle.exit_spread.proofs.Taking.Offered.{grows_both, grows_offered, same_searching}
use Rattle.search_problem.proofs.Queues.{none_all, none_has, pop_all, pop_count, pop_one, pop_or_rest}

-- ---- without exits

none_in : (rows : List (Vec Kept Global)) (i : ℕ) (o : Option (Vec Kept Global)) → slice_get rows i ≡ o → All (λ (row : Vec Kept Global). row.items ≡ []) rows → exits_in o ≡ []
none_in rows i None is clear = refl
none_in rows i (Some row) is clear = chosen (λ (r : Vec Kept Global). r.items ≡ []) rows i row is clear

none_both : (b : Bool) (es : List Kept) → es ≡ [] → (if b then es else []) ≡ []
none_both true es none = none
none_both false es none = refl

no_exit : (t : Rows) → IsClear t → (k l : ℕ) (d : Dir) → kept_in t k l d ≡ []
no_exit t clear k l d = none_both (nat_lt l t.lines) (exits_in (slice_get t.rows.items (row_of t k l d))) (none_in t.rows.items (row_of t k l d) (slice_get t.rows.items (row_of t k l d)) refl clear.rows)

module _ (p : Problem) (line_of : ℕ → Way → ℕ) where
  pub searching_begins : (s : Spread) → AreNone s → HasRooms p line_of s → IsBest p s.limit s.best → IsSearching p line_of s None None
  searching_begins s none rooms best = record {
    kept = λ k c d at here. (let l = line_of c (way_of d) in none_all (kept_in s.rows k l d) (no_exit s.rows none.rows k l d) (IsKeptOf p line_of k l d));
    propagated = λ k c d at e here has but. (let l = line_of c (way_of d) in absurd (none_has (kept_in s.rows k l d) (no_exit s.rows none.rows k l d) e has));
    candidates = none_all (heap_items s.queue.heap) none.queue (λ c. IsCandidate p line_of c.0);
    best = best;
    marked = record {
      rows = λ k row is. inl (chosen (λ (r : Vec Kept Global). r.items ≡ []) s.rows.rows.items k row is none.rows.rows);
      marks = none_all s.rows.marked.items none.rows.marks (λ k. k < length s.rows.rows.items);
    };
    rooms = rooms;
  }

  -- the one exit that was being taken is taken
  module _ (s : Spread) (x : Exit) (taken : (at : Point) → StandsAt p.arena.now x.place.crossing at → IsTaken p s at x) where
    filled : (r : Point) (y : Exit) → StandsAt p.arena.now y.place.crossing r → IsOffered p s (Some x) r y → IsOffered p s None r y
    filled r y here (inl out) = inl out
    filled r y here (inr (inl queued)) = inr (inl queued)
    filled r y here (inr (inr (inl was))) = inr (inr (inl was))
    filled r y here (inr (inr (inr same))) =
        let is : x ≡ y = cc in
        inr (inr (inl (subst (IsTaken p s r) is (taken r (subst (λ (z : Exit). StandsAt p.arena.now z.place.crossing r) (sym is) here)))))

    pub closed : IsSearching p line_of s (Some x) None → IsSearching p line_of s None None
    closed h = same_searching p line_of s s (Some x) None filled refl (record { candidates = h.candidates; best = h.best }) None h

  -- a candidate is removed
  module _ (s : Spread) (q : Queue Exit) (h : IsSearching p line_of s None None) where
    abbrev pub left : Spread
    left = record { rows = s.rows; queue = q; best = s.best; limit = s.limit }

    module _ (c : Candidate Exit) (removed : IsPermutation (heap_items s.queue.heap) (record { 0 = c } ∷ heap_items q.heap)) where
      candidate : IsCandidate p line_of c
      candidate = pop_one (record { 0 = c }) (heap_items s.queue.heap) (heap_items q.heap) removed (λ d. IsCandidate p line_of d.0) h.candidates

      sound : IsSound p line_of left
      sound = record {
        candidates = pop_all (record { 0 = c }) (heap_items s.queue.heap) (heap_items q.heap) removed (λ d. IsCandidate p line_of d.0) h.candidates;
        best = h.best;
      }

      rest_or_this : (d : Reverse (Candidate Exit)) → Contains (heap_items s.queue.heap) d → Contains (heap_items q.heap) d ⊎ (d ≡ record { 0 = c })
      rest_or_this = pop_or_rest (record { 0 = c }) (heap_items s.queue.heap) (heap_items q.heap) removed

      pub may_take : (at : Point) × IsExit p line_of c.item at
      may_take = (candidate.point, record { line = candidate.line; stage = candidate.stage; way = candidate.way; small = candidate.small })

      pub offered_or_taken : (r : Point) (x : Exit) → StandsAt p.arena.now x.place.crossing r → IsOffered p s None r x → IsOffered p left (Some c.item) r x
      offered_or_taken r x here (inl out) = inl out
      offered_or_taken r x here (inr (inl queued)) = elim (rest_or_this _ queued) as (λ _. IsOffered p left (Some c.item) r x) [
        | inl rest ↦ inr (inl rest)
        | inr same ↦ inr (inr (inr (sym (ap (λ (d : Reverse (Candidate Exit)). Some d.0.item) same))))
      ]
      offered_or_taken r x here (inr (inr (inl was))) = inr (inr (inl was))
      offered_or_taken r x here (inr (inr (inr same))) = absurd (let wrong : ◌≡◌ {A = Option Exit} None (Some x) = same in cc)

      pub taking : IsSearching p line_of left (Some c.item) None
      taking = same_searching p line_of s left None (Some c.item) offered_or_taken refl sound None h

      pub lighter : (lists : Lists) → weight p lists left + 1 ≤ weight p lists s
      lighter lists = let less = pop_count (record { 0 = c }) (heap_items s.queue.heap) (heap_items q.heap) removed in omega (arith, less)

      -- the stubs of the endings stay offered when it is taken
      pub stubs_stay : IsReady p → (lists : Lists) (new : Spread) → Grows p lists left new →
          ((at : Point) → StandsAt p.arena.now c.item.place.crossing at → IsTaken p new at c.item) →
          All (IsStubOffered p line_of s None) p.endings.items → All (IsStubOffered p line_of new None) p.endings.items
      stubs_stay ready lists new grows taken stubs k d lt g =
          let e : Ending = get_or p.endings.items k d in
          let small = small_ending p e ready (k, lt, sym (get_or_default p.endings.items k d e lt)) in
          let of = small.of in
          let here : StandsAt p.arena.now e.crossing e.port = subst (StandsAt p.arena.now e.crossing) (sym of.port) of.here in
          filled new c.item taken e.port _ here (grows_offered p lists left new grows (Some c.item) e.port _ (offered_or_taken e.port _ here (stubs k d lt g)))

      -- it costs more than the best walk, and so do all that are left
      module _ (least : All (λ (d : Reverse (Candidate Exit)). c.bound ≤ d.0.bound) (heap_items q.heap)) (more : s.best < c.bound) where
        settled : (r : Point) (x : Exit) → StandsAt p.arena.now x.place.crossing r → IsOffered p s None r x → IsOffered p left None r x
        settled r x here (inl out) = inl out
        settled r x here (inr (inl queued)) = elim (rest_or_this _ queued) as (λ _. IsOffered p left None r x) [
          | inl rest ↦ inr (inl rest)
          | inr same ↦ inl (inl (let bound = ap (λ (d : Reverse (Candidate Exit)). d.0.bound) same in omega (arith, bound, more)))
        ]
        settled r x here (inr (inr (inl was))) = inr (inr (inl was))
        settled r x here (inr (inr (inr same))) = absurd (let wrong : ◌≡◌ {A = Option Exit} None (Some x) = same in cc)

        pub spread_at_break : IsReady p → All (IsStubOffered p line_of s None) p.endings.items → IsSettled p line_of left
        spread_at_break ready stubs = record {
          searching = same_searching p line_of s left None None settled refl sound None h;
          stubs = λ k d lt g. (
              let e : Ending = get_or p.endings.items k d in
              let small = small_ending p e ready (k, lt, sym (get_or_default p.endings.items k d e lt)) in
              let of = small.of in
              let here : StandsAt p.arena.now e.crossing e.port = subst (StandsAt p.arena.now e.crossing) (sym of.port) of.here in
              settled e.port _ here (stubs k d lt g));
          dear = λ k d lt. (let upto = least k d lt in omega (arith, upto, more));
        }

    -- none is left
    module _ (was : heap_items s.queue.heap ≡ []) (none : heap_items q.heap ≡ []) where
      kept_on : (r : Point) (x : Exit) → IsOffered p s None r x → IsOffered p left None r x
      kept_on r x (inl out) = inl out
      kept_on r x (inr (inl queued)) = absurd (none_has (heap_items s.queue.heap) was _ queued)
      kept_on r x (inr (inr (inl taken))) = inr (inr (inl taken))
      kept_on r x (inr (inr (inr same))) = absurd (let wrong : ◌≡◌ {A = Option Exit} None (Some x) = same in cc)

      pub spread_at_end : All (IsStubOffered p line_of s None) p.endings.items → IsSettled p line_of left
      spread_at_end stubs = record {
        searching = same_searching p line_of s left None None (λ r x here o. kept_on r x o) refl
            (record { candidates = none_all (heap_items q.heap) none (λ c. IsCandidate p line_of c.0); best = h.best }) None h;
        stubs = λ k d lt g. kept_on _ _ (stubs k d lt g);
        dear = none_all (heap_items q.heap) none (λ c. s.best < c.0.bound);
      }

-- in the first of the stages the exit is taken
pub record TakenUpTo (p : Problem) (lists : Lists) (x : Exit) (at : Point) (old now : Spread) (stages : ℕ) : Type 0 where
  pub searching : IsSearching p (number_of lists) now (Some x) None
  pub grows : Grows p lists old now
  pub taken : (k : ℕ) → k < stages → ComesTo p.task.now.via k at x.place.stage → IsLate (kept_in now.rows k x.line x.place.heading) (kept_of p k at x)

module _ (p : Problem) (lists : Lists) (x : Exit) (at : Point) (old mid : Spread) (k : ℕ) (h : TakenUpTo p lists x at old mid k) where
  -- and in one more
  pub taken_more : (new : Spread) → IsSearching p (number_of lists) new (Some x) None → Grows p lists mid new → IsLate (kept_in new.rows k x.line x.place.heading) (kept_of p k at x) → TakenUpTo p lists x at old new (k + 1)
  taken_more new searching grows late = record {
    searching = searching;
    grows = grows_both p lists old mid new h.grows grows;
    taken = λ j less comes. elim (cases_lt j k) as (λ _. IsLate (kept_in new.rows j x.line x.place.heading) (kept_of p j at x)) [
      | inl before ↦ still_late mid new grows.rows j x.line x.place.heading (kept_of p j at x) (h.taken j before comes)
      | inr upto ↦ (let same : k ≡ j = omega (arith, upto, less) in subst (λ (i : ℕ). IsLate (kept_in new.rows i x.line x.place.heading) (kept_of p i at x)) same late)
    ];
  }

  -- from which no walk reaches it
  pub taken_past : (ComesTo p.task.now.via k at x.place.stage → ⊥) → TakenUpTo p lists x at old mid (k + 1)
  taken_past never = record {
    searching = h.searching;
    grows = h.grows;
    taken = λ j less comes. elim (cases_lt j k) as (λ _. IsLate (kept_in mid.rows j x.line x.place.heading) (kept_of p j at x)) [
      | inl before ↦ h.taken j before comes
      | inr upto ↦ (let same : j ≡ k = omega (arith, upto, less) in absurd (never (subst (λ (i : ℕ). ComesTo p.task.now.via i at x.place.stage) same comes)))
    ];
  }
