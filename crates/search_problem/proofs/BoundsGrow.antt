-- Lower bounds on the cost of reaching a place: at most the cost of an entry, and along a move they grow by at most the cost of the move.
use Rattle.std.proofs.Common.{◌≡◌, ℕ, zero, suc, ◌+◌, ◌*◌, ◌-◌, ◌<◌, ◌≤◌, List, [], ◌∷◌, Some, length, get_or, pos, refl, sym, ap, ◌∙◌, subst, arith, add-zero}
use Rattle.std.specs.declared.alloc.Global.{Global}
use Rattle.std.specs.Prelude.{Vec, Any, fold, min, slice_get}
use Rattle.std.proofs.Math.Nat.{mul-le-mul_left}
use Rattle.std.proofs.lemmas.Int.{ints}
use Rattle.std.proofs.lemmas.Option.{get_or_from_slice_get}
use Rattle.plane_geom.specs.declared.point.Point.{Point}
use Rattle.plane_geom.specs.declared.point.Dir.{Dir}
use Rattle.plane_geom.specs.declared.point.Dir.TheVariants.{East, South, West, North}
use Rattle.plane_geom.specs.Rect.{HasWithin}
use Rattle.plane_geom.specs.Point.{distance, forward}
use Rattle.walk_model.specs.Cost.{turn}
use Rattle.walk_model.specs.declared.task.Task.{Task}
use Rattle.move_model.specs.Boxes.{fewest_bends}
use Rattle.move_model.specs.Places.{ComesTo}
use Rattle.move_model.proofs.Bounds.{bends_grow, distance_grows, within_bends}
use Rattle.search_problem.specs.Bounds.{AreStages, bound_of, checkpoint, least_bound_from, most_cost, origin_at, origins_after, origins_at}
use Rattle.search_problem.specs.Origins.{Covers, bound_from}
use Rattle.search_problem.specs.declared.ends.Entry.{Entry}
use Rattle.search_problem.specs.declared.origin.Origin.{Origin}

-- the least of numbers that each grow by at most this grows by at most this
least_grows : {X : Type 0} (f g : X → ℕ) (k : ℕ) → ((x : X) → f x ≤ g x + k) → (xs : List X) (m n : ℕ) → m ≤ n + k
    → fold (λ least x. min least (f x)) m xs ≤ fold (λ least x. min least (g x)) n xs + k
least_grows f g k h [] m n le = le
least_grows f g k h (x ∷ xs) m n le = least_grows f g k h xs (min m (f x)) (min n (g x)) (omega (arith, h x, le))

least_at_most : {X : Type 0} (f : X → ℕ) (xs : List X) (m : ℕ) → fold (λ least x. min least (f x)) m xs ≤ m
least_at_most f [] m = omega arith
least_at_most f (x ∷ xs) m = let h = least_at_most f xs (min m (f x)) in omega (arith, h)

least_of : {X : Type 0} (f : X → ℕ) (xs : List X) (m k : ℕ) (x : X) → k < length xs → get_or xs k x ≡ x → fold (λ least y. min least (f y)) m xs ≤ f x
least_of f [] m k x lt e = absurd (omega (arith, lt))
least_of f (y ∷ ys) m zero x lt e = let a = least_at_most f ys (min m (f y)) in let same = ap f e in omega (arith, a, same)
least_of f (y ∷ ys) m (suc k) x lt e = least_of f ys (min m (f y)) k x (omega (arith, lt)) e

found_at : (via : List Point) (k : ℕ) (p : Point) → slice_get via k ≡ Some p → checkpoint via k ≡ p
found_at via k p e = get_or_from_slice_get via k p (record { x = pos 0; y = pos 0 }) e

-- the bound grows along a move by no more than the move costs
bound_grows : (origins : List Origin) (penalty : ℕ) (p : Point) (h d : Dir) (n : ℕ) → distance p (forward d n p) ≡ n
    → least_bound_from penalty origins (forward d n p) d ≤ least_bound_from penalty origins p h + (n + penalty * turn h d)
bound_grows origins penalty p h d n far =
    least_grows (λ o. bound_from penalty o (forward d n p) d) (λ o. bound_from penalty o p h) (n + penalty * turn h d)
    (λ o.
    let near = distance_grows o.ports p (forward d n p) in
    let few = mul-le-mul_left penalty (bends_grow o.dir o.ports p h d n) in
    omega (arith, near, few, far))
    origins most_cost most_cost (omega arith)

-- at its ports and in its direction an origin costs its lead
leads : (penalty : ℕ) (o : Origin) (p : Point) (d : Dir) → d ≡ o.dir → HasWithin o.ports p → bound_from penalty o p d ≡ o.lead
leads penalty o p d same h =
    let w = within_bends o.dir o.ports p h in
    let bends : fewest_bends o.dir o.ports p d ≡ 0 = ap (fewest_bends o.dir o.ports p) same ∙ w.1 in
    let free : penalty * fewest_bends o.dir o.ports p d ≡ 0 = ap (λ b. penalty * b) bends ∙ omega arith in
    omega (arith, w.0, free)

-- at a checkpoint the bound after it is no more than the bound before it
module _ (penalty : ℕ) (before : List Origin) (p : Point) where
  leaves : (d : Dir) → bound_from penalty (origin_at penalty before p d) p d ≡ least_bound_from penalty before p d
  leaves d = leads penalty (origin_at penalty before p d) p d refl (record { left = omega (arith, ints); right = omega (arith, ints); top = omega (arith, ints); bottom = omega (arith, ints) })

  one_leaves : (d : Dir) (k : ℕ) → k < 4 → get_or (origins_at penalty before p) k (origin_at penalty before p d) ≡ origin_at penalty before p d
      → least_bound_from penalty (origins_at penalty before p) p d ≤ least_bound_from penalty before p d
  one_leaves d k few is =
      let least = least_of (λ o. bound_from penalty o p d) (origins_at penalty before p) most_cost k (origin_at penalty before p d) (omega (arith, few)) is in
      omega (arith, least, leaves d)

  pub checkpoint_stays : (d : Dir) → least_bound_from penalty (origins_at penalty before p) p d ≤ least_bound_from penalty before p d
  checkpoint_stays East = one_leaves East 0 (omega arith) refl
  checkpoint_stays South = one_leaves South 1 (omega arith) refl
  checkpoint_stays West = one_leaves West 2 (omega arith) refl
  checkpoint_stays North = one_leaves North 3 (omega arith) refl

module _ (stages : List (Vec Origin Global)) (task : Task) (are : AreStages task.penalty task.via stages) (all : length stages ≡ length task.via + 1) where
  -- checkpoints at the point cost nothing there
  stays : (n k : ℕ) (d : Dir) (p : Point) → k + n ≤ length task.via → ((i : ℕ) → k ≤ i → i < k + n → slice_get task.via i ≡ Some p) → bound_of stages task (k + n) d p ≤ bound_of stages task k d p
  stays zero k d p within h = rw add-zero (omega arith)
  stays (suc n) k d p within h =
      let e : checkpoint task.via (k + n) ≡ p = found_at task.via (k + n) p (h (k + n) (omega arith) (omega arith)) in
      let here = stays n k d p (omega (arith, within)) (λ i from to. h i from (omega arith)) in
      let next : origins_after stages (k + n + 1) ≡ origins_at task.penalty (origins_after stages (k + n)) p =
      are.next (k + n) (omega (arith, within, all)) ∙ ap (origins_at task.penalty (origins_after stages (k + n))) e in
      let one = checkpoint_stays task.penalty (origins_after stages (k + n)) p d in
      let same : bound_of stages task (k + n + 1) d p ≡ least_bound_from task.penalty (origins_at task.penalty (origins_after stages (k + n)) p) p d = ap (λ os. least_bound_from task.penalty os p d) next in
      let number : k + suc n ≡ k + n + 1 = omega arith in
      subst (λ j. bound_of stages task j d p ≤ bound_of stages task k d p) (sym number) (omega (arith, here, one, same))

  comes_stays : (k j : ℕ) (d : Dir) (p : Point) → ComesTo task.via k p j → bound_of stages task j d p ≤ bound_of stages task k d p
  comes_stays k j d p c =
      let more : (n : ℕ) × (k + n ≡ j) = (j - k, omega (arith, c.from)) in
      subst (λ i. bound_of stages task i d p ≤ bound_of stages task k d p) more.1
      (stays more.0 k d p (omega (arith, more.1, c.within)) (λ i from to. c.passed i from (omega (arith, more.1, to))))

  -- the bound after a move is at most the bound before it plus the cost of the move
  pub bound_moves : (k j : ℕ) (h d : Dir) (n : ℕ) (p : Point) → distance p (forward d n p) ≡ n → ComesTo task.via k (forward d n p) j
      → bound_of stages task j d (forward d n p) ≤ bound_of stages task k h p + n + task.penalty * turn h d
  bound_moves k j h d n p far c =
      let grown = bound_grows (origins_after stages k) task.penalty p h d n far in
      let here = comes_stays k j d (forward d n p) c in
      omega (arith, grown, here)

  -- and an entry costs no less
  pub bound_enters : (e : Entry) (k : ℕ) → Any (λ o. Covers o e) (origins_after stages 0) → ComesTo task.via 0 e.port k → bound_of stages task k e.place.heading e.port ≤ e.lead
  bound_enters e k some c =
      let o = some.1 in
      let h = some.4 in
      let here = comes_stays 0 k e.place.heading e.port c in
      let least = least_of (λ o. bound_from task.penalty o e.port e.place.heading) (origins_after stages 0) most_cost some.0 o some.2 some.3 in
      omega (arith, here, least, leads task.penalty o e.port e.place.heading h.dir h.port, h.lead)
