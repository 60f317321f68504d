-- The order of walks is total, and of the legal walks of a task one is first.
use Rattle.std.proofs.Common.{◌≡◌, ◌⊎◌, ℕ, suc, zero, ◌<◌, ◌≤◌, List, [], ◌∷◌, ◌++◌, length, get_or, Option, Some, None, refl, sym, ap, subst, ◌∙◌, inl, inr, arith, append_assoc, append-nil}
use Rattle.std.proofs.Math.Decide.{map_dec}
use Rattle.std.specs.declared.cmp.Ordering.{Ordering}
use Rattle.std.specs.declared.cmp.Ordering.TheVariants.{Less, Equal, Greater}
use Rattle.std.specs.Ordering.{nat_cmp, int_cmp, ordering_then, ordering_reverse}
use Rattle.std.specs.Prelude.{slice_get}
use Rattle.std.specs.Cmp.{IsTotalOrder}
use Rattle.std.specs.Cmp.Lexicographic.{slice_cmp}
use Rattle.std.proofs.lemmas.Bool.{cases_lt}
use Rattle.std.proofs.lemmas.Cmp.{nat_cmp_total, int_cmp_total, on_total, then_total, lists_total, alike_right, ranked}
use Rattle.std.proofs.lemmas.Option.{slice_get_within, slice_get-get_or}
use Rattle.plane_geom.specs.declared.point.Point.{Point}
use Rattle.plane_geom.specs.declared.point.Dir.{Dir}
use Rattle.plane_geom.specs.declared.rect.Solid.{Solid}
use Rattle.walk_model.specs.declared.task.Choice.{Choice}
use Rattle.walk_model.specs.declared.task.Task.{Task}
use Rattle.walk_model.specs.Cost.{runs}
use Rattle.walk_model.specs.Lean.{lean}
use Rattle.walk_model.specs.Legal.{IsLegal, cost_with}
use Rattle.walk_model.specs.Order.{Triple, IsLegalTriple, triple_cost, rank, dir_cmp, compare_triples, IsBefore, IsFirst}
use Rattle.walk_model.specs.OneFirst.{HasOneFirst}
use Rattle.walk_model.proofs.Ranking.Deciding.{decided, legal_reflects, rank_below, same_rank, unrank, unrank-rank}

-- the order of walks is a total order of their keys
pub triples_total : (task : Task) → IsTotalOrder (compare_triples task)
triples_total task =
    then_total (on_total (triple_cost task) nat_cmp_total)
    (then_total (on_total (λ (t : Triple). runs t.walk.steps) nat_cmp_total)
    (then_total (on_total (λ (t : Triple). lean t.walk.start t.walk.steps) int_cmp_total)
    (then_total (on_total (λ (t : Triple). t.start) nat_cmp_total)
    (then_total (on_total (λ (t : Triple). t.walk.steps) (lists_total (on_total rank nat_cmp_total)))
    (on_total (λ (t : Triple). t.end) nat_cmp_total)))))

pub before_one_way : (task : Task) (a b : Triple) → IsBefore task a b → IsBefore task b a → ⊥
before_one_way task a b h k =
    let reversed : Less ≡ ordering_reverse Less = sym h ∙ (triples_total task).antisymm a b ∙ ap ordering_reverse k in
    cc

pub before_transitive : (task : Task) (a b c : Triple) → IsBefore task a b → IsBefore task b c → IsBefore task a c
before_transitive task a b c h k = (triples_total task).trans a b c h k

-- what stands before a walk stands before each that does not stand before that one
before_upto : (task : Task) (v t u : Triple) → IsBefore task v t → (IsBefore task u t → ⊥) → IsBefore task v u
before_upto task v t u h not = by_order (compare_triples task t u) refl
  where
    by_order : (o : Ordering) → compare_triples task t u ≡ o → IsBefore task v u
    by_order Less e = (triples_total task).trans v t u h e
    by_order Equal e = sym (alike_right (triples_total task) t u v e) ∙ h
    by_order Greater e = absurd (not ((triples_total task).antisymm u t ∙ ap ordering_reverse e))

-- the first key alone: a walk that comes before another costs no more
cost_first : (o p : Ordering) (m n : ℕ) → o ≡ nat_cmp m n → ordering_then o p ≡ Less → m ≤ n
cost_first Less p m n e h = let l : m < n = ranked m n Less e in omega arith
cost_first Equal p m n e h = let l : m ≡ n = ranked m n Equal e in omega arith
cost_first Greater p m n e h = absurd (let wrong : Greater ≡ Less = h in cc)

pub before_cost : (task : Task) (a b : Triple) → IsBefore task a b → triple_cost task a ≤ triple_cost task b
before_cost task a b h = cost_first (nat_cmp (triple_cost task a) (triple_cost task b)) _ _ _ refl h

pub cheaper_cmp : (m n : ℕ) (p : Ordering) → m < n → ordering_then (nat_cmp m n) p ≡ Less
cheaper_cmp m n p h = by_order (nat_cmp m n) refl
  where
    by_order : (o : Ordering) → o ≡ nat_cmp m n → ordering_then o p ≡ Less
    by_order Less e = refl
    by_order Equal e = let l : m ≡ n = ranked m n Equal e in absurd (omega arith)
    by_order Greater e = let l : n < m = ranked m n Greater e in absurd (omega arith)

pub cheaper_before : (task : Task) (a b : Triple) → triple_cost task a < triple_cost task b → IsBefore task a b
cheaper_before task a b h = cheaper_cmp _ _ _ h

-- of the walks with a property, one before which none of them stands, or there are none
data Outcome (task : Task) (P : Triple → Type 0) : Type 0 where
  found : (t : Triple) → P t → ((u : Triple) → P u → IsBefore task u t → ⊥) → Outcome task P
  none : ((t : Triple) → P t → ⊥) → Outcome task P

outcome_as : {task : Task} (P Q : Triple → Type 0) → ((t : Triple) → P t → Q t) → ((t : Triple) → Q t → P t) → Outcome task P → Outcome task Q
outcome_as P Q f g (found t p least) = found t (f t p) (λ u q. least u (g u q))
outcome_as P Q f g (none not) = none (λ t q. not t (g t q))

either : {task : Task} (P Q : Triple → Type 0) → Outcome task P → Outcome task Q → Outcome task (λ t. P t ⊎ Q t)
either {task} P Q (none f) (none g) = none (λ t h. elim h as (λ _. ⊥) [ inl p ↦ f t p | inr q ↦ g t q ])
either {task} P Q (found t p least) (none g) = found t (inl p) (λ u h. elim h as (λ _. IsBefore task u t → ⊥) [ inl k ↦ least u k | inr q ↦ absurd (g u q) ])
either {task} P Q (none f) (found t q least) = found t (inr q) (λ u h. elim h as (λ _. IsBefore task u t → ⊥) [ inl p ↦ absurd (f u p) | inr k ↦ least u k ])
either {task} P Q (found t p least) (found u q least') = by_order (compare_triples task u t) refl
  where
    keeps : (IsBefore task u t → ⊥) → Outcome task (λ v. P v ⊎ Q v)
    keeps not = found t (inl p) (λ v h. elim h as (λ _. IsBefore task v t → ⊥)
        [ inl k ↦ least v k | inr k ↦ (λ b. least' v k (before_upto task v t u b not)) ])

    by_order : (o : Ordering) → compare_triples task u t ≡ o → Outcome task (λ v. P v ⊎ Q v)
    by_order Less e = found u (inr q) (λ v h. elim h as (λ _. IsBefore task v u → ⊥)
        [ inl k ↦ (λ b. least v k (before_transitive task v u t b e)) | inr k ↦ least' v k ])
    by_order Equal e = keeps (λ b. let wrong : Less ≡ Equal = sym b ∙ e in cc)
    by_order Greater e = keeps (λ b. let wrong : Less ≡ Greater = sym b ∙ e in cc)

-- the same over as many properties as are counted
over : {task : Task} (n : ℕ) (P : ℕ → Triple → Type 0) → ((k : ℕ) → Outcome task (P k)) → Outcome task (λ t. (k : ℕ) × (k < n) × P k t)
over zero P each = none (λ t h. let l : h.0 < zero = h.1 in omega arith)
over (suc n) P each = outcome_as (λ t. ((k : ℕ) × (k < n) × P k t) ⊎ P n t) (λ t. (k : ℕ) × (k < suc n) × P k t)
    (λ t h. elim h as (λ _. (k : ℕ) × (k < suc n) × P k t)
    [ inl g ↦ (g.0, let l : g.0 < n = g.1 in omega arith, g.2) | inr p ↦ (n, omega arith, p) ])
    (λ t h. elim (cases_lt h.0 n) as (λ _. ((k : ℕ) × (k < n) × P k t) ⊎ P n t)
    [ inl l ↦ inl (h.0, l, h.2) | inr l ↦ inr (subst (λ k. P k t) (let k : h.0 < suc n = h.1 in let e : h.0 ≡ n = omega arith in e) h.2) ])
    (either (λ t. (k : ℕ) × (k < n) × P k t) (P n) (over n P each) (each n))

-- a legal walk with these choices from this point, whose steps are some and then at most n others
record Continues (solids : List Solid) (task : Task) (i j : ℕ) (p : Point) (front : List Dir) (n : ℕ) (t : Triple) : Type 0 where
  is_start : t.start ≡ i
  is_end : t.end ≡ j
  begins : t.walk.start ≡ p
  legal : IsLegalTriple solids task t
  more : List Dir
  few : length more ≤ n
  steps : t.walk.steps ≡ front ++ more

triple_decided : (solids : List Solid) (task : Task) (t : Triple) → Dec (IsLegalTriple solids task t)
triple_decided solids task t = by_start (slice_get task.starts t.start) refl
  where
    by_end : (s : Choice) → slice_get task.starts t.start ≡ Some s → (e : Option Choice) → slice_get task.ends t.end ≡ e → Dec (IsLegalTriple solids task t)
    by_end s h None g = no (λ l. let wrong : None ≡ Some l.end = sym g ∙ l.is_end in cc)
    by_end s h (Some e) g = map_dec
        (λ l. record { start = s; end = e; is_start = h; is_end = g; legal = l })
        (λ l. let same : l.start ≡ s = let both : Some l.start ≡ Some s = sym l.is_start ∙ h in cc in
        let also : l.end ≡ e = let both : Some l.end ≡ Some e = sym l.is_end ∙ g in cc in
        subst (λ (c : Choice). IsLegal solids task.via c t.walk e) same (subst (λ (c : Choice). IsLegal solids task.via l.start t.walk c) also l.legal))
        (decided (legal_reflects solids task.via s t.walk e))

    by_start : (s : Option Choice) → slice_get task.starts t.start ≡ s → Dec (IsLegalTriple solids task t)
    by_start None h = no (λ l. let wrong : None ≡ Some l.start = sym h ∙ l.is_start in cc)
    by_start (Some s) h = by_end s h (slice_get task.ends t.end) refl

-- triples with equal parts are equal
same_triple : (t u : Triple) → t.start ≡ u.start → t.walk.start ≡ u.walk.start → t.walk.steps ≡ u.walk.steps → t.end ≡ u.end → t ≡ u
same_triple t u s p d e =
    ap (λ (k : ℕ). record { start = k; walk = t.walk; end = t.end }) s
    ∙ ap (λ (q : Point). record { start = u.start; walk = record { start = q; steps = t.walk.steps }; end = t.end }) p
    ∙ ap (λ (ds : List Dir). record { start = u.start; walk = record { start = u.walk.start; steps = ds }; end = t.end }) d
    ∙ ap (λ (k : ℕ). record { start = u.start; walk = u.walk; end = k }) e

empty_from_length : (ds : List Dir) → length ds ≤ 0 → ds ≡ []
empty_from_length [] h = refl
empty_from_length (d ∷ ds) h = absurd (omega arith)

module _ (solids : List Solid) (task : Task) (i j : ℕ) (p : Point) where
  -- the walk whose steps are all fixed
  stops : List Dir → Triple
  stops front = record { start = i; walk = record { start = p; steps = front }; end = j }

  is_stop : (front : List Dir) (u : Triple) → Continues solids task i j p front 0 u → u ≡ stops front
  unfolding stops
  is_stop front u c = same_triple u (stops front) c.is_start c.begins
      (c.steps ∙ ap (λ ds. front ++ ds) (empty_from_length c.more c.few) ∙ append-nil front) c.is_end

  search_stop : (front : List Dir) → Dec (IsLegalTriple solids task (stops front)) → Outcome task (Continues solids task i j p front 0)
  unfolding stops
  search_stop front (yes l) = found (stops front)
      (record { is_start = refl; is_end = refl; begins = refl; legal = l; more = []; few = omega arith; steps = sym (append-nil front) })
      (λ u c b. let same : IsBefore task (stops front) (stops front) = subst (λ v. IsBefore task v (stops front)) (is_stop front u c) b in before_one_way task _ _ same same)
  search_stop front (no not) = none (λ u c. not (subst (IsLegalTriple solids task) (is_stop front u c) c.legal))

  Longer : List Dir → ℕ → Triple → Type 0
  Longer front n t = (k : ℕ) × (k < 4) × Continues solids task i j p (front ++ unrank k ∷ []) n t

  split : (front : List Dir) (n : ℕ) (t : Triple) → Continues solids task i j p front (suc n) t → Continues solids task i j p front 0 t ⊎ Longer front n t
  unfolding Longer
  split front n t c = by_more c.more c.few c.steps
    where
      by_more : (more : List Dir) → length more ≤ suc n → t.walk.steps ≡ front ++ more → Continues solids task i j p front 0 t ⊎ Longer front n t
      by_more [] few steps = inl (record { is_start = c.is_start; is_end = c.is_end; begins = c.begins; legal = c.legal; more = []; few = omega arith; steps = steps })
      by_more (d ∷ more) few steps = inr (
        rank d,
        rank_below d,
        record {
          is_start = c.is_start;
          is_end = c.is_end;
          begins = c.begins;
          legal = c.legal;
          more = more;
          few = omega arith;
          steps = steps ∙ sym (append_assoc front (d ∷ []) more) ∙ ap (λ (e : Dir). (front ++ e ∷ []) ++ more) (sym (unrank-rank d));
        },
      )

  unsplit : (front : List Dir) (n : ℕ) (t : Triple) → Continues solids task i j p front 0 t ⊎ Longer front n t → Continues solids task i j p front (suc n) t
  unfolding Longer
  unsplit front n t (inl c) = record { is_start = c.is_start; is_end = c.is_end; begins = c.begins; legal = c.legal; more = c.more; few = let l : length c.more ≤ 0 = c.few in omega arith; steps = c.steps }
  unsplit front n t (inr (k, l, c)) = record {
    is_start = c.is_start;
    is_end = c.is_end;
    begins = c.begins;
    legal = c.legal;
    more = unrank k ∷ c.more;
    few = let g : length c.more ≤ n = c.few in omega arith;
    steps = c.steps ∙ append_assoc front (unrank k ∷ []) c.more;
  }

  -- of the legal walks with these choices, this begin and at most n steps more, one stands before all others
  search_steps : (n : ℕ) (front : List Dir) → Outcome task (Continues solids task i j p front n)
  unfolding Longer
  search_steps zero front = search_stop front (triple_decided solids task (stops front))
  search_steps (suc n) front = outcome_as (λ t. Continues solids task i j p front 0 t ⊎ Longer front n t) (Continues solids task i j p front (suc n)) (unsplit front n) (split front n)
      (either (Continues solids task i j p front 0) (Longer front n)
      (search_stop front (triple_decided solids task (stops front)))
      (over 4 (λ k. Continues solids task i j p (front ++ unrank k ∷ []) n) (λ k. search_steps n (front ++ unrank k ∷ []))))

-- a legal walk of at most n steps
Short : List Solid → Task → ℕ → Triple → Type 0
Short solids task n t = IsLegalTriple solids task t × (length t.walk.steps ≤ n)

-- where the walks of a task begin that have the start choice at a place
pin_at : Task → Choice → ℕ → Point
pin_at task c i = (get_or task.starts i c).pin

legal_pin : (solids : List Solid) (task : Task) (c : Choice) (t : Triple) → IsLegalTriple solids task t → t.walk.start ≡ pin_at task c t.start
unfolding pin_at
legal_pin solids task c t l =
    let within = slice_get_within task.starts t.start l.start l.is_start in
    let same : l.start ≡ get_or task.starts t.start c =
    let both : Some l.start ≡ Some (get_or task.starts t.start c) = sym l.is_start ∙ slice_get-get_or task.starts t.start c within in cc in
    l.legal.leaves.pin ∙ ap (λ (s : Choice). s.pin) same

-- of the legal walks of at most n steps, one stands before all others
search : (solids : List Solid) (task : Task) (c : Choice) (n : ℕ) → Outcome task (Short solids task n)
unfolding pin_at Short
search solids task c n =
    let By : ℕ → ℕ → Triple → Type 0 = λ i j. Continues solids task i j (pin_at task c i) [] n in
    let Among : ℕ → Triple → Type 0 = λ i t. (j : ℕ) × (j < length task.ends) × By i j t in
    outcome_as (λ t. (i : ℕ) × (i < length task.starts) × Among i t) (Short solids task n)
    (λ t h. let found = h.2.2 in (found.legal, omega (arith, ap length found.steps, found.few)))
    (λ t h. let l = h.0 in (
      t.start,
      slice_get_within task.starts t.start l.start l.is_start,
      (
        t.end,
        slice_get_within task.ends t.end l.end l.is_end,
        record { is_start = refl; is_end = refl; begins = legal_pin solids task c t l; legal = l; more = t.walk.steps; few = h.1; steps = refl },
      ),
    ))
    (over (length task.starts) Among (λ i. over (length task.ends) (By i) (λ j. search_steps solids task i j (pin_at task c i) n [])))

steps_within_cost : (task : Task) (t : Triple) → length t.walk.steps ≤ triple_cost task t
steps_within_cost task t = omega arith

-- where a walk is legal, a first one is among those that cost no more
first_exists : (solids : List Solid) (task : Task) (t : Triple) → IsLegalTriple solids task t → (first : Triple) × IsFirst solids task first
unfolding Short
first_exists solids task t l = by_search (search solids task l.start (triple_cost task t))
  where
    by_search : Outcome task (Short solids task (triple_cost task t)) → (first : Triple) × IsFirst solids task first
    by_search (none not) = absurd (not t (l, steps_within_cost task t))
    by_search (found u short least) =
        let cheap : triple_cost task u ≤ triple_cost task t =
        elim (cases_lt (triple_cost task t) (triple_cost task u)) as (λ _. triple_cost task u ≤ triple_cost task t)
        [ inl more ↦ absurd (least t (l, steps_within_cost task t) (cheaper_before task t u more)) | inr h ↦ h ] in (
          u,
          record {
            legal = short.0;
            first = λ other legal before.
                elim (cases_lt (triple_cost task t) (length other.walk.steps)) as (λ _. ⊥) [
                  | inl long ↦ (let within = steps_within_cost task other in let no_more = before_cost task other u before in omega arith)
                  | inr h ↦ least other (legal, h) before
                ];
          },
        )

then_equal : (o p : Ordering) → ordering_then o p ≡ Equal → (o ≡ Equal) × (p ≡ Equal)
then_equal Less p h = (absurd (let wrong : Less ≡ Equal = h in cc), absurd (let wrong : Less ≡ Equal = h in cc))
then_equal Equal p h = (refl, h)
then_equal Greater p h = (absurd (let wrong : Greater ≡ Equal = h in cc), absurd (let wrong : Greater ≡ Equal = h in cc))

same_number : (m n : ℕ) → nat_cmp m n ≡ Equal → m ≡ n
same_number m n h = ranked m n Equal (sym h)

same_steps : (xs ys : List Dir) → slice_cmp dir_cmp xs ys ≡ Equal → xs ≡ ys
same_steps [] [] h = refl
same_steps [] (y ∷ ys) h = absurd (let wrong : Less ≡ Equal = h in cc)
same_steps (x ∷ xs) [] h = absurd (let wrong : Greater ≡ Equal = h in cc)
same_steps (x ∷ xs) (y ∷ ys) h =
    let e = then_equal (dir_cmp x y) (slice_cmp dir_cmp xs ys) h in
    let head : x ≡ y = same_rank x y (same_number (rank x) (rank y) e.0) in
    let tail : xs ≡ ys = same_steps xs ys e.1 in cc

-- legal walks that the order does not distinguish are equal
same_order : (solids : List Solid) (task : Task) (a b : Triple) → IsLegalTriple solids task a → IsLegalTriple solids task b → compare_triples task a b ≡ Equal → a ≡ b
same_order solids task a b l k h =
    let runs_on = (then_equal (nat_cmp (triple_cost task a) (triple_cost task b)) _ h).1 in
    let lean_on = (then_equal (nat_cmp (runs a.walk.steps) (runs b.walk.steps)) _ runs_on).1 in
    let start_on = (then_equal (int_cmp (lean a.walk.start a.walk.steps) (lean b.walk.start b.walk.steps)) _ lean_on).1 in
    let e = then_equal (nat_cmp a.start b.start) _ start_on in
    let f = then_equal (slice_cmp dir_cmp a.walk.steps b.walk.steps) (nat_cmp a.end b.end) e.1 in
    let start : a.start ≡ b.start = same_number a.start b.start e.0 in
    let same : l.start ≡ k.start =
    let both : Some l.start ≡ Some k.start = sym l.is_start ∙ ap (slice_get task.starts) start ∙ k.is_start in cc in
    same_triple a b start
    (l.legal.leaves.pin ∙ ap (λ (c : Choice). c.pin) same ∙ sym k.legal.leaves.pin)
    (same_steps a.walk.steps b.walk.steps f.0)
    (same_number a.end b.end f.1)

-- one of two legal walks stands before the other, or they are one
by_order : (solids : List Solid) (task : Task) (a b : Triple) → IsLegalTriple solids task a → IsLegalTriple solids task b → (a ≡ b) ⊎ (IsBefore task a b ⊎ IsBefore task b a)
by_order solids task a b l k = decided (compare_triples task a b) refl
  where
    decided : (o : Ordering) → compare_triples task a b ≡ o → (a ≡ b) ⊎ (IsBefore task a b ⊎ IsBefore task b a)
    decided Less e = inr (inl e)
    decided Equal e = inl (same_order solids task a b l k e)
    decided Greater e = inr (inr ((triples_total task).antisymm b a ∙ ap ordering_reverse e))

-- the cost of a legal walk is that of its steps and of its two choices
cost_of_choices : (solids : List Solid) (task : Task) (t : Triple) (l : IsLegalTriple solids task t) → triple_cost task t ≡ cost_with task.penalty l.start t.walk l.end
cost_of_choices solids task t l = rw (l.is_start, l.is_end) refl

pub one_first : (solids : List Solid) (task : Task) → HasOneFirst solids task
one_first solids task = record {
  total = λ a b l k not. elim (by_order solids task a b l k) as (λ _. IsBefore task a b ⊎ IsBefore task b a) [ inl e ↦ absurd (not e) | inr h ↦ h ];
  one_way = before_one_way task;
  transitive = before_transitive task;
  some = first_exists solids task;
  one = λ a b f g. elim (by_order solids task a b f.legal g.legal) as (λ _. a ≡ b)
      [ inl e ↦ e | inr (inl h) ↦ absurd (g.first a f.legal h) | inr (inr h) ↦ absurd (f.first b g.legal h) ];
  cost = cost_of_choices solids task;
  none = (λ none t f. none t f.legal, λ none t l. let first = first_exists solids task t l in none first.0 first.1);
}
