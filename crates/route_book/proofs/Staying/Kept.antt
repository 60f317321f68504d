-- A first walk stays first where it meets no new solid, and no walk that costs no more met a removed one.
use Rattle.std.proofs.Common.{◌≡◌, ◌≢◌, ℕ, ◌+◌, ◌-◌, ◌<◌, ◌≤◌, ℤ, List, length, Option, Some, None, ap, ◌∙◌, inl, inr, arith}
use Rattle.std.specs.Prelude.{All, Contains}
use Rattle.std.proofs.lemmas.List.Elements.{All-contains, Contains-get_or}
use Rattle.plane_geom.specs.declared.rect.Solid.{Solid}
use Rattle.walk_model.specs.declared.task.Choice.{Choice}
use Rattle.walk_model.specs.declared.task.Task.{Task}
use Rattle.walk_model.specs.Choice.{stub_length}
use Rattle.walk_model.specs.Walk.{Walk, MeetsAt, point_at}
use Rattle.walk_model.specs.Legal.{IsFree}
use Rattle.walk_model.specs.Order.{Triple, IsLegalTriple, IsFirst, HasNoWalk, triple_cost, pin_cost}
use Rattle.std.specs.Prelude.{unwrap_or}
use Rattle.std.specs.Option.{option_map}
use Rattle.std.proofs.lemmas.List.{take_all}
use Rattle.plane_geom.specs.declared.rect.Rect.{Rect}
use Rattle.walk_model.specs.Walk.{after, end_of, step_at}
use Rattle.walk_model.proofs.Checkpoints.Passing.{passes_earlier}
use Rattle.walk_model.proofs.Ranking.First.{before_cost}
use Rattle.route_book.proofs.Staying.Stays.{IsReachedBy, MeetsNone, StandsOr, StaysFirst}
use Rattle.route_book.proofs.Staying.Along.{way_by, step_within}

-- all the steps lead to the end
whole : (w : Walk) → point_at w (length w.steps) ≡ end_of w
whole w = ap (after w.start) (take_all (length w.steps) w.steps (omega arith))

all_from : {X : Type 0} (P : X → Type 0) (xs : List X) → ((x : X) → Contains xs x → P x) → All P xs
all_from P xs f k d h = f _ (Contains-get_or xs k d h)

-- steps that are free of the solids of one list are free of those of another, each of which is in the first or is not met
free_again : (solids others : List Solid) (may : Option ℤ) (w : Walk) (from to : ℕ) → to ≤ length w.steps → IsFree solids may w from to
    → StandsOr (λ s. MeetsNone s.rect w) others solids → IsFree others may w from to
free_again solids others may w from to fits free stands k low high =
    all_from (λ s. Some s.node ≢ may → MeetsAt s.rect w k → ⊥) others (λ s there.
    elim (stands s there) as (λ _. Some s.node ≢ may → MeetsAt s.rect w k → ⊥) [
      | inl here ↦ All-contains (λ s. Some s.node ≢ may → MeetsAt s.rect w k → ⊥) solids s (free k low high) here
      | inr not ↦ (λ _ meets. not k (let h : k < to = high in omega arith) meets)
    ])

-- so a legal walk is legal again
pub legal_again : (solids others : List Solid) (task : Task) (t : Triple) → IsLegalTriple solids task t
    → StandsOr (λ s. MeetsNone s.rect t.walk) others solids → IsLegalTriple others task t
legal_again solids others task t l stands =
    let e = l.legal in
    let room : stub_length l.start + stub_length l.end ≤ length t.walk.steps = e.stubs_fit in
    record {
      start = l.start;
      end = l.end;
      is_start = l.is_start;
      is_end = l.is_end;
      legal = record {
        leaves = e.leaves;
        arrives = e.arrives;
        stubs_fit = e.stubs_fit;
        start_stub = free_again solids others (Some l.start.node) t.walk 0 (stub_length l.start) (omega arith) e.start_stub stands;
        between = free_again solids others None t.walk (stub_length l.start) (length t.walk.steps - stub_length l.end) (omega arith) e.between stands;
        end_stub = free_again solids others (Some l.end.node) t.walk (length t.walk.steps - stub_length l.end) (length t.walk.steps) (omega arith) e.end_stub stands;
        checkpoints = e.checkpoints;
      };
    }

-- the cost of a legal walk is at least that of a way past a solid that it meets
pub reached : (solids : List Solid) (task : Task) (u : Triple) (s : Solid) (k : ℕ) → k < length u.walk.steps → IsLegalTriple solids task u → MeetsAt s.rect u.walk k → IsReachedBy task s.rect (triple_cost task u)
reached solids task u s k within l meets =
    let w : Walk = u.walk in
    let n : ℕ = length w.steps in
    let e = l.legal in
    let way = way_by w 0 (n - stub_length l.end) n k l.start.pin l.end.pin task.via e.leaves.pin (whole w ∙ e.arrives.pin) (omega arith) (omega arith) (let h : k < n = within in omega arith)
    (passes_earlier w 0 (stub_length l.start) (n - stub_length l.end) task.via (omega arith) e.checkpoints) in
    let bound : way.0 + 0 ≤ n = way.2 in
    let start : pin_cost task.starts u.start ≡ l.start.cost = ap (λ o. unwrap_or (option_map (λ (c : Choice). c.cost) o) 0) l.is_start in
    let end : pin_cost task.ends u.end ≡ l.end.cost = ap (λ o. unwrap_or (option_map (λ (c : Choice). c.cost) o) 0) l.is_end in
    record {
      start = l.start;
      end = l.end;
      i = u.start;
      j = u.end;
      is_start = l.is_start;
      is_end = l.is_end;
      by = point_at w k;
      within = step_within s.rect (point_at w k) (step_at w k) meets;
      way = way.0;
      is_way = way.1;
      reached = omega (arith, bound, start, end);
    }

less_reached : (task : Task) (r : Rect) (m n : ℕ) → m ≤ n → IsReachedBy task r m → IsReachedBy task r n
less_reached task r m n h x = record { start = x.start; end = x.end; i = x.i; j = x.j; is_start = x.is_start; is_end = x.is_end; by = x.by; within = x.within; way = x.way; is_way = x.is_way; reached = let b = x.reached in omega (arith, b) }

-- a walk that is legal now was legal before, unless it meets a removed solid
was_free : (old new : List Solid) (task : Task) (u : Triple) (cost : ℕ) → triple_cost task u ≤ cost → IsLegalTriple new task u
    → StandsOr (λ s. IsReachedBy task s.rect cost → ⊥) old new
    → (may : Option ℤ) (from to : ℕ) → to ≤ length u.walk.steps → IsFree new may u.walk from to → IsFree old may u.walk from to
was_free old new task u cost cheap l removed may from to fits free k low high =
    all_from (λ s. Some s.node ≢ may → MeetsAt s.rect u.walk k → ⊥) old (λ s there.
    elim (removed s there) as (λ _. Some s.node ≢ may → MeetsAt s.rect u.walk k → ⊥) [
      | inl here ↦ All-contains (λ s. Some s.node ≢ may → MeetsAt s.rect u.walk k → ⊥) new s (free k low high) here
      | inr not ↦ (λ _ meets. not (less_reached task s.rect (triple_cost task u) cost cheap
          (reached new task u s k (let h : k < to = high in omega arith) l meets)))
    ])

was_legal : (old new : List Solid) (task : Task) (u : Triple) (cost : ℕ) → triple_cost task u ≤ cost → IsLegalTriple new task u
    → StandsOr (λ s. IsReachedBy task s.rect cost → ⊥) old new → IsLegalTriple old task u
was_legal old new task u cost cheap l removed =
    let e = l.legal in
    let room : stub_length l.start + stub_length l.end ≤ length u.walk.steps = e.stubs_fit in
    record {
      start = l.start;
      end = l.end;
      is_start = l.is_start;
      is_end = l.is_end;
      legal = record {
        leaves = e.leaves;
        arrives = e.arrives;
        stubs_fit = e.stubs_fit;
        start_stub = was_free old new task u cost cheap l removed (Some l.start.node) 0 (stub_length l.start) (omega arith) e.start_stub;
        between = was_free old new task u cost cheap l removed None (stub_length l.start) (length u.walk.steps - stub_length l.end) (omega arith) e.between;
        end_stub = was_free old new task u cost cheap l removed (Some l.end.node) (length u.walk.steps - stub_length l.end) (length u.walk.steps) (omega arith) e.end_stub;
        checkpoints = e.checkpoints;
      };
    }

-- the law of reuse
pub stays_first : (old new : List Solid) (task : Task) (t : Triple) → IsFirst old task t → StaysFirst old new task t → IsFirst new task t
stays_first old new task t first stays = record {
  legal = legal_again old new task t first.legal stays.added;
  first = λ u legal before. first.first u (was_legal old new task u (triple_cost task t) (before_cost task u t before) legal stays.removed) before;
}

-- where no walk was legal and no solid is removed, none is legal now
pub stays_none : (old new : List Solid) (task : Task) → HasNoWalk old task → ((s : Solid) → Contains old s → Contains new s) → HasNoWalk new task
stays_none old new task none kept u legal = none u (legal_again new old task u legal (λ s there. inl (kept s there)))
