-- A line has one verdict at most.
use Rattle.std.proofs.Common.{◌≡◌, ℕ, zero, suc, ◌+◌, ◌-◌, ◌<◌, ◌≤◌, ℤ, List, [], ◌∷◌, length, take, Ok, Err, Some, None, refl, sym, ap, ◌∙◌, subst, zero-add, suc-add, inl, inr, arith, Contains, slice_get, get_or}
use Rattle.std.proofs.lemmas.Bool.{cases_order, cases_lt}
use Rattle.std.proofs.lemmas.List.{length-append, take-take}
use Rattle.std.proofs.lemmas.Option.{same_Some}
use Rattle.std.proofs.lemmas.List.Elements.{All-contains, Contains-get_or}
use Rattle.plane_geom.specs.declared.point.Point.{Point}
use Rattle.plane_geom.specs.declared.rect.Solid.{Solid}
use Rattle.walk_model.specs.declared.task.Choice.{Choice}
use Rattle.walk_model.specs.declared.task.Task.{Task}
use Rattle.walk_model.specs.Walk.{Walk, MeetsAt}
use Rattle.walk_model.specs.Line.{AreStraight, Draws, IsStraightLine, steps_of, steps_through}
use Rattle.walk_model.specs.Choice.{stub_length}
use Rattle.walk_model.specs.Legal.{Leaves, Arrives, Passes, IsLegal, IsTask}
use Rattle.route_check.specs.declared.verdict.Breach.{Breach}
use Rattle.route_check.specs.declared.verdict.Breach.TheVariants.{Slanted, StartOff, EndOff, Hits as HitsAt, MissesVia}
use Rattle.route_check.specs.Verdict.{FirstSlanted, StepHits, HitsNone, IsEndOff, HasOneVerdict, IsBreach, IsFirstHit, IsFirstSlanted, IsLegalLine, IsMissed, IsOnSegment, Joins, MayMeet, at_start, at_end}
use Rattle.route_check.proofs.Collisions.Places.{contains_at}
use Rattle.route_check.proofs.OneVerdict.Stubs.{SameStub, one_start, one_end}

-- ---- what a line draws

pub draws_same : (points : List Point) (w v : Walk) → Draws points w → Draws points v → w ≡ v
draws_same [] w v d e = absurd d
draws_same (p ∷ qs) w v d e = d.1 ∙ sym e.1

pub draws_straight : (points : List Point) (w : Walk) → Draws points w → IsStraightLine points
draws_straight [] w d = absurd d
draws_straight (p ∷ qs) w d = d.0

-- ---- the first slanted segment

not_straight : (p : Point) (qs : List Point) (k : ℕ) → FirstSlanted p qs k → AreStraight p qs → ⊥
not_straight p [] k f a = f
not_straight p (q ∷ qs) zero f a = f
not_straight p (q ∷ qs) (suc zero) f a = f a.0
not_straight p (q ∷ qs) (suc (suc k)) f a = not_straight q qs (suc k) f.1 a.1

not_straight_line : (points : List Point) (k : ℕ) → IsFirstSlanted points k → IsStraightLine points → ⊥
not_straight_line [] k f s = f
not_straight_line (p ∷ qs) k f s = not_straight p qs k f s

one_slanted : (p : Point) (qs : List Point) (k l : ℕ) → FirstSlanted p qs k → FirstSlanted p qs l → k ≡ l
one_slanted p [] k l f g = absurd f
one_slanted p (q ∷ qs) zero l f g = absurd f
one_slanted p (q ∷ qs) (suc k) zero f g = absurd g
one_slanted p (q ∷ qs) (suc zero) (suc zero) f g = refl
one_slanted p (q ∷ qs) (suc zero) (suc (suc l)) f g = absurd (f g.0)
one_slanted p (q ∷ qs) (suc (suc k)) (suc zero) f g = absurd (g f.0)
one_slanted p (q ∷ qs) (suc (suc k)) (suc (suc l)) f g = ap suc (one_slanted q qs (suc k) (suc l) f.1 g.1)

one_slanted_line : (points : List Point) (k l : ℕ) → IsFirstSlanted points k → IsFirstSlanted points l → k ≡ l
one_slanted_line [] k l f g = absurd f
one_slanted_line (p ∷ qs) k l f g = one_slanted p qs k l f g

-- ---- the segment of a step

more_steps : (p : Point) (qs : List Point) (m n : ℕ) → m ≤ n → length (steps_through p (take m qs)) ≤ length (steps_through p (take n qs))
more_steps p qs zero n h = omega arith
more_steps p [] (suc m) n h = omega arith
more_steps p (q ∷ qs) (suc m) zero h = absurd (omega arith)
more_steps p (q ∷ qs) (suc m) (suc n) h = let further = more_steps q qs m n (omega arith) in simp length-append (omega arith)

more_steps_of : (points : List Point) (m n : ℕ) → m ≤ n → length (steps_of (take m points)) ≤ length (steps_of (take n points))
more_steps_of points zero n h = omega arith
more_steps_of [] (suc m) n h = omega arith
more_steps_of (p ∷ qs) (suc m) zero h = absurd (omega arith)
more_steps_of (p ∷ qs) (suc m) (suc n) h = more_steps p qs m n (omega arith)

-- a step is on one segment
one_segment : (points : List Point) (k m n : ℕ) → IsOnSegment points k m → IsOnSegment points k n → m ≡ n
one_segment points k m n a b =
    elim (cases_order m n) as (λ _. m ≡ n) [
      | inl same ↦ same
      | inr order ↦ elim order as (λ _. m ≡ n) [
        | inl below ↦ absurd (omega (arith, more_steps_of points (m + 1) n (omega arith), a.1, b.0))
        | inr above ↦ absurd (omega (arith, more_steps_of points (n + 1) m (omega arith), a.0, b.1))
      ]
    ]

-- ---- a walk that passes checkpoints passes the first of them

Passes-take : (w : Walk) (from to : ℕ) (via : List Point) (n : ℕ) → Passes w from to via → Passes w from to (take n via)
Passes-take w from to via zero p = tt
Passes-take w from to [] (suc n) p = tt
Passes-take w from to (c ∷ cs) (suc n) p = (p.0, p.1, p.2, p.3, Passes-take w p.0 to cs n p.4)

-- ---- what may be met

may_meet_same : (s t : Choice) (w : Walk) (e f : Choice) (k : ℕ) (node : ℤ) → SameStub s t → SameStub e f → MayMeet s w e k node → MayMeet t w f k node
may_meet_same s t w e f k node p q (at_start h is) = at_start (rw (← p.length) h) (is ∙ p.node)
may_meet_same s t w e f k node p q (at_end h is) = at_end (rw (← q.length) h) (is ∙ q.node)

turned : (c d : Choice) → SameStub c d → SameStub d c
turned c d s = record { length = sym s.length; node = sym s.node }

-- ---- how far a line goes without a breach

-- the line leads from stub to stub, and no step meets a solid that it may not meet
pub record IsClear (solids : List Solid) (task : Task) (points : List Point) : Type 0 where
  pub walk : Walk
  pub start : Choice
  pub end : Choice
  pub joins : Joins task points start walk end
  pub free : HitsNone solids start walk end

legal_joins : (solids : List Solid) (task : Task) (points : List Point) → (l : IsLegalLine solids task points) → Joins task points l.start l.walk l.end
legal_joins solids task points l = record { draws = l.draws; is_start = l.is_start; is_end = l.is_end; leaves = l.legal.leaves; arrives = l.legal.arrives; stubs_fit = l.legal.stubs_fit }

-- where a solid of another node is not met, one that may not be met is not
module _ (solids : List Solid) (via : List Point) (s : Choice) (w : Walk) (e : Choice) (l : IsLegal solids via s w e) where
  legal_free : HitsNone solids s w e
  legal_free k within o in' hits =
      elim (cases_lt k (stub_length s)) as (λ _. ⊥) [
        | inl on_start ↦ All-contains (λ (x : Solid). (Some x.node ≡ Some s.node → ⊥) → MeetsAt x.rect w k → ⊥) solids o
            (l.start_stub k (omega arith) on_start) in' (λ same. hits.1 (at_start on_start (same_Some _ _ same))) hits.0
        | inr behind ↦ elim (cases_lt k (length w.steps - stub_length e)) as (λ _. ⊥) [
          | inl before ↦ All-contains (λ (x : Solid). (Some x.node ≡ None → ⊥) → MeetsAt x.rect w k → ⊥) solids o
              (l.between k behind before) in' (λ same. cc) hits.0
          | inr on_end ↦ All-contains (λ (x : Solid). (Some x.node ≡ Some e.node → ⊥) → MeetsAt x.rect w k → ⊥) solids o
              (l.end_stub k on_end within) in' (λ same. hits.1 (at_end on_end (same_Some _ _ same))) hits.0
        ]
      ]

legal_clear : (solids : List Solid) (task : Task) (points : List Point) → IsLegalLine solids task points → IsClear solids task points
legal_clear solids task points l = record {
  walk = l.walk;
  start = l.start;
  end = l.end;
  joins = legal_joins solids task points l;
  free = legal_free solids task.via l.start l.walk l.end l.legal;
}

-- a line without a breach is legal
module _ (solids : List Solid) (task : Task) (points : List Point) (c : IsClear solids task points) where
  pub clear_legal : Passes c.walk (stub_length c.start) (length c.walk.steps - stub_length c.end) task.via → IsLegal solids task.via c.start c.walk c.end
  clear_legal passes =
      let j = c.joins in
      record {
        leaves = j.leaves;
        arrives = j.arrives;
        stubs_fit = j.stubs_fit;
        checkpoints = passes;
        start_stub = λ k _ below i d h other meets. c.free k (omega (arith, j.stubs_fit)) (get_or solids i d) (Contains-get_or solids i d h)
            (meets, λ may. elim may as (λ _. ⊥) [ at_start _ is ↦ other (ap Some is) | at_end above is ↦ absurd (omega (arith, j.stubs_fit)) ]);
        between = λ k above below i d h _ meets. c.free k (omega (arith, j.stubs_fit)) (get_or solids i d) (Contains-get_or solids i d h)
            (meets, λ may. elim may as (λ _. ⊥) [ at_start on is ↦ absurd (omega arith) | at_end on is ↦ absurd (omega arith) ]);
        end_stub = λ k above below i d h other meets. c.free k below (get_or solids i d) (Contains-get_or solids i d h)
            (meets, λ may. elim may as (λ _. ⊥) [ at_start on is ↦ absurd (omega (arith, j.stubs_fit)) | at_end _ is ↦ other (ap Some is) ]);
      }

-- ---- no two verdicts hold of one line

same_number : (m n : ℕ) → (m < n → ⊥) → (n < m → ⊥) → m ≡ n
same_number m n f g = omega arith

module _ (solids : List Solid) (task : Task) (is : IsTask task) (points : List Point) where
  -- two walks from stub to stub are one, and their stubs are too
  one_walk : (s t : Choice) (w v : Walk) (e f : Choice) → Joins task points s w e → Joins task points t v f → (w ≡ v) × SameStub s t × SameStub e f
  one_walk s t w v e f j i =
      let walk : w ≡ v = draws_same points w v j.draws i.draws in (
        walk,
        one_start task.starts is.starts s t j.is_start i.is_start v (subst (λ (u : Walk). Leaves u s) walk j.leaves) i.leaves,
        one_end task.ends is.ends e f j.is_end i.is_end v (subst (λ (u : Walk). Arrives u e) walk j.arrives) i.arrives,
      )

  hits_same : (s t : Choice) (w v : Walk) (e f : Choice) → Joins task points s w e → Joins task points t v f → (k : ℕ) (o : Solid) → StepHits s w e k o → StepHits t v f k o
  hits_same s t w v e f j i k o hits =
      let one = one_walk s t w v e f j i in
      subst (λ (u : Walk). StepHits t u f k o) one.0 (hits.0, λ may. hits.1 (may_meet_same t s w f e k o.node (turned s t one.1) (turned e f one.2) may))

  -- a line that goes from stub to stub ends with a stub
  not_off : IsEndOff task points → (s : Choice) (w : Walk) (e : Choice) → Joins task points s w e → ⊥
  not_off o s w e j =
      let walk : w ≡ o.walk = draws_same points w o.walk j.draws o.draws in
      let start = one_start task.starts is.starts s o.start j.is_start o.is_start o.walk (subst (λ (u : Walk). Leaves u s) walk j.leaves) o.leaves in
      o.none e j.is_end (subst (λ (u : Walk). Arrives u e) walk j.arrives) (omega (arith, ap (λ (u : Walk). length u.steps) walk, start.length, j.stubs_fit))

  -- the walk of a line that goes from stub to stub has the same steps in each account of it
  same_steps : (s t : Choice) (w v : Walk) (e f : Choice) → Joins task points s w e → Joins task points t v f → length w.steps ≡ length v.steps
  same_steps s t w v e f j i = ap (λ (u : Walk). length u.steps) (one_walk s t w v e f j i).0

  -- a line without a hit has no first one
  not_hit : (k : ℕ) (node : ℤ) → IsFirstHit solids task points k node → IsClear solids task points → ⊥
  not_hit k node h c =
      let f = h.first in
      c.free f.step (omega (arith, same_steps h.start c.start h.walk c.walk h.end c.end h.joins c.joins, f.within)) f.solid
      (contains_at solids f.place f.solid f.at_place) (hits_same h.start c.start h.walk c.walk h.end c.end h.joins c.joins f.step f.solid f.hits)

  module _ (k l : ℕ) (n m : ℤ) (a : IsFirstHit solids task points k n) (b : IsFirstHit solids task points l m) where
    hits_there : StepHits b.start b.walk b.end a.first.step a.first.solid
    hits_there = hits_same a.start b.start a.walk b.walk a.end b.end a.joins b.joins a.first.step a.first.solid a.first.hits

    not_earlier_step : a.first.step < b.first.step → ⊥
    not_earlier_step h =
        let f = a.first in
        b.first.first_step f.step h f.solid (contains_at solids f.place f.solid f.at_place) hits_there

    not_earlier_solid : a.first.step ≡ b.first.step → a.first.place < b.first.place → ⊥
    not_earlier_solid e h =
        let f = a.first in
        b.first.first_solid f.place h f.solid f.at_place (subst (λ (i : ℕ). StepHits b.start b.walk b.end i f.solid) e hits_there)

  one_hit : (k l : ℕ) (n m : ℤ) → IsFirstHit solids task points k n → IsFirstHit solids task points l m → HitsAt k n ≡ HitsAt l m
  one_hit k l n m a b =
      let f = a.first in let g = b.first in
      let step : f.step ≡ g.step = same_number _ _ (not_earlier_step k l n m a b) (not_earlier_step l k m n b a) in
      let place : f.place ≡ g.place = same_number _ _ (not_earlier_solid k l n m a b step) (not_earlier_solid l k m n b a (sym step)) in
      let solid : f.solid ≡ g.solid = same_Some _ _ (sym f.at_place ∙ ap (slice_get solids) place ∙ g.at_place) in
      let segment : k ≡ l = one_segment points g.step k l (subst (λ (i : ℕ). IsOnSegment points i k) step f.on_segment) g.on_segment in
      let node : n ≡ m = f.of_node ∙ ap (λ (o : Solid). o.node) solid ∙ sym g.of_node in
      cc

  passes_same : (s t : Choice) (w v : Walk) (e f : Choice) → Joins task points s w e → Joins task points t v f → (via : List Point)
      → Passes w (stub_length s) (length w.steps - stub_length e) via → Passes v (stub_length t) (length v.steps - stub_length f) via
  passes_same s t w v e f j i via p =
      let one = one_walk s t w v e f j i in
      let from : Passes w (stub_length t) (length w.steps - stub_length e) via = subst (λ (n : ℕ). Passes w n (length w.steps - stub_length e) via) one.1.length p in
      let to : Passes w (stub_length t) (length w.steps - stub_length f) via = subst (λ (n : ℕ). Passes w (stub_length t) (length w.steps - n) via) one.2.length from in
      subst (λ (u : Walk). Passes u (stub_length t) (length u.steps - stub_length f) via) one.0 to

  -- of two missed checkpoints neither stands before the other
  module _ (k l : ℕ) (a : IsMissed solids task points k) (b : IsMissed solids task points l) where
    not_earlier_place : k < l → ⊥
    not_earlier_place h =
        let via = task.via in
        let fewer : take k (take (l - 1) via) ≡ take k via = take-take k (l - 1) via (omega arith) in
        a.missed (passes_same b.start a.start b.walk a.walk b.end a.end b.joins a.joins (take k via)
        (rw fewer at (Passes-take _ _ _ (take (l - 1) via) k b.passed)))

  one_missed : (k l : ℕ) → IsMissed solids task points k → IsMissed solids task points l → k ≡ l
  one_missed k l a b = same_number k l (not_earlier_place k l a b) (not_earlier_place l k b a)

  not_missed : (k : ℕ) → IsMissed solids task points k → IsLegalLine solids task points → ⊥
  not_missed k m l =
      m.missed (Passes-take _ _ _ task.via k
      (passes_same l.start m.start l.walk m.walk l.end m.end (legal_joins solids task points l) m.joins task.via l.legal.checkpoints))

-- the rules in the order in which they are tried, and the one that a breach breaks
abbrev rule : Breach → ℕ
rule (Slanted _) = 0
rule StartOff = 1
rule EndOff = 2
rule (HitsAt _ _) = 3
rule (MissesVia _) = 4

few_rules : (b : Breach) → rule b < 5
few_rules (Slanted _) = omega arith
few_rules StartOff = omega arith
few_rules EndOff = omega arith
few_rules (HitsAt _ _) = omega arith
few_rules (MissesVia _) = omega arith

-- the line begins with the stub of a start choice
record Begins (task : Task) (points : List Point) : Type 0 where
  walk : Walk
  start : Choice
  draws : Draws points walk
  is_start : Contains task.starts start
  leaves : Leaves walk start

-- what a line does that keeps the first rules
abbrev Keeps : List Solid → Task → List Point → ℕ → Type 0
Keeps solids task points zero = Unit {0}
Keeps solids task points (suc zero) = IsStraightLine points
Keeps solids task points (suc (suc zero)) = Begins task points
Keeps solids task points (suc (suc (suc zero))) = (s : Choice) × (w : Walk) × (e : Choice) × Joins task points s w e
Keeps solids task points (suc (suc (suc (suc zero)))) = IsClear solids task points
Keeps solids task points (suc (suc (suc (suc (suc _))))) = IsLegalLine solids task points

module _ (solids : List Solid) (task : Task) (points : List Point) where
  fewer_rules : (n : ℕ) → Keeps solids task points (suc n) → Keeps solids task points n
  fewer_rules zero k = tt
  fewer_rules (suc zero) k = draws_straight points k.walk k.draws
  fewer_rules (suc (suc zero)) (s, w, e, j) = record { walk = w; start = s; draws = j.draws; is_start = j.is_start; leaves = j.leaves }
  fewer_rules (suc (suc (suc zero))) k = (k.start, k.walk, k.end, k.joins)
  fewer_rules (suc (suc (suc (suc zero)))) k = legal_clear solids task points k
  fewer_rules (suc (suc (suc (suc (suc _))))) k = k

  first_rules : (m n : ℕ) → Keeps solids task points (m + n) → Keeps solids task points n
  first_rules zero n k = rw zero-add at k
  first_rules (suc m) n k = first_rules m n (fewer_rules (m + n) (rw suc-add at k))

  -- a breach is of the first rule that is not kept
  kept_before : (b : Breach) → IsBreach solids task points b → Keeps solids task points (rule b)
  kept_before (Slanted k) f = tt
  kept_before StartOff f = f.straight
  kept_before EndOff f = record { walk = f.walk; start = f.start; draws = f.draws; is_start = f.is_start; leaves = f.leaves }
  kept_before (HitsAt k n) f = (f.start, f.walk, f.end, f.joins)
  kept_before (MissesVia k) f = record { walk = f.walk; start = f.start; end = f.end; joins = f.joins; free = f.free }

  not_kept : IsTask task → (b : Breach) → IsBreach solids task points b → Keeps solids task points (suc (rule b)) → ⊥
  not_kept is (Slanted k) f g = not_straight_line points k f g
  not_kept is StartOff f g = f.none g.walk g.draws g.start g.is_start g.leaves
  not_kept is EndOff f (s, w, e, j) = not_off solids task is points f s w e j
  not_kept is (HitsAt k n) f g = not_hit solids task is points k n f g
  not_kept is (MissesVia k) f g = not_missed solids task is points k f g

  keeps_no_more : IsTask task → (b : Breach) (n : ℕ) → rule b < n → IsBreach solids task points b → Keeps solids task points n → ⊥
  keeps_no_more is b n h f k =
      let m = n - suc (rule b) in
      let on : n ≡ m + suc (rule b) = omega arith in
      not_kept is b f (first_rules m (suc (rule b)) (subst (Keeps solids task points) on k))

  one_of_rule : IsTask task → (a b : Breach) → rule a ≡ rule b → IsBreach solids task points a → IsBreach solids task points b → a ≡ b
  one_of_rule is (Slanted k) (Slanted l) e f g = ap Slanted (one_slanted_line points k l f g)
  one_of_rule is StartOff StartOff e f g = refl
  one_of_rule is EndOff EndOff e f g = refl
  one_of_rule is (HitsAt k n) (HitsAt l m) e f g = one_hit solids task is points k l n m f g
  one_of_rule is (MissesVia k) (MissesVia l) e f g = ap MissesVia (one_missed solids task is points k l f g)
  one_of_rule is _ _ e f g = absurd (omega arith)

  -- a line has one breach at most
  pub one_breach : IsTask task → (a b : Breach) → IsBreach solids task points a → IsBreach solids task points b → a ≡ b
  one_breach is a b f g =
      one_of_rule is a b (same_number _ _
      (λ h. keeps_no_more is a (rule b) h f (kept_before b g))
      (λ h. keeps_no_more is b (rule a) h g (kept_before a f))) f g

  -- a legal line has none
  pub legal_without : IsTask task → IsLegalLine solids task points → (b : Breach) → IsBreach solids task points b → ⊥
  legal_without is l b f = keeps_no_more is b 5 (few_rules b) f l

-- a line has one verdict at most
pub one_verdict : (solids : List Solid) (task : Task) (points : List Point) → IsTask task → HasOneVerdict solids task points
one_verdict solids task points is (Ok m) (Ok n) v u = ap Ok (same_number m n (λ h. omega (arith, u.least v.line, v.reached)) (λ h. omega (arith, v.least u.line, u.reached)))
one_verdict solids task points is (Ok m) (Err b) v u = absurd (u.0 v.line)
one_verdict solids task points is (Err a) (Ok n) v u = absurd (v.0 u.line)
one_verdict solids task points is (Err a) (Err b) v u = ap Err (one_breach solids task points is a b v.1 u.1)
