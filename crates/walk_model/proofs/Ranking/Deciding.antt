-- A test that computes decides whether a walk is legal.
use Rattle.std.proofs.Common.{◌≡◌, ◌≢◌, Bool, true, false, not, ◌&&◌, ◌||◌, ℕ, suc, zero, ◌+◌, ◌-◌, ◌<◌, ◌≤◌, leb, ℤ, pos, ◌+ℤ◌, ◌-ℤ◌, ◌≤ℤ◌, ◌<ℤ◌, List, [], ◌∷◌, length, take, drop, replicate, Option, Some, None, refl, sym, ap, subst, ◌∙◌, inl, inr, arith}
use lib.Signed.{lt_z, le_z}
use Rattle.std.proofs.lemmas.Int.{ints, by_lt_z}
use Rattle.std.proofs.lemmas.Bool.{cases_lt}
use Rattle.std.proofs.lemmas.Bool.Decides.{nat_tests}
use Rattle.std.proofs.lemmas.List.Elements.{recursion_from_All, All-from_recursion}
use Rattle.std.specs.List.{AllByRecursion}
use Rattle.plane_geom.specs.declared.point.Point.{Point}
use Rattle.plane_geom.specs.declared.point.Dir.{Dir}
use Rattle.plane_geom.specs.declared.point.Dir.TheVariants.{East, South, West, North}
use Rattle.plane_geom.specs.declared.rect.Rect.{Rect}
use Rattle.plane_geom.specs.declared.rect.Solid.{Solid}
use Rattle.plane_geom.specs.Point.{opposite}
use Rattle.plane_geom.specs.Rect.{StepMeets}
use Rattle.walk_model.specs.declared.task.Choice.{Choice}
use Rattle.walk_model.specs.Walk.{Walk, MeetsAt, point_at, step_at, end_of}
use Rattle.walk_model.specs.Choice.{stub_length}
use Rattle.walk_model.specs.Legal.{Leaves, Arrives, IsFree, Passes, IsLegal}
use Rattle.walk_model.specs.Order.{rank}
use Rattle.plane_geom.proofs.Headings.{same_point}

-- the test answers whether the fact holds
pub data Reflects (test : Bool) (P : Type 0) : Type 0 where
  yes : test ≡ true → P → Reflects test P
  no : test ≡ false → (P → ⊥) → Reflects test P

pub decided : {P : Type 0} {test : Bool} → Reflects test P → Dec P
decided (yes e p) = Dec.yes p
decided (no e n) = Dec.no n

-- what a test that answers yes shows, and what one that answers no refutes
pub shown : {P : Type 0} (test : Bool) → Reflects test P → test ≡ true → P
shown test (yes e p) t = p
shown test (no e n) t = absurd (let wrong : true ≡ false = sym t ∙ e in cc)

pub refuted : {P : Type 0} (test : Bool) → Reflects test P → test ≡ false → P → ⊥
refuted test (yes e p) t h = let wrong : true ≡ false = sym e ∙ t in cc
refuted test (no e n) t h = n h

pub reflects_as : {P Q : Type 0} {test : Bool} → (P → Q) → (Q → P) → Reflects test P → Reflects test Q
reflects_as f g (yes e p) = yes e (f p)
reflects_as f g (no e n) = no e (λ q. n (g q))

pub both : {P Q : Type 0} {a b : Bool} → Reflects a P → Reflects b Q → Reflects (a && b) (P × Q)
both (yes e p) (yes f q) = yes (rw (e, f) refl) (p, q)
both (yes e p) (no f n) = no (rw (e, f) refl) (λ h. n h.1)
both (no e n) q = no (rw e refl) (λ h. n h.0)

implied : {P Q : Type 0} {a b : Bool} → Reflects a P → Reflects b Q → Reflects (not a || b) (P → Q)
implied (yes e p) (yes f q) = yes (rw (e, f) refl) (λ _. q)
implied (yes e p) (no f n) = no (rw (e, f) refl) (λ g. n (g p))
implied (no e n) q = yes (rw e refl) (λ p. absurd (n p))

denied : {P : Type 0} {a : Bool} → Reflects a P → Reflects (not a) (P → ⊥)
denied (yes e p) = no (rw e refl) (λ n. n p)
denied (no e n) = yes (rw e refl) n

-- the test of all numbers below a bound
abbrev pub all_below : ℕ → (ℕ → Bool) → Bool
all_below zero test = true
all_below (suc n) test = all_below n test && test n

all_below_reflects : (n : ℕ) (test : ℕ → Bool) (P : ℕ → Type 0) → ((k : ℕ) → Reflects (test k) (P k)) → Reflects (all_below n test) ((k : ℕ) → k < n → P k)
all_below_reflects zero test P each = yes refl (λ k h. absurd (omega arith))
all_below_reflects (suc n) test P each = reflects_as
    (λ h k l. elim (cases_lt k n) as (λ _. P k) [ inl m ↦ h.0 k m | inr m ↦ subst P (let e : n ≡ k = omega arith in e) h.1 ])
    (λ f. (λ k l. f k (omega arith), f n (omega arith)))
    (both (all_below_reflects n test P each) (each n))

-- the test of some number below a bound
abbrev pub some_below : ℕ → (ℕ → Bool) → Bool
some_below zero test = false
some_below (suc n) test = some_below n test || test n

some_below_reflects : (n : ℕ) (test : ℕ → Bool) (P : ℕ → Type 0) → ((k : ℕ) → Reflects (test k) (P k)) → Reflects (some_below n test) ((k : ℕ) × (k < n) × P k)
some_below_reflects zero test P each = no refl (λ h. let l : h.0 < zero = h.1 in omega arith)
some_below_reflects (suc n) test P each = one_of (some_below_reflects n test P each) (each n)
  where
    one_of : Reflects (some_below n test) ((k : ℕ) × (k < n) × P k) → Reflects (test n) (P n) → Reflects (some_below n test || test n) ((k : ℕ) × (k < suc n) × P k)
    one_of (yes e h) last = yes (rw e refl) (h.0, let l : h.0 < n = h.1 in omega arith, h.2)
    one_of (no e none) (yes f p) = yes (rw (e, f) refl) (n, omega arith, p)
    one_of (no e none) (no f not) = no (rw (e, f) refl) (λ h. elim (cases_lt h.0 n) as (λ _. ⊥)
        [ inl l ↦ none (h.0, l, h.2) | inr l ↦ not (subst P (let k : h.0 < suc n = h.1 in let e : h.0 ≡ n = omega arith in e) h.2) ])

nat_le_reflects : (m n : ℕ) → Reflects (leb m n) (m ≤ n)
nat_le_reflects m n = elim (cases_lt n m) as (λ _. Reflects (leb m n) (m ≤ n)) [ inl l ↦ no (grind (arith, nat_tests)) (λ h. omega arith) | inr l ↦ yes (grind (arith, nat_tests)) l ]

lt_reflects : (a b : ℤ) → Reflects (lt_z a b) (a <ℤ b)
lt_reflects a b = by_lt_z a b (λ l. yes (grind (arith, ints)) l) (λ l. no (grind (arith, ints)) (λ h. omega (arith, ints)))

le_reflects : (a b : ℤ) → Reflects (le_z a b) (a ≤ℤ b)
le_reflects a b = by_lt_z b a (λ l. no (grind (arith, ints)) (λ h. omega (arith, ints))) (λ l. yes (grind (arith, ints)) l)

abbrev pub int_same : ℤ → ℤ → Bool
int_same a b = le_z a b && le_z b a

int_reflects : (a b : ℤ) → Reflects (int_same a b) (a ≡ b)
int_reflects a b = reflects_as (λ h. let l : a ≤ℤ b = h.0 in let k : b ≤ℤ a = h.1 in omega (arith, ints)) (λ e. (omega (arith, ints), omega (arith, ints))) (both (le_reflects a b) (le_reflects b a))

abbrev pub point_same : Point → Point → Bool
point_same p q = int_same p.x q.x && int_same p.y q.y

point_reflects : (p q : Point) → Reflects (point_same p q) (p ≡ q)
point_reflects p q = reflects_as (λ h. same_point p q h.0 h.1) (λ e. (ap (λ (r : Point). r.x) e, ap (λ (r : Point). r.y) e)) (both (int_reflects p.x q.x) (int_reflects p.y q.y))

-- the direction at a place of the order
abbrev pub unrank : ℕ → Dir
unrank zero = East
unrank (suc zero) = South
unrank (suc (suc zero)) = West
unrank (suc (suc (suc n))) = North

pub unrank-rank : (d : Dir) → unrank (rank d) ≡ d
unrank-rank East = refl
unrank-rank South = refl
unrank-rank West = refl
unrank-rank North = refl

pub rank_below : (d : Dir) → rank d < 4
rank_below East = omega arith
rank_below South = omega arith
rank_below West = omega arith
rank_below North = omega arith

-- directions at one place are one
pub same_rank : (d e : Dir) → rank d ≡ rank e → d ≡ e
same_rank d e h = sym (unrank-rank d) ∙ ap unrank h ∙ unrank-rank e

abbrev pub dir_same : Dir → Dir → Bool
dir_same d e = leb (rank d) (rank e) && leb (rank e) (rank d)

dir_reflects : (d e : Dir) → Reflects (dir_same d e) (d ≡ e)
dir_reflects d e = reflects_as (λ h. let l : rank d ≤ rank e = h.0 in let k : rank e ≤ rank d = h.1 in same_rank d e (omega arith))
    (λ e. let same = ap rank e in (omega arith, omega arith)) (both (nat_le_reflects (rank d) (rank e)) (nat_le_reflects (rank e) (rank d)))

abbrev pub steps_same : List Dir → List Dir → Bool
steps_same [] [] = true
steps_same [] (y ∷ ys) = false
steps_same (x ∷ xs) [] = false
steps_same (x ∷ xs) (y ∷ ys) = dir_same x y && steps_same xs ys

steps_reflects : (xs ys : List Dir) → Reflects (steps_same xs ys) (xs ≡ ys)
steps_reflects [] [] = yes refl refl
steps_reflects [] (y ∷ ys) = no refl (λ e. cc)
steps_reflects (x ∷ xs) [] = no refl (λ e. cc)
steps_reflects (x ∷ xs) (y ∷ ys) = reflects_as (λ h. let e : x ≡ y = h.0 in let f : xs ≡ ys = h.1 in cc) (λ e. (cc, cc)) (both (dir_reflects x y) (steps_reflects xs ys))

abbrev pub node_same : ℤ → Option ℤ → Bool
node_same n None = false
node_same n (Some m) = int_same n m

node_reflects : (n : ℤ) (may : Option ℤ) → Reflects (node_same n may) (Some n ≡ may)
node_reflects n None = no refl (λ e. cc)
node_reflects n (Some m) = reflects_as (λ e. ap Some e) (λ e. cc) (int_reflects n m)

-- the test of a unit step and a rectangle
abbrev pub step_meets : Rect → Point → Dir → Bool
step_meets r p East = (lt_z r.top p.y && lt_z p.y r.bottom) && (le_z r.left p.x && le_z (p.x +ℤ pos 1) r.right)
step_meets r p South = (lt_z r.left p.x && lt_z p.x r.right) && (le_z r.top p.y && le_z (p.y +ℤ pos 1) r.bottom)
step_meets r p West = (lt_z r.top p.y && lt_z p.y r.bottom) && (le_z r.left (p.x -ℤ pos 1) && le_z p.x r.right)
step_meets r p North = (lt_z r.left p.x && lt_z p.x r.right) && (le_z r.top (p.y -ℤ pos 1) && le_z p.y r.bottom)

four : {A B C D : Type 0} {a b c d : Bool} → Reflects a A → Reflects b B → Reflects c C → Reflects d D → Reflects ((a && b) && (c && d)) (A × B × C × D)
four a b c d = reflects_as (λ h. (h.0.0, h.0.1, h.1.0, h.1.1)) (λ h. ((h.0, h.1), (h.2, h.3))) (both (both a b) (both c d))

step_reflects : (r : Rect) (p : Point) (d : Dir) → Reflects (step_meets r p d) (StepMeets r p d)
step_reflects r p East = four (lt_reflects _ _) (lt_reflects _ _) (le_reflects _ _) (le_reflects _ _)
step_reflects r p South = four (lt_reflects _ _) (lt_reflects _ _) (le_reflects _ _) (le_reflects _ _)
step_reflects r p West = four (lt_reflects _ _) (lt_reflects _ _) (le_reflects _ _) (le_reflects _ _)
step_reflects r p North = four (lt_reflects _ _) (lt_reflects _ _) (le_reflects _ _) (le_reflects _ _)

abbrev pub all_pass : {A : Type 0} → (A → Bool) → List A → Bool
all_pass test [] = true
all_pass test (x ∷ xs) = test x && all_pass test xs

all_pass_reflects : {A : Type 0} (test : A → Bool) (P : A → Type 0) → ((x : A) → Reflects (test x) (P x)) → (xs : List A) → Reflects (all_pass test xs) (AllByRecursion P xs)
all_pass_reflects test P each [] = yes refl tt
all_pass_reflects test P each (x ∷ xs) = both (each x) (all_pass_reflects test P each xs)

-- the test that steps meet no solid
abbrev pub is_free : List Solid → Option ℤ → Walk → ℕ → ℕ → Bool
is_free solids may w from to =
    all_below to (λ k. not (leb from k) || all_pass (λ s. not (not (node_same s.node may)) || not (step_meets s.rect (point_at w k) (step_at w k))) solids)

free_reflects : (solids : List Solid) (may : Option ℤ) (w : Walk) (from to : ℕ) → Reflects (is_free solids may w from to) (IsFree solids may w from to)
free_reflects solids may w from to =
    let Free : ℕ → Solid → Type 0 = λ k s. Some s.node ≢ may → MeetsAt s.rect w k → ⊥ in
    let free : ℕ → Solid → Bool = λ k s. not (not (node_same s.node may)) || not (step_meets s.rect (point_at w k) (step_at w k)) in
    let each : (k : ℕ) (s : Solid) → Reflects (free k s) (Free k s) = λ k s. implied (denied (node_reflects s.node may)) (denied (step_reflects s.rect (point_at w k) (step_at w k))) in
    reflects_as (λ f k h l. All-from_recursion (Free k) solids (f k l h)) (λ f k l h. recursion_from_All (Free k) solids (f k h l))
    (all_below_reflects to (λ k. not (leb from k) || all_pass (free k) solids) (λ k. from ≤ k → AllByRecursion (Free k) solids)
    (λ k. implied (nat_le_reflects from k) (all_pass_reflects (free k) (Free k) (each k) solids)))

-- the test that checkpoints are passed in order
abbrev pub is_passed : Walk → ℕ → List Point → ℕ → Bool
is_passed w to [] from = true
is_passed w to (c ∷ cs) from = some_below (suc to) (λ i. (leb from i && point_same (point_at w i) c) && is_passed w to cs i)

passes_reflects : (w : Walk) (to : ℕ) (cs : List Point) (from : ℕ) → Reflects (is_passed w to cs from) (Passes w from to cs)
passes_reflects w to [] from = yes refl tt
passes_reflects w to (c ∷ cs) from =
    reflects_as (λ h. (h.0, h.2.0.0, let l : h.0 < suc to = h.1 in omega arith, h.2.0.1, h.2.1)) (λ h. (h.0, let l : h.0 ≤ to = h.2 in omega arith, ((h.1, h.3), h.4)))
    (some_below_reflects (suc to) (λ i. (leb from i && point_same (point_at w i) c) && is_passed w to cs i) (λ i. (from ≤ i × (point_at w i ≡ c)) × Passes w i to cs)
    (λ i. both (both (nat_le_reflects from i) (point_reflects (point_at w i) c)) (passes_reflects w to cs i)))

abbrev pub does_leave : Walk → Choice → Bool
does_leave w c = point_same w.start c.pin && steps_same (take (stub_length c) w.steps) (replicate (stub_length c) c.dir)

leaves_reflects : (w : Walk) (c : Choice) → Reflects (does_leave w c) (Leaves w c)
leaves_reflects w c = reflects_as (λ h. record { pin = h.0; stub = h.1 }) (λ h. (h.pin, h.stub))
    (both (point_reflects w.start c.pin) (steps_reflects (take (stub_length c) w.steps) (replicate (stub_length c) c.dir)))

abbrev pub does_arrive : Walk → Choice → Bool
does_arrive w c = point_same (end_of w) c.pin && steps_same (drop (length w.steps - stub_length c) w.steps) (replicate (stub_length c) (opposite c.dir))

arrives_reflects : (w : Walk) (c : Choice) → Reflects (does_arrive w c) (Arrives w c)
arrives_reflects w c = reflects_as (λ h. record { pin = h.0; stub = h.1 }) (λ h. (h.pin, h.stub))
    (both (point_reflects (end_of w) c.pin) (steps_reflects (drop (length w.steps - stub_length c) w.steps) (replicate (stub_length c) (opposite c.dir))))

-- the test of a legal walk
abbrev pub is_legal : List Solid → List Point → Choice → Walk → Choice → Bool
is_legal solids via s w e =
    let a = stub_length s in
    let n = length w.steps in
    let b = stub_length e in
    ((does_leave w s && does_arrive w e) && (leb (a + b) n && is_passed w (n - b) via a))
    && ((is_free solids (Some s.node) w 0 a && is_free solids None w a (n - b)) && is_free solids (Some e.node) w (n - b) n)

-- the test decides whether a walk is legal with two choices
pub legal_reflects : (solids : List Solid) (via : List Point) (s : Choice) (w : Walk) (e : Choice) → Reflects (is_legal solids via s w e) (IsLegal solids via s w e)
legal_reflects solids via s w e =
    let a = stub_length s in
    let n = length w.steps in
    let b = stub_length e in
    reflects_as
    (λ h. record { leaves = h.0.0.0; arrives = h.0.0.1; stubs_fit = h.0.1.0; checkpoints = h.0.1.1; start_stub = h.1.0.0; between = h.1.0.1; end_stub = h.1.1 })
    (λ h. (((h.leaves, h.arrives), (h.stubs_fit, h.checkpoints)), ((h.start_stub, h.between), h.end_stub)))
    (both
    (both (both (leaves_reflects w s) (arrives_reflects w e)) (both (nat_le_reflects (a + b) n) (passes_reflects w (n - b) via a)))
    (both (both (free_reflects solids (Some s.node) w 0 a) (free_reflects solids None w a (n - b))) (free_reflects solids (Some e.node) w (n - b) n)))
