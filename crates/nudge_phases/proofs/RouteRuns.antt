-- Single routes of a list whose edges rise.
use Rattle.std.proofs.Common.{◌≡◌, ◌⊎◌, ℕ, suc, zero, ◌+◌, ◌<◌, ◌≤◌, Some, List, [], ◌∷◌, ◌++◌, length, take, get_or, inl, inr, refl, sym, ap, subst, subst₂, ◌∙◌, arith}
use Rattle.std.specs.Prelude.{slice_get, All}
use Rattle.std.proofs.lemmas.Bool.{cases_lt}
use Rattle.std.proofs.lemmas.List.{get_or_default, length_push, take-append-le, take_all, take_more}
use Rattle.std.proofs.lemmas.List.Elements.{All-get_or}
use Rattle.std.proofs.lemmas.Option.{slice_get_within, slice_get_cases, get_or_from_slice_get, same_Some}
use Rattle.plane_geom.specs.declared.point.Dir.TheVariants.{East}
use Rattle.segment_order.specs.declared.run.Run.{Run}
use Rattle.segment_order.specs.Run.{run_at, no_run}
use Rattle.channel_bundles.specs.declared.route.PhaseRoute.{PhaseRoute}
use Rattle.channel_bundles.specs.Route.{IsPhaseRoute}
use Rattle.nudge_phases.specs.Rising.{EdgesRise}
use Rattle.nudge_phases.specs.Steps.{AreEach}

-- what holds of all holds of the one that is read
pub all_read : {X : Type 0} (P : X → Type 0) (xs : List X) (k : ℕ) (x : X) → All P xs → slice_get xs k ≡ Some x → P x
all_read P xs k x all e = subst P (get_or_from_slice_get xs k x x e) (All-get_or P xs k x (slice_get_within xs k x e) all)

-- within the list something is read
pub some_read : {X : Type 0} (xs : List X) (k : ℕ) → k < length xs → (x : X) × (slice_get xs k ≡ Some x)
some_read {X} xs k h = elim (slice_get_cases xs k).1 as (λ _. (x : X) × (slice_get xs k ≡ Some x)) [
  | inl (x, within, here, same) ↦ (x, here)
  | inr (past, none) ↦ absurd (omega arith)
]

-- one edge has one route
pub one_place : (routes : List PhaseRoute) (i j : ℕ) (r s : PhaseRoute) → EdgesRise routes → slice_get routes i ≡ Some r → slice_get routes j ≡ Some s → r.edge ≡ s.edge → i ≡ j
one_place routes i j r s rise at_r at_s same =
    let ei = ap (λ (q : PhaseRoute). q.edge) (get_or_from_slice_get routes i r r at_r) in
    let ej = ap (λ (q : PhaseRoute). q.edge) (get_or_from_slice_get routes j s r at_s) in
    elim (cases_lt i j) as (λ _. i ≡ j) [
      | inl before ↦ absurd (omega (arith, rise i j r before (slice_get_within routes j s at_s), ei, ej, same))
      | inr k ↦ (elim (cases_lt j i) as (λ _. i ≡ j) [
        | inl behind ↦ absurd (omega (arith, rise j i r behind (slice_get_within routes i r at_r), ei, ej, same))
        | inr both ↦ omega arith
      ])
    ]

pub one_route : (routes : List PhaseRoute) (i j : ℕ) (r s : PhaseRoute) → EdgesRise routes → slice_get routes i ≡ Some r → slice_get routes j ≡ Some s → r.edge ≡ s.edge → r ≡ s
one_route routes i j r s rise at_r at_s same =
    same_Some r s (sym at_r ∙ ap (slice_get routes) (one_place routes i j r s rise at_r at_s same) ∙ at_s)

-- what the code reads past the last run
abbrev pub past_run : Run
past_run = record no_run { heading = East }

pub same_read : (runs : List Run) (k : ℕ) → k < length runs → get_or runs k past_run ≡ run_at runs k
same_read runs k h = get_or_default runs k past_run no_run h

-- the run is numbered by its place
pub run_is : (runs : List Run) (k : ℕ) (r : Run) → slice_get runs k ≡ Some r → run_at runs k ≡ r
run_is runs k r e = get_or_from_slice_get runs k r no_run e

pub run_place : (routes : List PhaseRoute) (i k : ℕ) (s : PhaseRoute) (r : Run) → All IsPhaseRoute routes → slice_get routes i ≡ Some s → slice_get s.runs.items k ≡ Some r → r.place ≡ k + 1
run_place routes i k s r good at_s at_r =
    ap (λ (q : Run). q.place) (sym (run_is s.runs.items k r at_r)) ∙ (all_read IsPhaseRoute routes i s good at_s).runs.places k (slice_get_within s.runs.items k r at_r)

pub run_edge : (routes : List PhaseRoute) (i k : ℕ) (s : PhaseRoute) → All IsPhaseRoute routes → slice_get routes i ≡ Some s → k < length s.runs.items → (run_at s.runs.items k).edge ≡ s.edge
run_edge routes i k s good at_s h = (all_read IsPhaseRoute routes i s good at_s).runs.edges k h

-- what keeps the edges keeps their order
pub still_rise : (before after : List PhaseRoute) → length after ≡ length before → ((k : ℕ) (r s : PhaseRoute) → slice_get before k ≡ Some r → slice_get after k ≡ Some s → s.edge ≡ r.edge) → EdgesRise before → EdgesRise after
still_rise before after count same rise i j d h g =
    let in_j : j < length before = omega (arith, g, count) in
    let in_i : i < length before = omega (arith, h, in_j) in
    let r = some_read before i in_i in
    let s = some_read before j in_j in
    let u = some_read after i (omega (arith, h, g)) in
    let v = some_read after j g in
    omega (
      arith,
      rise i j d h in_j,
      same i r.0 u.0 r.1 u.1,
      same j s.0 v.0 s.1 v.1,
      ap (λ (q : PhaseRoute). q.edge) (get_or_from_slice_get before i r.0 d r.1),
      ap (λ (q : PhaseRoute). q.edge) (get_or_from_slice_get before j s.0 d s.1),
      ap (λ (q : PhaseRoute). q.edge) (get_or_from_slice_get after i u.0 d u.1),
      ap (λ (q : PhaseRoute). q.edge) (get_or_from_slice_get after j v.0 d v.1),
    )

-- what is read of a list with one thing more
pub push_read : {X : Type 0} (xs : List X) (x a : X) (k : ℕ) → slice_get (xs ++ x ∷ []) k ≡ Some a → (slice_get xs k ≡ Some a) ⊎ ((k ≡ length xs) × (x ≡ a))
push_read [] x a zero e = inr (refl, same_Some x a e)
push_read [] x a (suc k) e = cc
push_read (y ∷ ys) x a zero e = inl e
push_read (y ∷ ys) x a (suc k) e = elim (push_read ys x a k e) as (λ _. (slice_get (y ∷ ys) (suc k) ≡ Some a) ⊎ ((suc k ≡ length (y ∷ ys)) × (x ≡ a))) [
  | inl old ↦ inl old
  | inr new ↦ inr (ap suc new.0, new.1)
]

-- a list is built whose elements have the property for those of another list, one after another
module _ {X Y : Type 0} (R : X → Y → Type 0) (xs : List X) where
  pub each_none : (ys : List Y) → ys ≡ [] → AreEach R (take 0 xs) ys
  each_none ys e = record { count = ap length e; each = λ k x y at_x at_y. absurd (let h = slice_get_within (take 0 xs) k x at_x in omega arith) }

  pub each_more : (i : ℕ) (ys new : List Y) (x : X) (y : Y) → AreEach R (take i xs) ys → i < length xs → x ≡ get_or xs i x → R x y → new ≡ ys ++ y ∷ [] → AreEach R (take (i + 1) xs) new
  each_more i ys new x y so h is holds e =
      let more : take (i + 1) xs ≡ take i xs ++ x ∷ [] = take_more xs i x h ∙ ap (λ a. take i xs ++ a ∷ []) (sym is) in
      record {
        count = ap length e ∙ length_push ys y ∙ ap (λ n. n + 1) so.count ∙ sym (length_push (take i xs) x) ∙ ap length (sym more);
        each = λ k a b at_a at_b.
            elim (push_read (take i xs) x a k (ap (λ zs. slice_get zs k) (sym more) ∙ at_a)) as (λ _. R a b) [
              | inl old_a ↦ (elim (push_read ys y b k (ap (λ zs. slice_get zs k) (sym e) ∙ at_b)) as (λ _. R a b) [
                | inl old_b ↦ so.each k a b old_a old_b
                | inr new_b ↦ absurd (let l = slice_get_within (take i xs) k a old_a in let c = so.count in omega (arith, l, c, new_b.0))
              ])
              | inr new_a ↦ (elim (push_read ys y b k (ap (λ zs. slice_get zs k) (sym e) ∙ at_b)) as (λ _. R a b) [
                | inl old_b ↦ absurd (let l = slice_get_within ys k b old_b in let c = so.count in omega (arith, l, c, new_a.0))
                | inr new_b ↦ subst₂ R new_a.1 new_b.1 holds
              ])
            ];
      }

  pub each_all : (i : ℕ) (ys : List Y) → AreEach R (take i xs) ys → length xs ≤ i → AreEach R xs ys
  each_all i ys so h = subst (λ zs. AreEach R zs ys) (take_all i xs h) so

-- a list stands whole before what follows it
pub take_whole : {X : Type 0} (xs zs : List X) (n : ℕ) → length xs ≡ n → take n (xs ++ zs) ≡ xs
take_whole xs zs n e = take-append-le n xs zs (omega (arith, e)) ∙ take_all n xs (omega (arith, e))
