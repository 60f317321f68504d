-- Within a part a first walk does not double back, and each run between two others shares a side of a solid to where it is held.
use Rattle.std.proofs.Common.{◌≡◌, ◌⊎◌, ℕ, suc, zero, ◌+◌, ◌<◌, ◌≤◌, ℤ, ◌≤ℤ◌, ◌<ℤ◌, None, List, [], ◌∷◌, ◌++◌, length, replicate, get_or, All, Any, refl, sym, ap, subst, ◌∙◌, inl, inr, arith, append-nil}
use Rattle.std.proofs.lemmas.Int.{ints, by_lt_z}
use Rattle.std.proofs.lemmas.List.Elements.{All-cons, All-nil}
use Rattle.plane_geom.specs.declared.point.Point.{Point}
use Rattle.plane_geom.specs.declared.point.Dir.{Dir}
use Rattle.plane_geom.specs.declared.point.Dir.TheVariants.{East, South, West, North}
use Rattle.plane_geom.specs.declared.point.Way.{Way}
use Rattle.plane_geom.specs.declared.point.Way.TheVariants.{Vertical, Horizontal}
use Rattle.plane_geom.specs.declared.floor.Line.{Line}
use Rattle.plane_geom.specs.declared.rect.Rect.{Rect}
use Rattle.plane_geom.specs.declared.rect.Solid.{Solid}
use Rattle.plane_geom.specs.Point.{forward, opposite}
use Rattle.plane_geom.specs.Rect.{StepMeets}
use Rattle.plane_geom.specs.Along.{across, way_of}
use Rattle.walk_model.specs.declared.task.Task.{Task}
use Rattle.walk_model.specs.Walk.{after}
use Rattle.walk_model.specs.Cost.{turn}
use Rattle.walk_model.specs.Order.{Triple, IsFirst}
use Rattle.walk_model.proofs.CornerByCorner.Bends.{stretch_end}
use Rattle.walk_model.proofs.CornerByCorner.Scan.{after-append, after-replicate, forward-zero, forward-forward}
use Rattle.walk_laws.specs.Lines.{run_line}
use Rattle.walk_laws.specs.Sides.{SharesSideTo, held_to}
use Rattle.walk_laws.proofs.Steps.Clear.{IsClear, IsClearStep, clear-append, clear_front, clear_back}
use Rattle.walk_laws.proofs.Replacing.Tours.{back_and_there}
use Rattle.walk_laws.proofs.Steps.Turns.{across_two, one_or_two}
use Rattle.walk_laws.proofs.Steps.Shift.{exchange, bend_differs}
use Rattle.walk_laws.proofs.Steps.Flanks.{HasSquare, inside_or_side, beside_square, begin_square, end_square}
use Rattle.walk_laws.proofs.Replacing.Parts.{IsPart, part_of_part, straight_part, not_sooner, not_later}

-- a longer run shares the sides of its parts
shares_longer : (side : Dir) (r : Rect) (p : Point) (d : Dir) (k m n : ℕ) → k + m ≤ n → SharesSideTo side (run_line (forward d k p) d m) r → SharesSideTo side (run_line p d n) r
shares_longer East r p East k m n h s = (s.0, s.1, omega (arith, ints, s.2), omega (arith, ints, s.3))
shares_longer East r p South k m n h s = (s.0, s.1, omega (arith, ints, s.2), omega (arith, ints, s.3))
shares_longer East r p West k m n h s = (s.0, s.1, omega (arith, ints, s.2), omega (arith, ints, s.3))
shares_longer East r p North k m n h s = (s.0, s.1, omega (arith, ints, s.2), omega (arith, ints, s.3))
shares_longer South r p East k m n h s = (s.0, s.1, omega (arith, ints, s.2), omega (arith, ints, s.3))
shares_longer South r p South k m n h s = (s.0, s.1, omega (arith, ints, s.2), omega (arith, ints, s.3))
shares_longer South r p West k m n h s = (s.0, s.1, omega (arith, ints, s.2), omega (arith, ints, s.3))
shares_longer South r p North k m n h s = (s.0, s.1, omega (arith, ints, s.2), omega (arith, ints, s.3))
shares_longer West r p East k m n h s = (s.0, s.1, omega (arith, ints, s.2), omega (arith, ints, s.3))
shares_longer West r p South k m n h s = (s.0, s.1, omega (arith, ints, s.2), omega (arith, ints, s.3))
shares_longer West r p West k m n h s = (s.0, s.1, omega (arith, ints, s.2), omega (arith, ints, s.3))
shares_longer West r p North k m n h s = (s.0, s.1, omega (arith, ints, s.2), omega (arith, ints, s.3))
shares_longer North r p East k m n h s = (s.0, s.1, omega (arith, ints, s.2), omega (arith, ints, s.3))
shares_longer North r p South k m n h s = (s.0, s.1, omega (arith, ints, s.2), omega (arith, ints, s.3))
shares_longer North r p West k m n h s = (s.0, s.1, omega (arith, ints, s.2), omega (arith, ints, s.3))
shares_longer North r p North k m n h s = (s.0, s.1, omega (arith, ints, s.2), omega (arith, ints, s.3))

-- a step and the same step back
step_back : (r : Rect) (p : Point) (u : Dir) → StepMeets r p u → StepMeets r (forward u 1 p) (opposite u)
step_back r p East m = (m.0, m.1, omega (arith, ints, m.2), omega (arith, ints, m.3))
step_back r p South m = (m.0, m.1, omega (arith, ints, m.2), omega (arith, ints, m.3))
step_back r p West m = (m.0, m.1, omega (arith, ints, m.2), omega (arith, ints, m.3))
step_back r p North m = (m.0, m.1, omega (arith, ints, m.2), omega (arith, ints, m.3))

turn_opposite : (u d : Dir) → turn u d ≡ 1 → turn (opposite u) d ≡ 1
turn_opposite East East h = absurd (omega (arith, h))
turn_opposite South South h = absurd (omega (arith, h))
turn_opposite West West h = absurd (omega (arith, h))
turn_opposite North North h = absurd (omega (arith, h))
turn_opposite _ _ h = omega (arith, h)

-- a step that is clear, on a line beside no side
module _ (solids : List Solid) (p : Point) (d u : Dir) (cross : turn u d ≡ 1) (clear : IsClearStep solids None p d) (apart : All (λ s. SharesSideTo u (run_line p d 1) s.rect → ⊥) solids) where
  no_square : All (λ s. HasSquare s.rect p d u → ⊥) solids
  no_square k s inside h = elim (inside_or_side (get_or solids k s).rect p d u cross h) as (λ _. ⊥) [
    | inl m ↦ clear k s inside (λ e. cc) m
    | inr side ↦ apart k s inside side
  ]

  step_beside : IsClearStep solids None (forward u 1 p) d
  step_beside k s inside other m = no_square k s inside (beside_square (get_or solids k s).rect p d u cross m)

  step_at_begin : IsClearStep solids None p u
  step_at_begin k s inside other m = no_square k s inside (begin_square (get_or solids k s).rect p d u cross m)

  step_at_end : IsClearStep solids None (forward d 1 p) u
  step_at_end k s inside other m = no_square k s inside (end_square (get_or solids k s).rect p d u cross m)

-- a run that is clear, beside no side
pub record IsAlone (solids : List Solid) (u : Dir) (p : Point) (d : Dir) (n : ℕ) : Type 0 where
  pub clear : IsClear solids None p (replicate n d)
  pub apart : All (λ s. SharesSideTo u (run_line p d n) s.rect → ⊥) solids

first_alone : (solids : List Solid) (u : Dir) (p : Point) (d : Dir) (n : ℕ) → IsAlone solids u p d (suc n) → All (λ s. SharesSideTo u (run_line p d 1) s.rect → ⊥) solids
first_alone solids u p d n h k s inside side =
    h.apart k s inside (shares_longer u (get_or solids k s).rect p d 0 1 (suc n) (omega arith) (subst (λ x. SharesSideTo u (run_line x d 1) (get_or solids k s).rect) (sym (forward-zero d p)) side))

next_alone : (solids : List Solid) (u : Dir) (p : Point) (d : Dir) (n : ℕ) → IsAlone solids u p d (suc n) → IsAlone solids u (forward d 1 p) d n
next_alone solids u p d n h = record {
  clear = h.clear.1;
  apart = λ k s inside side. h.apart k s inside (shares_longer u (get_or solids k s).rect p d 1 n (suc n) (omega arith) side);
}

-- it is clear on both sides as well
run_beside : (solids : List Solid) (p : Point) (d u : Dir) (n : ℕ) → turn u d ≡ 1 → IsAlone solids u p d n → IsClear solids None (forward u 1 p) (replicate n d)
run_beside solids p d u zero cross h = tt
run_beside solids p d u (suc n) cross h = (
  step_beside solids p d u cross h.clear.0 (first_alone solids u p d n h),
  subst (λ x. IsClear solids None x (replicate n d)) (exchange u d 1 1 p) (run_beside solids (forward d 1 p) d u n cross (next_alone solids u p d n h)),
)

-- and so are the ways to there at its begin and at its end
at_begin : (solids : List Solid) (p : Point) (d u : Dir) (n : ℕ) → turn u d ≡ 1 → 0 < n → IsAlone solids u p d n → IsClearStep solids None p u
at_begin solids p d u zero cross some h = absurd (omega arith)
at_begin solids p d u (suc n) cross some h = step_at_begin solids p d u cross h.clear.0 (first_alone solids u p d n h)

at_end : (solids : List Solid) (p : Point) (d u : Dir) (n : ℕ) → turn u d ≡ 1 → 0 < n → IsAlone solids u p d n → IsClearStep solids None (forward d n p) u
at_end solids p d u zero cross some h = absurd (omega arith)
at_end solids p d u (suc zero) cross some h = step_at_end solids p d u cross h.clear.0 (first_alone solids u p d 0 h)
at_end solids p d u (suc (suc n)) cross some h =
    subst (λ x. IsClearStep solids None x u) (forward-forward d (suc n) 1 p ∙ ap (λ k. forward d k p) (omega arith))
    (at_end solids (forward d 1 p) d u (suc n) cross (omega arith) (next_alone solids u p d (suc n) h))

-- whether a line shares a side, and whether it shares one of some
pub same_or_not : (a b : ℤ) → (a ≡ b) ⊎ (a ≡ b → ⊥)
same_or_not a b = by_lt_z a b (λ l. inr (λ e. omega (arith, ints, l, e))) (λ l. by_lt_z b a (λ m. inr (λ e. omega (arith, ints, m, e))) (λ m. inl (omega (arith, ints, l, m))))

upto_or_not : (a b : ℤ) → (a ≤ℤ b) ⊎ (a ≤ℤ b → ⊥)
upto_or_not a b = by_lt_z b a (λ l. inr (λ h. omega (arith, ints, l, h))) (λ l. inl l)

side_or_not : (at lo hi edge from to : ℤ) → ((edge ≡ at) × (lo ≤ℤ to) × (from ≤ℤ hi)) ⊎ ((edge ≡ at) × (lo ≤ℤ to) × (from ≤ℤ hi) → ⊥)
side_or_not at lo hi edge from to = ends (upto_or_not lo to) (upto_or_not from hi) (same_or_not edge at)
  where
    ends : (lo ≤ℤ to) ⊎ (lo ≤ℤ to → ⊥) → (from ≤ℤ hi) ⊎ (from ≤ℤ hi → ⊥) → (edge ≡ at) ⊎ (edge ≡ at → ⊥) →
        ((edge ≡ at) × (lo ≤ℤ to) × (from ≤ℤ hi)) ⊎ ((edge ≡ at) × (lo ≤ℤ to) × (from ≤ℤ hi) → ⊥)
    ends (inr a) b c = inr (λ h. a h.1)
    ends (inl a) (inr b) c = inr (λ h. b h.2)
    ends (inl a) (inl b) (inl c) = inl (c, a, b)
    ends (inl a) (inl b) (inr c) = inr (λ h. c h.0)

shares_or_not : (side : Dir) (way : Way) (at lo hi : ℤ) (r : Rect) →
    SharesSideTo side (record { way = way; at = at; lo = lo; hi = hi }) r ⊎ (SharesSideTo side (record { way = way; at = at; lo = lo; hi = hi }) r → ⊥)
shares_or_not East Vertical at lo hi r = elim (side_or_not at lo hi r.left r.top r.bottom) as (λ _. SharesSideTo East (record { way = Vertical; at = at; lo = lo; hi = hi }) r ⊎ (SharesSideTo East (record { way = Vertical; at = at; lo = lo; hi = hi }) r → ⊥)) [
  | inl h ↦ inl (refl, h.0, h.1, h.2)
  | inr not ↦ inr (λ s. not (s.1, s.2, s.3))
]
shares_or_not East Horizontal at lo hi r = inr (λ s. let e : Horizontal ≡ Vertical = s.0 in absurd cc)
shares_or_not South Horizontal at lo hi r = elim (side_or_not at lo hi r.top r.left r.right) as (λ _. SharesSideTo South (record { way = Horizontal; at = at; lo = lo; hi = hi }) r ⊎ (SharesSideTo South (record { way = Horizontal; at = at; lo = lo; hi = hi }) r → ⊥)) [
  | inl h ↦ inl (refl, h.0, h.1, h.2)
  | inr not ↦ inr (λ s. not (s.1, s.2, s.3))
]
shares_or_not South Vertical at lo hi r = inr (λ s. let e : Vertical ≡ Horizontal = s.0 in absurd cc)
shares_or_not West Vertical at lo hi r = elim (side_or_not at lo hi r.right r.top r.bottom) as (λ _. SharesSideTo West (record { way = Vertical; at = at; lo = lo; hi = hi }) r ⊎ (SharesSideTo West (record { way = Vertical; at = at; lo = lo; hi = hi }) r → ⊥)) [
  | inl h ↦ inl (refl, h.0, h.1, h.2)
  | inr not ↦ inr (λ s. not (s.1, s.2, s.3))
]
shares_or_not West Horizontal at lo hi r = inr (λ s. let e : Horizontal ≡ Vertical = s.0 in absurd cc)
shares_or_not North Horizontal at lo hi r = elim (side_or_not at lo hi r.bottom r.left r.right) as (λ _. SharesSideTo North (record { way = Horizontal; at = at; lo = lo; hi = hi }) r ⊎ (SharesSideTo North (record { way = Horizontal; at = at; lo = lo; hi = hi }) r → ⊥)) [
  | inl h ↦ inl (refl, h.0, h.1, h.2)
  | inr not ↦ inr (λ s. not (s.1, s.2, s.3))
]
shares_or_not North Vertical at lo hi r = inr (λ s. let e : Vertical ≡ Horizontal = s.0 in absurd cc)

any_or_all : {A : Type 0} (P : A → Type 0) → ((x : A) → P x ⊎ (P x → ⊥)) → (xs : List A) → Any P xs ⊎ All (λ x. P x → ⊥) xs
any_or_all P each [] = inr (All-nil (λ x. P x → ⊥))
any_or_all P each (x ∷ xs) = elim (each x) as (λ _. Any P (x ∷ xs) ⊎ All (λ x. P x → ⊥) (x ∷ xs)) [
  | inl h ↦ inl (0, x, omega arith, refl, h)
  | inr not ↦ elim (any_or_all P each xs) as (λ _. Any P (x ∷ xs) ⊎ All (λ x. P x → ⊥) (x ∷ xs)) [
    | inl h ↦ inl (suc h.0, h.1, omega (arith, h.2), h.3, h.4)
    | inr none ↦ inr (All-cons (λ x. P x → ⊥) x xs not none)
  ]
]

shares_or_alone : (side : Dir) (solids : List Solid) (l : Line) → Any (λ s. SharesSideTo side l s.rect) solids ⊎ All (λ s. SharesSideTo side l s.rect → ⊥) solids
shares_or_alone side solids l = any_or_all (λ s. SharesSideTo side l s.rect) (λ s. shares_or_not side l.way l.at l.lo l.hi s.rect) solids

-- where the walk goes on after a run as it came, the run is held to the side on which it would lean less
backward_leans_less : (u d : Dir) (q : Point) → turn u d ≡ 1 → held_to u u ≡ opposite u → across (way_of d) q <ℤ across (way_of d) (forward u 1 q)
backward_leans_less East East q h e = absurd (omega (arith, h))
backward_leans_less East West q h e = absurd (omega (arith, h))
backward_leans_less South South q h e = absurd (omega (arith, h))
backward_leans_less South North q h e = absurd (omega (arith, h))
backward_leans_less West d q h e = absurd (let f : West ≡ East = e in cc)
backward_leans_less North d q h e = absurd (let f : North ≡ South = e in cc)
backward_leans_less _ _ q h e = omega (arith, ints)

forward_leans_less : (u d : Dir) (q : Point) → turn u d ≡ 1 → held_to u u ≡ u → across (way_of d) (forward u 2 q) <ℤ across (way_of d) (forward u 1 q)
forward_leans_less West East q h e = absurd (omega (arith, h))
forward_leans_less West West q h e = absurd (omega (arith, h))
forward_leans_less North South q h e = absurd (omega (arith, h))
forward_leans_less North North q h e = absurd (omega (arith, h))
forward_leans_less East d q h e = absurd (let f : West ≡ East = e in cc)
forward_leans_less South d q h e = absurd (let f : North ≡ South = e in cc)
forward_leans_less _ _ q h e = omega (arith, ints)

same_side : (u : Dir) → (held_to u u ≡ opposite u) ⊎ (held_to u u ≡ u)
same_side East = inl refl
same_side South = inl refl
same_side West = inr refl
same_side North = inr refl

other_side : (u : Dir) → held_to u (opposite u) ≡ opposite u
other_side East = refl
other_side South = refl
other_side West = refl
other_side North = refl

-- to double back leads to where it began
doubling : (u d : Dir) (p : Point) → turn u d ≡ 2 → forward d 1 (forward u 1 p) ≡ p
doubling East West p h = back_and_there East 1 p
doubling West East p h = back_and_there West 1 p
doubling South North p h = back_and_there South 1 p
doubling North South p h = back_and_there North 1 p
doubling East East p h = absurd (omega (arith, h))
doubling South South p h = absurd (omega (arith, h))
doubling West West p h = absurd (omega (arith, h))
doubling North North p h = absurd (omega (arith, h))
doubling _ _ p h = absurd (omega (arith, h))

-- a run that is clear between two clear steps, beside no side to where it comes from
module _ (solids : List Solid) (q : Point) (u d : Dir) (m : ℕ) (cross : turn u d ≡ 1) (alone : IsAlone solids (opposite u) (forward u 1 q) d m) where
  -- the same run is clear one step sooner
  pub cut_clear : IsClear solids None q (replicate m d)
  cut_clear = subst (λ x. IsClear solids None x (replicate m d)) (back_and_there u 1 q) (run_beside solids (forward u 1 q) d (opposite u) m (turn_opposite u d cross) alone)

  -- and so are both steps behind it
  pub sooner_clear : 0 < m → IsClear solids None (forward u 1 q) (replicate m d ++ (u ∷ [])) → IsClear solids None q (replicate m d ++ (u ∷ u ∷ []))
  sooner_clear some clear =
      let p = forward u 1 q in
      let last : IsClear solids None (forward d m p) (u ∷ []) =
      subst (λ x. IsClear solids None x (u ∷ [])) (after-replicate p m d) (clear_back solids None p (replicate m d) (u ∷ []) clear) in
      let across : forward d m p ≡ forward u 1 (forward d m q) = exchange d u m 1 q in
      let over : IsClearStep solids None (forward d m q) u = λ k s inside other meets.
      at_end solids p d (opposite u) m (turn_opposite u d cross) some alone k s inside other
      (subst (λ x. StepMeets (get_or solids k s).rect x (opposite u)) (sym across) (step_back (get_or solids k s).rect (forward d m q) u meets)) in
      clear-append solids None q (replicate m d) (u ∷ u ∷ []) cut_clear
      (subst (λ x. IsClear solids None x (u ∷ u ∷ [])) (sym (after-replicate q m d)) (over, subst (λ x. IsClear solids None x (u ∷ [])) across last))

-- beside no side to where it goes on, it is clear one step later, and so are both steps in front of it
pub later_clear : (solids : List Solid) (q : Point) (u d : Dir) (m : ℕ) → turn u d ≡ 1 → 0 < m → IsAlone solids u (forward u 1 q) d m → IsClearStep solids None q u → IsClear solids None q (u ∷ u ∷ replicate m d)
later_clear solids q u d m cross some alone first =
    (first, (at_begin solids (forward u 1 q) d u m cross some alone, run_beside solids (forward u 1 q) d u m cross alone))

-- where a run ends that goes back over
pub detour_ends : (q : Point) (u d : Dir) (m : ℕ) → after q (u ∷ (replicate m d ++ (opposite u ∷ []))) ≡ forward d m q
detour_ends q u d m =
    let p = forward u 1 q in
    after-append p (replicate m d) (opposite u ∷ []) ∙ ap (λ x. forward (opposite u) 1 x) (after-replicate p m d ∙ exchange d u m 1 q) ∙ back_and_there u 1 (forward d m q)

module _ (solids : List Solid) (task : Task) (t : Triple) (first : IsFirst solids task t) where
  -- within a part a first walk does not double back
  pub no_doubling : (front back : List Dir) (u d : Dir) → IsPart solids task t front (u ∷ d ∷ []) back → 0 < turn u d → turn u d ≡ 1
  no_doubling front back u d h some = elim (one_or_two u d some) as (λ _. turn u d ≡ 1) [
    | inl once ↦ once
    | inr back_again ↦ absurd (
        let q = after t.walk.start front in
        let none : u ∷ d ∷ [] ≡ [] = straight_part solids task t first front (u ∷ d ∷ []) back d 0 h (doubling u d q back_again ∙ sym (forward-zero d q)) tt in
        let long : 2 ≡ 0 = ap length none in omega (arith, long))
  ]

  -- a run between two other steps of one part shares a side to where it is held
  pub inner_run : (front back : List Dir) (u d v : Dir) (n : ℕ) → 0 < turn u d → 0 < turn d v → IsPart solids task t front (u ∷ (replicate (suc n) d ++ (v ∷ []))) back →
      Any (λ s. SharesSideTo (held_to u v) (run_line (forward u 1 (after t.walk.start front)) d (suc n)) s.rect) solids
  inner_run front back u d v n hu hv h =
      let q = after t.walk.start front in
      let p = forward u 1 q in
      let m = suc n in
      let begin : IsPart solids task t front (u ∷ d ∷ []) ((replicate n d ++ (v ∷ [])) ++ back) =
      subst (λ f. IsPart solids task t f (u ∷ d ∷ []) ((replicate n d ++ (v ∷ [])) ++ back)) (append-nil front) (part_of_part solids task t front [] (u ∷ d ∷ []) (replicate n d ++ (v ∷ [])) back h) in
      let end : IsPart solids task t (front ++ (u ∷ replicate n d)) (d ∷ v ∷ []) back =
      part_of_part solids task t front (u ∷ replicate n d) (d ∷ v ∷ []) [] back (subst (λ ds. IsPart solids task t front (u ∷ ds) back) (stretch_end n d (v ∷ [])) h) in
      let cross = no_doubling front ((replicate n d ++ (v ∷ [])) ++ back) u d begin hu in
      let cross' = no_doubling (front ++ (u ∷ replicate n d)) back d v end hv in
      let run_clear : IsClear solids None p (replicate m d) = clear_front solids None p (replicate m d) (v ∷ []) h.clear.1 in
      elim (shares_or_alone (held_to u v) solids (run_line p d m)) as (λ _. Any (λ s. SharesSideTo (held_to u v) (run_line p d m) s.rect) solids) [
        | inl shares ↦ shares
        | inr apart ↦ absurd (
            elim (across_two d u v cross cross') as (λ _. ⊥) [
              | inl same ↦ (
                  let h' : IsPart solids task t front (u ∷ (replicate m d ++ (u ∷ []))) back = subst (λ (f : Dir). IsPart solids task t front (u ∷ (replicate m d ++ (f ∷ []))) back) same h in
                  elim (same_side u) as (λ _. ⊥) [
                    | inl back_there ↦ (
                        let side : held_to u v ≡ opposite u = ap (held_to u) same ∙ back_there in
                        let alone : IsAlone solids (opposite u) p d m = record { clear = run_clear; apart = subst (λ (x : Dir). All (λ s. SharesSideTo x (run_line p d m) s.rect → ⊥) solids) side apart } in
                        not_sooner solids task t first front back u d m cross (omega arith) h' (backward_leans_less u d q cross back_there) (sooner_clear solids q u d m cross alone (omega arith) h'.clear.1))
                    | inr on_there ↦ (
                        let side : held_to u v ≡ u = ap (held_to u) same ∙ on_there in
                        let alone : IsAlone solids u p d m = record { clear = run_clear; apart = subst (λ (x : Dir). All (λ s. SharesSideTo x (run_line p d m) s.rect → ⊥) solids) side apart } in
                        not_later solids task t first front back u d m cross (omega arith) h' (forward_leans_less u d q cross on_there) (later_clear solids q u d m cross (omega arith) alone h'.clear.0))
                  ])
              | inr other ↦ (
                  let side : held_to u v ≡ opposite u = ap (held_to u) other ∙ other_side u in
                  let alone : IsAlone solids (opposite u) p d m = record { clear = run_clear; apart = subst (λ (x : Dir). All (λ s. SharesSideTo x (run_line p d m) s.rect → ⊥) solids) side apart } in
                  let ends : after q (u ∷ (replicate m d ++ (v ∷ []))) ≡ forward d m q = ap (λ (f : Dir). after q (u ∷ (replicate m d ++ (f ∷ [])))) other ∙ detour_ends q u d m in
                  let straight : u ∷ (replicate m d ++ (v ∷ [])) ≡ replicate m d = straight_part solids task t first front (u ∷ (replicate m d ++ (v ∷ []))) back d m h ends (cut_clear solids q u d m cross alone) in
                  let equal : u ≡ d = cc in
                  bend_differs u d hu equal)
            ])
      ]
