-- Which checkpoints are passed between two points, and how many at most.
use Rattle.std.proofs.Common.{◌≡◌, ◌↔◌, ℕ, ◌+◌, ◌<◌, ◌≤◌, List, [], ◌∷◌, ◌++◌, length, take, drop, get_or, inl, inr, refl, sym, ap, subst, ◌∙◌, arith, add-one, length-drop}
use Rattle.std.proofs.lemmas.Bool.{cases_lt}
use Rattle.std.proofs.lemmas.List.{drop_more, take-append-drop, take_all, take_more}
use Rattle.std.proofs.Math.Seq.{take-add}
use Rattle.plane_geom.specs.declared.point.Point.{Point}
use Rattle.walk_model.specs.Walk.{Walk, point_at}
use Rattle.walk_model.specs.Legal.{Passes, PassesMost}

-- what is passed from a point on is passed from an earlier one on
pub passes_earlier : (w : Walk) (from i to : ℕ) (cs : List Point) → from ≤ i → Passes w i to cs → Passes w from to cs
passes_earlier w from i to [] h p = tt
passes_earlier w from i to (c ∷ cs) h p = (p.0, omega (arith, p.1), p.2, p.3, p.4)

-- some checkpoint is passed only where there is room
pub passes_room : (w : Walk) (from to : ℕ) (cs ds : List Point) (c : Point) → Passes w from to (cs ++ c ∷ ds) → from ≤ to
passes_room w from to [] ds c p = omega (arith, p.1, p.2)
passes_room w from to (b ∷ cs) ds c p = omega (arith, p.1, p.2)

-- what is passed up to a point, and then from there on, is passed in all
pub passes-append : (w : Walk) (from mid low to : ℕ) (cs ds : List Point) → from ≤ low → mid ≤ low → mid ≤ to → Passes w from mid cs → Passes w low to ds → Passes w from to (cs ++ ds)
passes-append w from mid low to [] ds h i j p q = passes_earlier w from low to ds h q
passes-append w from mid low to (c ∷ cs) ds h i j p q =
    (p.0, p.1, omega (arith, p.2), p.3, passes-append w p.0 mid low to cs ds (omega (arith, p.2)) i j p.4 q)

-- the first ones of what is passed
pub passes_front : (w : Walk) (from to : ℕ) (cs ds : List Point) → Passes w from to (cs ++ ds) → Passes w from to cs
passes_front w from to [] ds p = tt
passes_front w from to (c ∷ cs) ds p = (p.0, p.1, p.2, p.3, passes_front w p.0 to cs ds p.4)

-- a checkpoint that is not passed up to a point is passed after it
pub passes_behind : (w : Walk) (from mid low to : ℕ) (cs ds : List Point) (c : Point) → ((i : ℕ) → from ≤ i → mid < i → i ≤ to → low ≤ i) → (Passes w from mid (cs ++ c ∷ []) → ⊥) → Passes w from to (cs ++ c ∷ ds) → Passes w low to (c ∷ ds)
passes_behind w from mid low to [] ds c next not p =
    elim (cases_lt mid p.0) as (λ _. Passes w low to (c ∷ ds)) [
      | inl l ↦ (p.0, next p.0 p.1 l p.2, p.2, p.3, p.4)
      | inr l ↦ absurd (not (p.0, p.1, l, p.3, tt))
    ]
passes_behind w from mid low to (b ∷ cs) ds c next not p =
    passes_behind w p.0 mid low to cs ds c
    (λ i h. next i (omega (arith, p.1, h)))
    (λ q. not (p.0, p.1, passes_room w p.0 mid cs [] c q, p.3, q))
    p.4

-- the most that is passed up to a point, and then the most of the others from there on, is the most in all
pub most-append : (w : Walk) (from mid low to : ℕ) (via : List Point) (m k : ℕ) → from ≤ low → mid ≤ low → mid ≤ to → ((i : ℕ) → from ≤ i → mid < i → i ≤ to → low ≤ i) → PassesMost w from mid via m → PassesMost w low to (drop m via) k → PassesMost w from to via (m + k)
most-append w from mid low to via m k h i j next first then = record {
  at_most = omega (arith, length-drop m via, first.at_most, then.at_most);
  passed = rw (take-add m k via) (passes-append w from mid low to _ _ h i j first.passed then.passed);
  no_more = λ more p.
      let some : m < length via = omega arith in
      let c = get_or via m w.start in
      let ds = take k (drop (m + 1) via) in
      let not : Passes w from mid (take m via ++ c ∷ []) → ⊥ = rw (take_more via m w.start some) at (first.no_more some) in
      let behind : take (k + 1) (drop m via) ≡ c ∷ ds = rw (drop_more via m w.start some, add-one k) refl in
      let all : take (m + k + 1) via ≡ take m via ++ c ∷ ds = ap (λ n. take n via) (omega arith) ∙ take-add m (k + 1) via ∙ ap (λ xs. take m via ++ xs) behind in
      then.no_more (omega (arith, length-drop m via))
      (subst (Passes w low to) (sym behind) (passes_behind w from mid low to (take m via) ds c next not (subst (Passes w from to) all p)));
}

-- a checkpoint is best passed at the first point that stands on it
pub most-first : (w : Walk) (from i to : ℕ) (c : Point) (cs : List Point) (k : ℕ) → from ≤ i → i ≤ to → point_at w i ≡ c → ((j : ℕ) → from ≤ j → j ≤ to → point_at w j ≡ c → i ≤ j) → PassesMost w i to cs k → PassesMost w from to (c ∷ cs) (k + 1)
most-first w from i to c cs k h g e first rest = record {
  at_most = omega (arith, rest.at_most);
  passed = rw (add-one k) (i, h, g, e, rest.passed);
  no_more = λ more. rw (add-one (k + 1)) (λ p.
      rest.no_more (omega arith) (passes_earlier w i p.0 to (take (k + 1) cs) (first p.0 p.1 p.2 p.3) p.4));
}

-- where the walk stands on the next checkpoint nowhere, none is passed
pub most_none : (w : Walk) (from to : ℕ) (c : Point) (cs : List Point) → ((i : ℕ) → from ≤ i → i ≤ to → point_at w i ≡ c → ⊥) → PassesMost w from to (c ∷ cs) 0
most_none w from to c cs not = record { at_most = omega arith; passed = tt; no_more = λ more p. not p.0 p.1 p.2 p.3 }

pub most-nil : (w : Walk) (from to : ℕ) → PassesMost w from to [] 0
most-nil w from to = record { at_most = omega arith; passed = tt; no_more = λ more p. absurd (omega arith) }

-- all are passed exactly where most are all
pub most_all : (w : Walk) (from to : ℕ) (via : List Point) (k : ℕ) → PassesMost w from to via k → (k ≡ length via) ↔ Passes w from to via
most_all w from to via k most = (
  λ e. subst (Passes w from to) (take_all k via (omega arith)) most.passed,
  λ all. elim (cases_lt k (length via)) as (λ _. k ≡ length via) [
    | inl more ↦ absurd (most.no_more more (passes_front w from to (take (k + 1) via) (drop (k + 1) via) (subst (Passes w from to) (sym (take-append-drop (k + 1) via)) all)))
    | inr done ↦ omega (arith, most.at_most)
  ],
)

-- the same range in other words
pub most_range : (w : Walk) (low high from to : ℕ) (via : List Point) (k : ℕ) → low ≡ from → high ≡ to → PassesMost w low high via k → PassesMost w from to via k
most_range w low high from to via k e f most = subst (λ a. PassesMost w a to via k) e (subst (λ b. PassesMost w low b via k) f most)
