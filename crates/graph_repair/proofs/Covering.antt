-- The hull of what differs between two lists grows, and covers one item more.
use Rattle.std.proofs.Common.{◌≡◌, ◌⊎◌, inl, inr, ℕ, ◌+◌, ◌<◌, ◌≤◌, List, [], ◌∷◌, get_or, length, take, sym, subst, Contains, arith}
use Rattle.std.proofs.lemmas.List.{take_all, take_more}
use Rattle.std.proofs.lemmas.List.Elements.{All-append, All-from_recursion, All-weaker}
use Rattle.plane_geom.specs.declared.point.Point.{Point}
use Rattle.plane_geom.specs.declared.rect.Rect.{Rect}
use Rattle.plane_geom.specs.Rect.{HasWithin}
use Rattle.graph_repair.specs.Hull.{AreListedOrWithin}

-- each point of the first rectangle lies in the second
abbrev pub IsWider : Rect → Rect → Type 0
IsWider hull wide = (p : Point) → HasWithin hull p → HasWithin wide p

module _ {X : Type 0} (first last : X → Point) (items others : List X) where
  -- the item is one of the others, or lies in the hull
  abbrev IsCovered : Rect → X → Type 0
  IsCovered hull x = Contains others x ⊎ (HasWithin hull (first x) × HasWithin hull (last x))

  still_covered : (hull wide : Rect) → IsWider hull wide → (x : X) → IsCovered hull x → IsCovered wide x
  still_covered hull wide wider x (inl there) = inl there
  still_covered hull wide wider x (inr in_hull) = inr (wider (first x) in_hull.0, wider (last x) in_hull.1)

  covered_in_wider : (hull wide : Rect) → IsWider hull wide → AreListedOrWithin first last hull items others → AreListedOrWithin first last wide items others
  covered_in_wider hull wide wider covered = All-weaker (IsCovered hull) (IsCovered wide) (still_covered hull wide wider) items covered

-- the same of lists as they were passed
pub covered_lists : {X : Type 0} (first last : X → Point) (hull wide : Rect) (xs items ys others : List X) → xs ≡ items → ys ≡ others → IsWider hull wide →
    AreListedOrWithin first last hull xs ys → AreListedOrWithin first last wide items others
covered_lists first last hull wide xs items ys others e f wider covered =
    subst (λ zs. AreListedOrWithin first last wide zs others) e
    (subst (λ zs. AreListedOrWithin first last wide xs zs) f (covered_in_wider first last xs ys hull wide wider covered))

-- from the first hull to the second the first items were covered
pub record Covers {X : Type 0} (first last : X → Point) (hull wide : Rect) (items others : List X) : Type 0 where
  pub wider : IsWider hull wide
  pub covered : AreListedOrWithin first last wide items others

pub covers_none : {X : Type 0} (first last : X → Point) (hull : Rect) (others : List X) → Covers first last hull hull [] others
covers_none first last hull others = record { wider = λ p h. h; covered = λ k d less. absurd (omega arith) }

module _ {X : Type 0} (first last : X → Point) (items others : List X) (start hull : Rect) (n : ℕ) (x : X) (less : n < length items) (is : x ≡ get_or items n x) (so_far : Covers first last start hull (take n items) others) where
  one_more : (wide : Rect) → IsWider hull wide → IsCovered first last items others wide x → Covers first last start wide (take (n + 1) items) others
  one_more wide wider next =
      let before = covered_in_wider first last (take n items) others hull wide wider so_far.covered in
      let here = subst (IsCovered first last items others wide) is next in
      record {
        wider = λ p h. wider p (so_far.wider p h);
        covered = subst (λ (xs : List X). AreListedOrWithin first last wide xs others) (sym (take_more items n x less))
            (All-append (IsCovered first last items others wide) (take n items) (get_or items n x ∷ []) before
            (All-from_recursion (IsCovered first last items others wide) (get_or items n x ∷ []) (here, tt)));
      }

  pub one_there : Contains others x → Covers first last start hull (take (n + 1) items) others
  one_there there = one_more hull (λ p h. h) (inl there)

  pub one_missing : (wide : Rect) → IsWider hull wide → HasWithin wide (first x) → HasWithin wide (last x) → Covers first last start wide (take (n + 1) items) others
  one_missing wide wider near far = one_more wide wider (inr (near, far))

pub covers_all : {X : Type 0} (first last : X → Point) (hull wide : Rect) (items others : List X) (n : ℕ) → length items ≤ n → Covers first last hull wide (take n items) others → AreListedOrWithin first last wide items others
covers_all first last hull wide items others n ended covers = subst (λ xs. AreListedOrWithin first last wide xs others) (take_all n items ended) covers.covered
