-- Some: least positions of a bundle exist, with its rules and limits as constraints.
use Rattle.std.proofs.Common.{◌≡◌, ℕ, zero, suc, ◌*◌, ◌/◌, ◌<◌, ◌≤◌, ℤ, pos, negsuc, ◌+ℤ◌, ◌-ℤ◌, ◌*ℤ◌, ◌≤ℤ◌, List, [], ◌∷◌, length, get_or, replicate, map, All, ap, sym, subst, refl, ◌∙◌, ⊎_elim, arith}
use Rattle.std.specs.List.{AllByRecursion}
use Rattle.std.proofs.lemmas.Int.{ints}
use Rattle.std.proofs.lemmas.Bool.{cases_lt, cases_eq}
use Rattle.std.proofs.lemmas.List.{get_or-replicate}
use Rattle.std.proofs.lemmas.List.Elements.{All-head, All-tail, All-cons, All-nil}
use Rattle.separation_model.specs.declared.bundle.Item.{Item}
use Rattle.separation_model.specs.declared.bundle.Rule.{Rule}
use Rattle.separation_model.specs.declared.bundle.Bundle.{Bundle}
use Rattle.separation_model.specs.Sum.{here, sum_below, product}
use Rattle.separation_model.specs.Bundle.{IsBundle, item_at, int_at, asked, no_item}
use Rattle.separation_model.specs.Gap.{IsGap}
use Rattle.separation_model.specs.Least.{IsLeast, square, squared_displacement, over_product}
use Rattle.separation_model.proofs.Arithmetic.Ring.{ring, var, num, ◌⊕◌, ◌⊗◌, ◌⊖◌, mul_comm}
use Rattle.separation_model.proofs.Arithmetic.Order.{mul-mono}
use Rattle.separation_model.proofs.Arithmetic.Sums.{sum_below-same, sum_below-add, sum_below-scale, sum_below-single}
use Rattle.separation_model.proofs.Arithmetic.Exchange.{here_same, here_other}
use Rattle.separation_model.proofs.Optimum.Positions.{MeetsOver, common_meets, listed, listed_meets, int_at-listed, ends_within, share, share_is}
use Rattle.separation_model.proofs.Optimum.Projection.{dot}
use Rattle.separation_model.proofs.Optimum.Nearest.{Constraint, IsKept, FitsIn, HasBest, best_of}
use Rattle.separation_model.proofs.Gaps.Widest.{narrower_meets}

dot_here : (n k : ℕ) (z : ℤ) (X : ℕ → ℤ) → k < n → dot n (λ i. here k i z) X ≡ z *ℤ X k
dot_here n k z X l =
    sum_below-single n (λ i. here k i z *ℤ X i) k l (λ i m other. ap (λ x. x *ℤ X i) (here_other k i z (λ e. other (sym e))) ∙ omega (arith, ints))
    ∙ ap (λ x. x *ℤ X k) (here_same k k z refl)

abbrev low_limit : List Item → ℕ → Constraint
low_limit items k = record { form = λ i. here k i (pos 1); least = (item_at items k).lo }

abbrev high_limit : List Item → ℕ → Constraint
high_limit items k = record { form = λ i. here k i (negsuc 0); least = pos 0 -ℤ (item_at items k).hi }

abbrev rule_limit : ℤ → Rule → Constraint
rule_limit gap r = record { form = λ i. here r.right i (pos 1) +ℤ here r.left i (negsuc 0); least = asked gap r }

abbrev with_limits : List Item → ℕ → List Constraint → List Constraint
with_limits items zero rest = rest
with_limits items (suc k) rest = low_limit items k ∷ high_limit items k ∷ with_limits items k rest

rule_dot : (n : ℕ) (r : Rule) (X : ℕ → ℤ) → r.left < n → r.right < n → dot n (λ i. here r.right i (pos 1) +ℤ here r.left i (negsuc 0)) X ≡ X r.right -ℤ X r.left
rule_dot n r X l m =
    let to = λ (i : ℕ). here r.right i (pos 1) *ℤ X i in
    let from = λ (i : ℕ). here r.left i (negsuc 0) *ℤ X i in
    let each = sum_below-same n (λ i. (here r.right i (pos 1) +ℤ here r.left i (negsuc 0)) *ℤ X i) (λ i. to i +ℤ from i)
    (λ i k. ring (here r.right i (pos 1) ∷ here r.left i (negsuc 0) ∷ X i ∷ []) ((var 0 ⊕ var 1) ⊗ var 2) ((var 0 ⊗ var 2) ⊕ (var 1 ⊗ var 2)) refl) in
    omega (arith, ints, each, sum_below-add n to from, dot_here n r.right (pos 1) X m, dot_here n r.left (negsuc 0) X l)

abbrev HasEnds : ℕ → Rule → Type 0
HasEnds n r = (r.left < n) × (r.right < n)

rules_kept : (n : ℕ) (gap : ℤ) (rs : List Rule) (d : ℕ) (X : ℕ → ℤ) → All (HasEnds n) rs → All (λ r. (asked gap r *ℤ pos d) ≤ℤ (X r.right -ℤ X r.left)) rs → AllByRecursion (IsKept n d X) (map (rule_limit gap) rs)
rules_kept n gap [] d X e h = tt
rules_kept n gap (r ∷ rs) d X e h =
    let ends = All-head (HasEnds n) r rs e in
    let met = All-head (λ r. (asked gap r *ℤ pos d) ≤ℤ (X r.right -ℤ X r.left)) r rs h in
    (omega (arith, ints, met, rule_dot n r X ends.0 ends.1), rules_kept n gap rs d X (All-tail (HasEnds n) r rs e) (All-tail (λ r. (asked gap r *ℤ pos d) ≤ℤ (X r.right -ℤ X r.left)) r rs h))

rules_back : (n : ℕ) (gap : ℤ) (rs : List Rule) (d : ℕ) (X : ℕ → ℤ) → All (HasEnds n) rs → AllByRecursion (IsKept n d X) (map (rule_limit gap) rs) → All (λ r. (asked gap r *ℤ pos d) ≤ℤ (X r.right -ℤ X r.left)) rs
rules_back n gap [] d X e h = All-nil (λ r. (asked gap r *ℤ pos d) ≤ℤ (X r.right -ℤ X r.left))
rules_back n gap (r ∷ rs) d X e h =
    let ends = All-head (HasEnds n) r rs e in
    All-cons (λ r. (asked gap r *ℤ pos d) ≤ℤ (X r.right -ℤ X r.left)) r rs (omega (arith, ints, h.0, rule_dot n r X ends.0 ends.1)) (rules_back n gap rs d X (All-tail (HasEnds n) r rs e) h.1)

limits_kept : (items : List Item) (k d : ℕ) (X : ℕ → ℤ) (rest : List Constraint) → k ≤ length items → ((i : ℕ) → i < length items → ((item_at items i).lo *ℤ pos d) ≤ℤ X i) → ((i : ℕ) → i < length items → X i ≤ℤ ((item_at items i).hi *ℤ pos d)) →
    AllByRecursion (IsKept (length items) d X) rest → AllByRecursion (IsKept (length items) d X) (with_limits items k rest)
limits_kept items zero d X rest l low high r = r
limits_kept items (suc k) d X rest l low high r =
    let n = length items in
    let turn : (pos 0 -ℤ (item_at items k).hi) *ℤ pos d ≡ pos 0 -ℤ ((item_at items k).hi *ℤ pos d) = ring ((item_at items k).hi ∷ pos d ∷ []) ((num (pos 0) ⊖ var 0) ⊗ var 1) (num (pos 0) ⊖ (var 0 ⊗ var 1)) refl in
    let m : k < n = omega (arith, l) in
    (omega (arith, ints, low k m, dot_here n k (pos 1) X m), (omega (arith, ints, turn, high k m, dot_here n k (negsuc 0) X m), limits_kept items k d X rest (omega (arith, l)) low high r))

limits_rest : (items : List Item) (k d : ℕ) (X : ℕ → ℤ) (rest : List Constraint) → AllByRecursion (IsKept (length items) d X) (with_limits items k rest) → AllByRecursion (IsKept (length items) d X) rest
limits_rest items zero d X rest h = h
limits_rest items (suc k) d X rest h = limits_rest items k d X rest h.1.1

limits_back : (items : List Item) (k d : ℕ) (X : ℕ → ℤ) (rest : List Constraint) → k ≤ length items → AllByRecursion (IsKept (length items) d X) (with_limits items k rest) →
    (i : ℕ) → i < k → (((item_at items i).lo *ℤ pos d) ≤ℤ X i) × (X i ≤ℤ ((item_at items i).hi *ℤ pos d))
limits_back items zero d X rest l h i m = absurd (omega arith)
limits_back items (suc k) d X rest l h i m =
    let n = length items in
    let here_k : k < n = omega (arith, l) in
    let turn : (pos 0 -ℤ (item_at items k).hi) *ℤ pos d ≡ pos 0 -ℤ ((item_at items k).hi *ℤ pos d) = ring ((item_at items k).hi ∷ pos d ∷ []) ((num (pos 0) ⊖ var 0) ⊗ var 1) (num (pos 0) ⊖ (var 0 ⊗ var 1)) refl in
    let P : ℕ → Type 0 = λ i. (((item_at items i).lo *ℤ pos d) ≤ℤ X i) × (X i ≤ℤ ((item_at items i).hi *ℤ pos d)) in
    ⊎_elim
    (λ e. subst P (sym e) (omega (arith, ints, h.0, dot_here n k (pos 1) X here_k), omega (arith, ints, turn, h.1.0, dot_here n k (negsuc 0) X here_k)))
    (λ other. limits_back items k d X rest (omega (arith, l)) h.1.1 i (omega (arith, m, other)))
    (cases_eq i k)

abbrev all_limits : Bundle → ℤ → List Constraint
all_limits b gap = with_limits b.items.items (length b.items.items) (map (rule_limit gap) b.rules.items)

fits_from : (b : Bundle) (gap : ℤ) (d : ℕ) (X : ℕ → ℤ) → IsBundle b → MeetsOver b gap d X → FitsIn (length b.items.items) [] (all_limits b gap) d X
fits_from b gap d X ok m = record {
  positive = m.positive;
  even_all = tt;
  kept_all = limits_kept b.items.items (length b.items.items) d X (map (rule_limit gap) b.rules.items) (omega arith) m.low m.high (rules_kept (length b.items.items) gap b.rules.items d X (λ k o l. ends_within b k o ok l) m.rules);
}

meets_from : (b : Bundle) (gap : ℤ) (d : ℕ) (X : ℕ → ℤ) → IsBundle b → FitsIn (length b.items.items) [] (all_limits b gap) d X → MeetsOver b gap d X
meets_from b gap d X ok f =
    let n = length b.items.items in
    let rest = map (rule_limit gap) b.rules.items in
    record {
      positive = f.positive;
      low = λ i l. (limits_back b.items.items n d X rest (omega arith) f.kept_all i l).0;
      high = λ i l. (limits_back b.items.items n d X rest (omega arith) f.kept_all i l).1;
      rules = rules_back n gap b.rules.items d X (λ k o l. ends_within b k o ok l) (limits_rest b.items.items n d X rest f.kept_all);
    }

-- the sum over a multiple of the denominator
displacement_scaled : (items : List Item) (d s D : ℕ) (X Z : ℕ → ℤ) → s * d ≡ D → ((i : ℕ) → i < length items → Z i ≡ X i *ℤ pos s) → squared_displacement items D Z ≡ square (pos s) *ℤ squared_displacement items d X
displacement_scaled items d s D X Z e z =
    let n = length items in
    let at = λ (i : ℕ). pos (item_at items i).weight *ℤ square (X i -ℤ (pos d *ℤ (item_at items i).want)) in
    sum_below-same n (λ i. pos (item_at items i).weight *ℤ square (Z i -ℤ (pos D *ℤ (item_at items i).want))) (λ i. square (pos s) *ℤ at i)
    (λ i l. ap (λ x. pos (item_at items i).weight *ℤ square (x -ℤ (pos D *ℤ (item_at items i).want))) (z i l)
    ∙ ap (λ x. pos (item_at items i).weight *ℤ square ((X i *ℤ pos s) -ℤ (pos x *ℤ (item_at items i).want))) (sym e)
    ∙ ring (pos (item_at items i).weight ∷ (item_at items i).want ∷ X i ∷ pos s ∷ pos d ∷ [])
    (var 0 ⊗ (((var 2 ⊗ var 3) ⊖ ((var 3 ⊗ var 4) ⊗ var 1)) ⊗ ((var 2 ⊗ var 3) ⊖ ((var 3 ⊗ var 4) ⊗ var 1))))
    ((var 3 ⊗ var 3) ⊗ (var 0 ⊗ ((var 2 ⊖ (var 4 ⊗ var 1)) ⊗ (var 2 ⊖ (var 4 ⊗ var 1))))) refl)
    ∙ sum_below-scale (square (pos s)) n at

best_is_least : (b : Bundle) (gap : ℤ) → IsBundle b → (best : HasBest b.items.items [] (all_limits b gap)) → IsLeast b gap (replicate (length b.items.items) best.den) (listed (length b.items.items) best.point)
best_is_least b gap ok best =
    let items = b.items.items in
    let n = length items in
    let d = best.den in
    let X = best.point in
    let ds = replicate n d in
    let D = product ds in
    let place = listed n X in
    let m = listed_meets b gap d X ok (meets_from b gap d X ok best.fits) in
    record {
      meets = m;
      least = λ q other positive met.
          let G = squared_displacement items q (int_at other) in
          let F = squared_displacement items d X in
          let near = best.best q (int_at other) (fits_from b gap q (int_at other) ok (common_meets b gap q other ok positive met)) in
          ⊎_elim
          (λ some.
          let at : (i : ℕ) → i < n → get_or ds i 0 ≡ d = λ i l. get_or-replicate n i d 0 l in
          let s = D / d in
          let whole : s * d ≡ D = sym (ap (λ x. (D / x) * x) (at 0 some)) ∙ share_is ds 0 m.positive (omega (arith, some, m.dens)) in
          let scaled = displacement_scaled items d s D X (over_product ds place) whole (λ i l. ap (λ x. x *ℤ pos (share ds i)) (int_at-listed n X i l) ∙ ap (λ x. X i *ℤ pos (D / x)) (at i l)) in
          let left : square (pos q) *ℤ squared_displacement items D (over_product ds place) ≡ square (pos s) *ℤ (square (pos q) *ℤ F) =
          ap (λ x. square (pos q) *ℤ x) scaled ∙ ring (pos q ∷ pos s ∷ F ∷ []) ((var 0 ⊗ var 0) ⊗ ((var 1 ⊗ var 1) ⊗ var 2)) ((var 1 ⊗ var 1) ⊗ ((var 0 ⊗ var 0) ⊗ var 2)) refl in
          let right : square (pos D) *ℤ G ≡ square (pos s) *ℤ (square (pos d) *ℤ G) =
          ap (λ x. square (pos x) *ℤ G) (sym whole) ∙ ring (pos s ∷ pos d ∷ G ∷ []) (((var 0 ⊗ var 1) ⊗ (var 0 ⊗ var 1)) ⊗ var 2) ((var 0 ⊗ var 0) ⊗ ((var 1 ⊗ var 1) ⊗ var 2)) refl in
          omega (arith, ints, left, right, mul-mono (square (pos s)) (square (pos q) *ℤ F) (square (pos d) *ℤ G) (omega (arith, ints)) near))
          (λ none.
          let zero_n : n ≡ 0 = omega arith in
          let left : squared_displacement items D (over_product ds place) ≡ pos 0 = ap (λ k. sum_below k (λ i. pos (item_at items i).weight *ℤ square (over_product ds place i -ℤ (pos D *ℤ (item_at items i).want)))) zero_n in
          let right : G ≡ pos 0 = ap (λ k. sum_below k (λ i. pos (item_at items i).weight *ℤ square (int_at other i -ℤ (pos q *ℤ (item_at items i).want)))) zero_n in
          let a : square (pos q) *ℤ squared_displacement items D (over_product ds place) ≡ square (pos q) *ℤ pos 0 = ap (λ x. square (pos q) *ℤ x) left in
          let c : square (pos D) *ℤ G ≡ square (pos D) *ℤ pos 0 = ap (λ x. square (pos D) *ℤ x) right in
          omega (arith, ints, a, c, mul_comm (square (pos q)) (pos 0), mul_comm (square (pos D)) (pos 0)))
          (cases_lt 0 n);
    }

pub least_exist : (b : Bundle) (gap : ℤ) → IsBundle b → IsGap b gap → (den : List ℕ) × (place : List ℤ) × IsLeast b gap den place
least_exist b gap ok is =
    let n = length b.items.items in
    let unit : ℕ = 1 in
    let room = is.is_widest.positions in
    let met = narrower_meets b is.widest gap (replicate n unit) room.places is.not_above room.meets in
    let start = fits_from b gap unit (int_at room.places) ok (common_meets b gap unit room.places ok (omega arith) met) in
    let best = best_of b.items.items (λ i l. ((ok.items i no_item l).weight_low, (ok.items i no_item l).weight_high)) (all_limits b gap) [] unit (int_at room.places) start in
    (replicate n best.den, listed n best.point, best_is_least b gap ok best)
