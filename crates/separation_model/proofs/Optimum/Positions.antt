-- Weak duality: positions of a bundle over one common denominator.
use Rattle.std.proofs.Common.{◌≡◌, ℕ, zero, suc, ◌*◌, ◌/◌, ◌<◌, ℤ, pos, negsuc, ◌-ℤ◌, ◌*ℤ◌, ◌≤ℤ◌, List, [], ◌∷◌, length, get_or, map, replicate, All, ap, sym, subst, refl, ◌∙◌, arith}
use Rattle.std.specs.List.{range_with_len}
use Rattle.std.specs.Prelude.{slice_index, slice_index_or}
use Rattle.std.proofs.lemmas.Int.{ints}
use Rattle.std.proofs.Math.Nat.{mul-div_cancel}
use Rattle.std.proofs.lemmas.List.{length-replicate, get_or-replicate}
use Rattle.std.proofs.lemmas.List.FromFn.{length-map-range_with_len, get_or-map-range_with_len}
use Rattle.std.proofs.lemmas.List.Elements.{All-head, All-tail, All-get_or, All-replicate}
use Rattle.separation_model.specs.declared.bundle.Item.{Item}
use Rattle.separation_model.specs.declared.bundle.Rule.{Rule}
use Rattle.separation_model.specs.Apart.{FractionIsOnSheet}
use Rattle.separation_model.specs.declared.bundle.Bundle.{Bundle}
use Rattle.separation_model.specs.Sum.{product}
use Rattle.separation_model.specs.Bundle.{IsBundle, IsItem, IsWithinLimits, MeetsBundle, item_at, int_at, asked}
use Rattle.separation_model.specs.Least.{over_product}
use Rattle.separation_model.proofs.Arithmetic.Ring.{ring, var, num, ◌⊗◌, ◌⊖◌, mul_comm}
use Rattle.separation_model.proofs.Arithmetic.Order.{nat_mul_positive, mul-nonneg, mul-mono, cancel_nonneg, cancel}

-- the points X i / d meet the bundle
pub record MeetsOver (b : Bundle) (gap : ℤ) (d : ℕ) (X : ℕ → ℤ) : Type 0 where
  pub positive : 0 < d
  pub low : (i : ℕ) → i < length b.items.items → ((item_at b.items.items i).lo *ℤ pos d) ≤ℤ X i
  pub high : (i : ℕ) → i < length b.items.items → X i ≤ℤ ((item_at b.items.items i).hi *ℤ pos d)
  pub rules : All (λ r. (asked gap r *ℤ pos d) ≤ℤ (X r.right -ℤ X r.left)) b.rules.items

-- within the limits of an item is on the sheet
pub limits_on_sheet : (item : Item) (den : ℕ) (place : ℤ) → IsItem item → 0 < den → IsWithinLimits item den place → FractionIsOnSheet den place
limits_on_sheet item den place ok some within = record {
  positive = some;
  low = omega (arith, ints, within.low, mul_comm (pos den) item.lo, mul_comm (pos den) (negsuc 1999999999), mul-mono (pos den) (negsuc 1999999999) item.lo (omega (arith, ints)) ok.lo.low);
  high = omega (arith, ints, within.high, mul_comm (pos den) item.hi, mul_comm (pos den) (pos 2000000000), mul-mono (pos den) item.hi (pos 2000000000) (omega (arith, ints)) ok.hi.high);
}

-- both items of a rule are in the bundle
pub ends_within : (b : Bundle) (k : ℕ) (d : Rule) → IsBundle b → k < length b.rules.items →
    let r = slice_index_or b.rules.items k d in (r.left < length b.items.items) × (r.right < length b.items.items)
ends_within b k d ok l = let r = ok.rules k d l in (omega (arith, r.forward, r.within), r.within)

pub product-positive : (ds : List ℕ) → All (λ d. 0 < d) ds → 0 < product ds
product-positive [] h = omega arith
product-positive (d ∷ ds) h =
    nat_mul_positive d (product ds) (All-head (λ d. 0 < d) d ds h) (product-positive ds (All-tail (λ d. 0 < d) d ds h))

-- the product of the others
product-multiple : (ds : List ℕ) (i : ℕ) → i < length ds → (k : ℕ) × (product ds ≡ k * get_or ds i 0)
product-multiple [] i l = absurd (omega arith)
product-multiple (d ∷ ds) zero l = (product ds, omega arith)
product-multiple (d ∷ ds) (suc i) l =
    let rest = product-multiple ds i (omega arith) in
    (d * rest.0, omega (arith, ap (λ x. d * x) rest.1))

-- what a denominator lacks of the product
abbrev pub share : List ℕ → ℕ → ℕ
share ds i = product ds / slice_index ds i

pub share_is : (ds : List ℕ) (i : ℕ) → All (λ d. 0 < d) ds → i < length ds → share ds i * get_or ds i 0 ≡ product ds
share_is ds i h l =
    let m = product-multiple ds i l in
    let d : 0 < get_or ds i 0 = All-get_or (λ d. 0 < d) ds i 0 l h in
    let e : product ds / get_or ds i 0 ≡ m.0 = ap (λ x. x / get_or ds i 0) m.1 ∙ mul-div_cancel m.0 d in
    ap (λ x. x * get_or ds i 0) e ∙ sym m.1

positive_left : (a b : ℕ) → 0 < a * b → 0 < a
positive_left zero b h = absurd (omega arith)
positive_left (suc a) b h = omega arith

pub share_positive : (ds : List ℕ) (i : ℕ) → All (λ d. 0 < d) ds → i < length ds → 0 < share ds i
share_positive ds i h l = positive_left (share ds i) (get_or ds i 0) (omega (arith, share_is ds i h l, product-positive ds h))

scaled_low : (lo p : ℤ) (d t D : ℕ) → t * d ≡ D → (lo *ℤ pos d) ≤ℤ p → (lo *ℤ pos D) ≤ℤ (p *ℤ pos t)
scaled_low lo p d t D e h =
    let f : lo *ℤ pos D ≡ pos t *ℤ (lo *ℤ pos d) =
    ap (λ x. lo *ℤ pos x) (sym e) ∙ ring (lo ∷ pos t ∷ pos d ∷ []) (var 0 ⊗ (var 1 ⊗ var 2)) (var 1 ⊗ (var 0 ⊗ var 2)) refl in
    omega (arith, ints, f, mul-mono (pos t) (lo *ℤ pos d) p (omega (arith, ints)) h, mul_comm p (pos t))

scaled_high : (hi p : ℤ) (d t D : ℕ) → t * d ≡ D → p ≤ℤ (hi *ℤ pos d) → (p *ℤ pos t) ≤ℤ (hi *ℤ pos D)
scaled_high hi p d t D e h =
    let f : hi *ℤ pos D ≡ pos t *ℤ (hi *ℤ pos d) =
    ap (λ x. hi *ℤ pos x) (sym e) ∙ ring (hi ∷ pos t ∷ pos d ∷ []) (var 0 ⊗ (var 1 ⊗ var 2)) (var 1 ⊗ (var 0 ⊗ var 2)) refl in
    omega (arith, ints, f, mul-mono (pos t) p (hi *ℤ pos d) (omega (arith, ints)) h, mul_comm p (pos t))

scaled_slack : (a pl pr : ℤ) (dl dr sl sr D : ℕ) → sl * dl ≡ D → sr * dr ≡ D →
    (pos sl *ℤ pos sr) *ℤ ((pr *ℤ pos dl) -ℤ (pl *ℤ pos dr) -ℤ (a *ℤ pos dl *ℤ pos dr)) ≡
    pos D *ℤ (((pr *ℤ pos sr) -ℤ (pl *ℤ pos sl)) -ℤ (a *ℤ pos D))
scaled_slack a pl pr dl dr sl sr D e f =
    let left : pos sl *ℤ pos dl ≡ pos D = ap pos e in
    let right : pos sr *ℤ pos dr ≡ pos D = ap pos f in
    ring (a ∷ pl ∷ pr ∷ pos dl ∷ pos dr ∷ pos sl ∷ pos sr ∷ [])
    ((var 5 ⊗ var 6) ⊗ ((var 2 ⊗ var 3) ⊖ (var 1 ⊗ var 4) ⊖ (var 0 ⊗ var 3 ⊗ var 4)))
    (((var 5 ⊗ var 3) ⊗ (var 2 ⊗ var 6)) ⊖ ((var 6 ⊗ var 4) ⊗ (var 1 ⊗ var 5)) ⊖ ((var 5 ⊗ var 3) ⊗ (var 0 ⊗ (var 6 ⊗ var 4))))
    refl
    ∙ ap (λ x. (x *ℤ (pr *ℤ pos sr)) -ℤ ((pos sr *ℤ pos dr) *ℤ (pl *ℤ pos sl)) -ℤ (x *ℤ (a *ℤ (pos sr *ℤ pos dr)))) left
    ∙ ap (λ x. (pos D *ℤ (pr *ℤ pos sr)) -ℤ (x *ℤ (pl *ℤ pos sl)) -ℤ (pos D *ℤ (a *ℤ x))) right
    ∙ ring (pos D ∷ (pr *ℤ pos sr) ∷ (pl *ℤ pos sl) ∷ a ∷ []) ((var 0 ⊗ var 1) ⊖ (var 0 ⊗ var 2) ⊖ (var 0 ⊗ (var 3 ⊗ var 0))) (var 0 ⊗ ((var 1 ⊖ var 2) ⊖ (var 3 ⊗ var 0))) refl

scaled_rule : (a pl pr : ℤ) (dl dr sl sr D : ℕ) → 0 < D → sl * dl ≡ D → sr * dr ≡ D →
    pos 0 ≤ℤ ((pr *ℤ pos dl) -ℤ (pl *ℤ pos dr) -ℤ (a *ℤ pos dl *ℤ pos dr)) → (a *ℤ pos D) ≤ℤ ((pr *ℤ pos sr) -ℤ (pl *ℤ pos sl))
scaled_rule a pl pr dl dr sl sr D p e f h =
    let s = (pr *ℤ pos dl) -ℤ (pl *ℤ pos dr) -ℤ (a *ℤ pos dl *ℤ pos dr) in
    let z = ((pr *ℤ pos sr) -ℤ (pl *ℤ pos sl)) -ℤ (a *ℤ pos D) in
    let t : pos 0 ≤ℤ ((pos sl *ℤ pos sr) *ℤ s) = mul-nonneg (pos sl *ℤ pos sr) s (omega (arith, ints)) h in
    let g : pos 0 ≤ℤ z = cancel_nonneg D z p (omega (arith, ints, t, scaled_slack a pl pr dl dr sl sr D e f)) in
    omega (arith, ints, g)

pub scaled_tight : (a pl pr : ℤ) (dl dr sl sr D : ℕ) → 0 < D → sl * dl ≡ D → sr * dr ≡ D →
    (pr *ℤ pos dl) -ℤ (pl *ℤ pos dr) -ℤ (a *ℤ pos dl *ℤ pos dr) ≡ pos 0 → (pr *ℤ pos sr) -ℤ (pl *ℤ pos sl) ≡ a *ℤ pos D
scaled_tight a pl pr dl dr sl sr D p e f h =
    let z = ((pr *ℤ pos sr) -ℤ (pl *ℤ pos sl)) -ℤ (a *ℤ pos D) in
    let g : pos D *ℤ z ≡ pos D *ℤ pos 0 =
    sym (scaled_slack a pl pr dl dr sl sr D e f) ∙ ap (λ x. (pos sl *ℤ pos sr) *ℤ x) h ∙ ring (pos sl ∷ pos sr ∷ pos D ∷ []) ((var 0 ⊗ var 1) ⊗ num (pos 0)) (var 2 ⊗ num (pos 0)) refl in
    omega (arith, ints, cancel D z (pos 0) p g)

-- positions over any denominators, over their product
pub over_product_meets : (b : Bundle) (gap : ℤ) (den : List ℕ) (place : List ℤ) → IsBundle b → MeetsBundle b gap den place →
    MeetsOver b gap (product den) (over_product den place)
over_product_meets b gap den place ok m =
    let share_at = λ (i : ℕ) (l : i < length b.items.items). share_is den i m.positive (omega (arith, m.dens, l)) in
    record {
      positive = product-positive den m.positive;
      low = λ i l. scaled_low (item_at b.items.items i).lo (int_at place i) (get_or den i 0) (share den i) (product den) (share_at i l) (m.limits i l).low;
      high = λ i l. scaled_high (item_at b.items.items i).hi (int_at place i) (get_or den i 0) (share den i) (product den) (share_at i l) (m.limits i l).high;
      rules = λ k d l.
          let r = slice_index_or b.rules.items k d in
          let e = ends_within b k d ok l in
          scaled_rule (asked gap r) (int_at place r.left) (int_at place r.right) (get_or den r.left 0) (get_or den r.right 0) (share den r.left) (share den r.right) (product den)
          (product-positive den m.positive) (share_at r.left e.0) (share_at r.right e.1) (m.rules k d l);
    }

-- positions over one denominator
pub common_meets : (b : Bundle) (gap : ℤ) (q : ℕ) (place : List ℤ) → IsBundle b → 0 < q → MeetsBundle b gap (replicate (length b.items.items) q) place →
    MeetsOver b gap q (int_at place)
common_meets b gap q place ok p m =
    let n = length b.items.items in
    let den_at = λ (i : ℕ) (l : i < n). get_or-replicate n i q 0 l in
    record {
      positive = p;
      low = λ i l. let e = den_at i l in let h = (m.limits i l).low in rw e at h;
      high = λ i l. let e = den_at i l in let h = (m.limits i l).high in rw e at h;
      rules = λ k d l.
          let r = slice_index_or b.rules.items k d in
          let e = ends_within b k d ok l in
          let P : ℕ → ℕ → Type 0 = λ x y. pos 0 ≤ℤ ((int_at place r.right *ℤ pos x) -ℤ (int_at place r.left *ℤ pos y) -ℤ (asked gap r *ℤ pos x *ℤ pos y)) in
          let h : P q q = subst (P q) (den_at r.right e.1) (subst (λ x. P x (get_or (replicate n q) r.right 0)) (den_at r.left e.0) (m.rules k d l)) in
          let z = (int_at place r.right -ℤ int_at place r.left) -ℤ (asked gap r *ℤ pos q) in
          let f : pos q *ℤ z ≡ (int_at place r.right *ℤ pos q) -ℤ (int_at place r.left *ℤ pos q) -ℤ (asked gap r *ℤ pos q *ℤ pos q) =
          ring (pos q ∷ int_at place r.right ∷ int_at place r.left ∷ asked gap r ∷ []) (var 0 ⊗ ((var 1 ⊖ var 2) ⊖ (var 3 ⊗ var 0))) ((var 1 ⊗ var 0) ⊖ (var 2 ⊗ var 0) ⊖ (var 3 ⊗ var 0 ⊗ var 0)) refl in
          let g : pos 0 ≤ℤ z = cancel_nonneg q z p (omega (arith, ints, f, h)) in
          omega (arith, ints, g);
    }

-- the numbers of a function below n
abbrev pub listed : ℕ → (ℕ → ℤ) → List ℤ
listed n X = map X (range_with_len 0 n)

pub int_at-listed : (n : ℕ) (X : ℕ → ℤ) (i : ℕ) → i < n → int_at (listed n X) i ≡ X i
int_at-listed n X i l = get_or-map-range_with_len X 0 n i i (pos 0) l (omega arith)

-- and back
pub listed_meets : (b : Bundle) (gap : ℤ) (d : ℕ) (X : ℕ → ℤ) → IsBundle b → MeetsOver b gap d X →
    MeetsBundle b gap (replicate (length b.items.items) d) (listed (length b.items.items) X)
listed_meets b gap d X ok m =
    let n = length b.items.items in
    record {
      dens = length-replicate n d;
      places = length-map-range_with_len X 0 n;
      positive = All-replicate (λ d. 0 < d) n d m.positive;
      limits = λ i l.
          let e = get_or-replicate n i d 0 l in
          let f = int_at-listed n X i l in
          record { low = rw (e, f) (m.low i l); high = rw (e, f) (m.high i l) };
      rules = λ k o l.
          let r = slice_index_or b.rules.items k o in
          let e = ends_within b k o ok l in
          let P : ℕ → ℕ → ℤ → ℤ → Type 0 = λ x y u v. pos 0 ≤ℤ ((v *ℤ pos x) -ℤ (u *ℤ pos y) -ℤ (asked gap r *ℤ pos x *ℤ pos y)) in
          let z = (X r.right -ℤ X r.left) -ℤ (asked gap r *ℤ pos d) in
          let f : pos d *ℤ z ≡ (X r.right *ℤ pos d) -ℤ (X r.left *ℤ pos d) -ℤ (asked gap r *ℤ pos d *ℤ pos d) =
          ring (pos d ∷ X r.right ∷ X r.left ∷ asked gap r ∷ []) (var 0 ⊗ ((var 1 ⊖ var 2) ⊖ (var 3 ⊗ var 0))) ((var 1 ⊗ var 0) ⊖ (var 2 ⊗ var 0) ⊖ (var 3 ⊗ var 0 ⊗ var 0)) refl in
          let z_low : pos 0 ≤ℤ z = omega (arith, ints, m.rules k o l) in
          let h : P d d (X r.left) (X r.right) = omega (arith, ints, f, mul-nonneg (pos d) z (omega (arith, ints)) z_low) in
          rw (get_or-replicate n r.left d 0 e.0, get_or-replicate n r.right d 0 e.1, int_at-listed n X r.left e.0, int_at-listed n X r.right e.1) h;
    }
