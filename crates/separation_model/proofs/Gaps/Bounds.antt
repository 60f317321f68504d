-- Latest places: each bounds all fractions from the right, and the rules that were taken hold.
use Rattle.std.proofs.Common.{◌≡◌, ◌≢◌, ℕ, ◌+◌, ◌-◌, ◌^◌, ◌<◌, ◌≤◌, ℤ, pos, ◌+ℤ◌, ◌-ℤ◌, ◌*ℤ◌, ◌≤ℤ◌, ◌<ℤ◌, List, [], ◌∷◌, length, get_or, map, set, replicate, All, ap, sym, subst, refl, ◌∙◌, ⊎_elim, arith, length-set, get_or-set_same, get_or-set_other}
use Rattle.std.specs.Prelude.{slice_index}
use Rattle.std.specs.List.Sorted.{IsPermutation, IsNonDecreasingBy}
use Rattle.std.proofs.Math.ListN.{get_or-map}
use Rattle.std.proofs.lemmas.Int.{ints}
use Rattle.std.proofs.lemmas.Bool.{cases_eq, cond_both}
use Rattle.std.proofs.lemmas.List.{get_or-replicate, length-map, length-replicate}
use Rattle.std.proofs.lemmas.List.Elements.{All-get_or, All-replicate, All-from_get_or}
use Rattle.std.proofs.lemmas.List.Sorted.{All-permutation, IsPermutation-sym}
use Rattle.separation_model.specs.declared.bundle.Rule.{Rule}
use Rattle.separation_model.specs.declared.bundle.Item.{Item}
use Rattle.separation_model.specs.declared.bundle.Bundle.{Bundle}
use Rattle.plane_geom.specs.Point.{IsCoordinate}
use Rattle.separation_model.specs.Bundle.{IsBundle, IsRule, MeetsBundle, item_at, rule_at, int_at, slack, asked, no_item, no_rule}
use Rattle.separation_model.specs.Latest.{IsLatest, IsNoneBeyond, HasNoPositions, IsRuleKept}
use Rattle.separation_model.proofs.Arithmetic.Ring.{ring, var, num, ◌⊕◌, ◌⊗◌, ◌⊖◌, mul_comm}
use Rattle.separation_model.proofs.Arithmetic.Order.{mul-mono, cancel_le}

-- the places hold each of the rules from the j-th on, and no fractions stand right of them
pub record IsBound (b : Bundle) (gap : ℤ) (rs : List Rule) (j : ℕ) (places : List ℤ) : Type 0 where
  pub len : length places ≡ length b.items.items
  pub low : (i : ℕ) → i < length b.items.items → (item_at b.items.items i).lo ≤ℤ int_at places i
  pub high : (i : ℕ) → i < length b.items.items → int_at places i ≤ℤ (item_at b.items.items i).hi
  pub met : (k : ℕ) → j ≤ k → k < length rs → IsRuleKept gap places (rule_at rs k)
  pub beyond : IsNoneBeyond b gap places

-- the rules are the bundle's, by their left items
pub record IsByLeft (b : Bundle) (rs : List Rule) : Type 0 where
  pub same : IsPermutation b.rules.items rs
  pub sorted : IsNonDecreasingBy (λ (r : Rule). r.left) rs

rule_in : (b : Bundle) (rs : List Rule) (j : ℕ) → IsBundle b → IsByLeft b rs → j < length rs → IsRule b.items.items (rule_at rs j)
rule_in b rs j ok by l = All-permutation (IsRule b.items.items) b.rules.items rs by.same ok.rules j no_rule l

-- each at its upper limit
pub bound_none : (b : Bundle) (gap : ℤ) (rs : List Rule) (places : List ℤ) → IsBundle b → places ≡ map (λ (item : Item). item.hi) b.items.items → IsBound b gap rs (length rs) places
bound_none b gap rs places ok is =
    let at : (i : ℕ) → int_at places i ≡ (item_at b.items.items i).hi = λ i. ap (λ zs. int_at zs i) is ∙ get_or-map (λ (item : Item). item.hi) b.items.items i no_item in
    let len : length places ≡ length b.items.items = ap length is ∙ length-map b.items.items (λ (item : Item). item.hi) in
    record {
      len = len;
      low = λ i l. let item = ok.items i no_item l in omega (arith, ints, at i, item.want_low, item.want_high);
      high = λ i l. omega (arith, ints, at i);
      met = λ k h l. absurd (omega arith);
      beyond = λ den place m i l.
          let within : i < length b.items.items = omega arith in
          subst (λ z. int_at place i ≤ℤ (z *ℤ pos (slice_index den i))) (sym (at i)) (m.limits i within).high;
    }

-- a rule carries a bound of its right item over to its left one
carried : (pl pr a bound : ℤ) (dl dr : ℕ) → 0 < dr → pos 0 ≤ℤ ((pr *ℤ pos dl) -ℤ (pl *ℤ pos dr) -ℤ (a *ℤ pos dl *ℤ pos dr)) → pr ≤ℤ (bound *ℤ pos dr) → pl ≤ℤ ((bound -ℤ a) *ℤ pos dl)
carried pl pr a bound dl dr positive h k =
    let e : pos dr *ℤ ((bound -ℤ a) *ℤ pos dl) ≡ (pos dl *ℤ (bound *ℤ pos dr)) -ℤ (a *ℤ pos dl *ℤ pos dr) =
    ring (pos dl ∷ pos dr ∷ a ∷ bound ∷ []) (var 1 ⊗ ((var 3 ⊖ var 2) ⊗ var 0)) ((var 0 ⊗ (var 3 ⊗ var 1)) ⊖ (var 2 ⊗ var 0 ⊗ var 1)) refl in
    cancel_le dr pl ((bound -ℤ a) *ℤ pos dl) positive
    (omega (arith, ints, e, h, mul-mono (pos dl) pr (bound *ℤ pos dr) (omega (arith, ints)) k, mul_comm pr (pos dl), mul_comm pl (pos dr)))

beyond_left : (b : Bundle) (gap : ℤ) (rs : List Rule) (j : ℕ) (places : List ℤ) (den : List ℕ) (place : List ℤ) → IsBundle b → IsByLeft b rs → j < length rs → length places ≡ length b.items.items → IsNoneBeyond b gap places → MeetsBundle b gap den place →
    int_at place (rule_at rs j).left ≤ℤ ((int_at places (rule_at rs j).right -ℤ asked gap (rule_at rs j)) *ℤ pos (slice_index den (rule_at rs j).left))
beyond_left b gap rs j places den place ok by l len beyond m =
    let r = rule_at rs j in
    let is = rule_in b rs j ok by l in
    let room = All-permutation (λ rule. pos 0 ≤ℤ slack gap den place rule) b.rules.items rs by.same m.rules j no_rule l in
    carried (int_at place r.left) (int_at place r.right) (asked gap r) (int_at places r.right) (slice_index den r.left) (slice_index den r.right)
    (All-get_or (λ d. 0 < d) den r.right 0 (omega (arith, is.within, m.dens)) m.positive) room (beyond den place m r.right (omega (arith, is.within, len)))

-- a bound left of the item's limit: nothing meets the bundle
pub no_room : (b : Bundle) (gap : ℤ) (rs : List Rule) (j : ℕ) (places : List ℤ) → IsBundle b → IsByLeft b rs → j < length rs → IsBound b gap rs (j + 1) places →
    (int_at places (rule_at rs j).right -ℤ asked gap (rule_at rs j)) <ℤ (item_at b.items.items (rule_at rs j).left).lo → HasNoPositions b gap
no_room b gap rs j places ok by l bound below den place m =
    let r = rule_at rs j in
    let is = rule_in b rs j ok by l in
    let within : r.left < length b.items.items = omega (arith, is.forward, is.within) in
    let d = slice_index den r.left in
    let positive : 0 < d = All-get_or (λ d. 0 < d) den r.left 0 (omega (arith, within, m.dens)) m.positive in
    let most = int_at places r.right -ℤ asked gap r in
    let lo = (item_at b.items.items r.left).lo in
    let step : (pos d *ℤ (most +ℤ pos 1)) ≤ℤ (pos d *ℤ lo) = mul-mono (pos d) (most +ℤ pos 1) lo (omega (arith, ints)) (omega (arith, ints, below)) in
    let e : pos d *ℤ (most +ℤ pos 1) ≡ (most *ℤ pos d) +ℤ pos d = ring (pos d ∷ most ∷ []) (var 0 ⊗ (var 1 ⊕ num (pos 1))) ((var 1 ⊗ var 0) ⊕ var 0) refl in
    omega (arith, ints, step, e, positive, mul_comm (pos d) lo, (m.limits r.left within).low, beyond_left b gap rs j places den place ok by l bound.len bound.beyond m)

-- the rule holds already
pub bound_kept : (b : Bundle) (gap : ℤ) (rs : List Rule) (j : ℕ) (places : List ℤ) → IsBound b gap rs (j + 1) places →
    int_at places (rule_at rs j).left ≤ℤ (int_at places (rule_at rs j).right -ℤ asked gap (rule_at rs j)) → IsBound b gap rs j places
bound_kept b gap rs j places bound h = record {
  len = bound.len;
  low = bound.low;
  high = bound.high;
  met = λ k from l. ⊎_elim (λ e. subst (λ k. (int_at places (rule_at rs k).left +ℤ asked gap (rule_at rs k)) ≤ℤ int_at places (rule_at rs k).right) e (omega (arith, ints, h))) (λ n. bound.met k (omega (arith, n)) l) (cases_eq j k);
  beyond = bound.beyond;
}

-- the left item moves
pub bound_moved : (b : Bundle) (gap : ℤ) (rs : List Rule) (j : ℕ) (places : List ℤ) (z : ℤ) → IsBundle b → IsByLeft b rs → j < length rs → IsBound b gap rs (j + 1) places →
    z ≡ int_at places (rule_at rs j).right -ℤ asked gap (rule_at rs j) → (item_at b.items.items (rule_at rs j).left).lo ≤ℤ z → z <ℤ int_at places (rule_at rs j).left → IsBound b gap rs j (set places (rule_at rs j).left z)
bound_moved b gap rs j places z ok by l bound is_z low less =
    let r = rule_at rs j in
    let is = rule_in b rs j ok by l in
    let within : r.left < length b.items.items = omega (arith, is.forward, is.within) in
    let at_left : r.left < length places = omega (arith, within, bound.len) in
    let moved = set places r.left z in
    let same : int_at moved r.left ≡ z = get_or-set_same places r.left z (pos 0) at_left in
    let other = λ (i : ℕ) (n : i ≢ r.left). get_or-set_other places r.left i z (pos 0) n in
    let below : (i : ℕ) → int_at moved i ≤ℤ int_at places i = λ i. ⊎_elim
    (λ e. subst (λ i. int_at moved i ≤ℤ int_at places i) (sym e) (omega (arith, ints, same, less)))
    (λ n. omega (arith, ints, other i n)) (cases_eq i r.left) in
    record {
      len = length-set places r.left z ∙ bound.len;
      low = λ i m. ⊎_elim
          (λ e. subst (λ i. (item_at b.items.items i).lo ≤ℤ int_at moved i) (sym e) (omega (arith, ints, same, low)))
          (λ n. omega (arith, ints, other i n, bound.low i m)) (cases_eq i r.left);
      high = λ i m. omega (arith, ints, below i, bound.high i m);
      met = λ k from m. ⊎_elim
          (λ e. subst (λ k. (int_at moved (rule_at rs k).left +ℤ asked gap (rule_at rs k)) ≤ℤ int_at moved (rule_at rs k).right) e
          (omega (arith, ints, same, is_z, other r.right (omega (arith, is.forward)))))
          (λ n. let q = rule_at rs k in
          let q_is = rule_in b rs k ok by m in
          let up : r.left ≤ q.left = by.sorted j k no_rule from m in
          omega (arith, ints, bound.met k (omega (arith, n)) m, below q.left, other q.right (omega (arith, up, q_is.forward))))
          (cases_eq j k);
      beyond = λ den place m i in'. ⊎_elim
          (λ e. subst (λ i. int_at place i ≤ℤ (int_at moved i *ℤ pos (slice_index den i))) (sym e)
          (subst (λ x. int_at place r.left ≤ℤ (x *ℤ pos (slice_index den r.left))) (sym (same ∙ is_z)) (beyond_left b gap rs j places den place ok by l bound.len bound.beyond m)))
          (λ n. subst (λ x. int_at place i ≤ℤ (x *ℤ pos (slice_index den i))) (sym (other i n)) (bound.beyond den place m i (omega (arith, in', length-set places r.left z))))
          (cases_eq i r.left);
    }

-- all rules taken
pub bound_all : (b : Bundle) (gap : ℤ) (rs : List Rule) (places : List ℤ) → IsBundle b → IsByLeft b rs → IsBound b gap rs 0 places → IsLatest b gap places
bound_all b gap rs places ok by bound =
    let n = length b.items.items in
    let unit : ℕ = 1 in
    let ones : List ℕ = replicate n unit in
    let one : (i : ℕ) → i < n → get_or ones i 0 ≡ unit = λ i l. get_or-replicate n i unit 0 l in
    let at_rs : All (λ r. pos 0 ≤ℤ slack gap ones places r) rs = All-from_get_or (λ r. pos 0 ≤ℤ slack gap ones places r) rs no_rule (λ k l.
    let r = rule_at rs k in
    let is = rule_in b rs k ok by l in
    rw (one r.left (omega (arith, is.forward, is.within)), one r.right is.within) (omega (arith, ints, bound.met k (omega arith) l))) in
    record {
      meets = record {
        dens = length-replicate n 1;
        places = bound.len;
        positive = All-replicate (λ d. 0 < d) n 1 (omega arith);
        limits = λ i l. rw (one i l) (record { low = omega (arith, ints, bound.low i l); high = omega (arith, ints, bound.high i l) });
        rules = All-permutation (λ r. pos 0 ≤ℤ slack gap ones places r) rs b.rules.items (IsPermutation-sym b.rules.items rs by.same) at_rs;
      };
      none_beyond = bound.beyond;
    }

pub asked_within : (gap : ℤ) (rule : Rule) → pos 0 ≤ℤ gap → gap ≤ℤ pos 1000000 → (pos 0 ≤ℤ asked gap rule) × (asked gap rule ≤ℤ pos 1000000)
asked_within gap rule low high =
    let P : ℤ → Type 0 = λ z. (pos 0 ≤ℤ z) × (z ≤ℤ pos 1000000) in
    cond_both rule.spaced gap (pos 0) P (λ e. (low, high)) (λ e. (omega (arith, ints), omega (arith, ints)))

pub place_within : (b : Bundle) (gap : ℤ) (rs : List Rule) (j : ℕ) (places : List ℤ) (i : ℕ) → IsBundle b → IsBound b gap rs j places → i < length b.items.items → IsCoordinate (int_at places i)
place_within b gap rs j places i ok bound l =
    let item = ok.items i no_item l in
    record { low = omega (arith, ints, item.lo.low, bound.low i l); high = omega (arith, ints, item.hi.high, bound.high i l) }

-- what a step of the loop knows: it takes the rule before the n-th
pub record IsBoundStep (b : Bundle) (gap : ℤ) (rs : List Rule) (n : ℕ) (places : List ℤ) : Type 0 where
  pub by_left : IsByLeft b rs
  pub before : n - 1 < length rs
  pub bound : IsBound b gap rs (n - 1 + 1) places
  pub left : (rule_at rs (n - 1)).left < length places
  pub right : (rule_at rs (n - 1)).right < length places
  pub item : (rule_at rs (n - 1)).left < length b.items.items
  pub fits : (rule_at rs (n - 1)).right < 2 ^ 64
  pub place : IsCoordinate (int_at places (rule_at rs (n - 1)).right)
  pub left_place : IsCoordinate (int_at places (rule_at rs (n - 1)).left)
  pub lo : IsCoordinate (item_at b.items.items (rule_at rs (n - 1)).left).lo
  pub asked_low : pos 0 ≤ℤ asked gap (rule_at rs (n - 1))
  pub asked_high : asked gap (rule_at rs (n - 1)) ≤ℤ pos 1000000

pub bound_step : (b : Bundle) (gap : ℤ) (rs : List Rule) (n : ℕ) (places : List ℤ) → IsBundle b → IsPermutation b.rules.items rs → IsNonDecreasingBy (λ (r : Rule). r.left) rs → 0 < n → n ≤ length rs →
    pos 0 ≤ℤ gap → gap ≤ℤ pos 1000000 → IsBound b gap rs n places → IsBoundStep b gap rs n places
bound_step b gap rs n places ok same sorted some most low high bound =
    let j = n - 1 in
    let by : IsByLeft b rs = record { same = same; sorted = sorted } in
    let l : j < length rs = omega (arith, some, most) in
    let is = rule_in b rs j ok by l in
    let within : (rule_at rs j).left < length b.items.items = omega (arith, is.forward, is.within) in
    let asks = asked_within gap (rule_at rs j) low high in
    record {
      by_left = by;
      before = l;
      bound = subst (λ k. IsBound b gap rs k places) (omega (arith, some)) bound;
      left = omega (arith, within, bound.len);
      right = omega (arith, is.within, bound.len);
      item = within;
      fits = omega (arith, is.within, ok.few);
      place = place_within b gap rs n places (rule_at rs j).right ok bound is.within;
      left_place = place_within b gap rs n places (rule_at rs j).left ok bound within;
      lo = (ok.items (rule_at rs j).left no_item within).lo;
      asked_low = asks.0;
      asked_high = asks.1;
    }
