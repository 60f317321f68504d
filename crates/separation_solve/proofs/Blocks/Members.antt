-- Members of a block.
use Rattle.std.proofs.Common.{◌≡◌, ℕ, Bool, true, false, cond, ℤ, pos, negsuc, ◌≤ℤ◌, Option, Some, None, is_some, unwrap_or, option_map, arith, refl, ap, sym, subst, ◌∙◌}
use Rattle.std.proofs.lemmas.Int.{ints}
use Rattle.std.proofs.lemmas.Bool.{false≢true}
use Rattle.separation_solve.specs.declared.network.Network.{Network}
use Rattle.separation_solve.specs.declared.reach.Reach.{Reach}
use Rattle.separation_solve.specs.Network.{place_at}
use Rattle.separation_solve.specs.Reach.{IsReach, StandsAt, found_at, step_at}
use Rattle.separation_solve.specs.Block.{is_member, member_offset, offset_of}

pub member_is : (r : Reach) (i : ℕ) (off : ℤ) → offset_of r i ≡ Some off → (is_member r i ≡ true) × (member_offset r i ≡ off)
member_is r i off e = (ap is_some e, ap (λ o. unwrap_or o (pos 0)) e)

-- a member has its step
pub record HasStep (r : Reach) (i k : ℕ) : Type 0 where
  pub found : found_at r.found.items i ≡ Some k
  pub offset : member_offset r i ≡ (step_at r.steps.items k).offset

step_of : (r : Reach) (i : ℕ) (o : Option ℕ) → found_at r.found.items i ≡ o → is_member r i ≡ true → (k : ℕ) × HasStep r i k
step_of r i None e m = absurd (false≢true (sym (ap (λ f. is_some (option_map (λ k. (step_at r.steps.items k).offset) f)) e) ∙ m))
step_of r i (Some k) e m = (k, record { found = e; offset = ap (λ f. unwrap_or (option_map (λ k. (step_at r.steps.items k).offset) f) (pos 0)) e })

pub member_step : (r : Reach) (i : ℕ) → is_member r i ≡ true → (k : ℕ) × HasStep r i k
member_step r i m = step_of r i (found_at r.found.items i) refl m

-- a node with a step is a member
pub step_member : (r : Reach) (i k : ℕ) → found_at r.found.items i ≡ Some k → is_member r i ≡ true
step_member r i k e = ap (λ f. is_some (option_map (λ k. (step_at r.steps.items k).offset) f)) e

-- where a member stands
pub record IsPlacedMember (n : Network) (start : ℕ) (r : Reach) (i : ℕ) : Type 0 where
  pub stands : StandsAt (member_offset r i) (place_at n.places.items start) (place_at n.places.items i)
  pub low : negsuc 3999999999 ≤ℤ member_offset r i
  pub high : member_offset r i ≤ℤ pos 4000000000

pub member_place : (n : Network) (start : ℕ) (r : Reach) (i : ℕ) → IsReach n start r → is_member r i ≡ true → IsPlacedMember n start r i
member_place n start r i reach m =
    let step = member_step r i m in
    let found = reach.found i step.0 step.1.found in
    let so = reach.steps step.0 found.0 in
    record {
      stands = subst (λ o. StandsAt o (place_at n.places.items start) (place_at n.places.items i)) (sym step.1.offset)
          (subst (λ j. StandsAt (step_at r.steps.items step.0).offset (place_at n.places.items start) (place_at n.places.items j)) found.1 so.stands);
      low = omega (arith, ints, so.low, step.1.offset);
      high = omega (arith, ints, so.high, step.1.offset);
    }

-- the start is a member
pub start_member : (n : Network) (start : ℕ) (r : Reach) → IsReach n start r → (is_member r start ≡ true) × (found_at r.found.items start ≡ Some 0)
start_member n start r reach =
    let e : found_at r.found.items start ≡ Some 0 = subst (λ j. found_at r.found.items j ≡ Some 0) reach.first (reach.once 0 reach.some) in
    (step_member r start 0 e, e)

-- what a member weighs is not negative
pub weight_sign : (b : Bool) (w : ℕ) → pos 0 ≤ℤ cond b (pos w) (pos 0)
weight_sign true w = omega (arith, ints)
weight_sign false w = omega (arith, ints)
