-- Members of a block that are put to their new places one by one.
use Rattle.std.proofs.Common.{◌≡◌, ℕ, ◌+◌, ◌<◌, false, ℤ, pos, ◌+ℤ◌, ◌*ℤ◌, List, length, set, Some, None, is_some, ⊎_elim, arith, ap, sym, subst, ◌∙◌}
use Rattle.std.proofs.lemmas.Bool.{cases_eq, true≢false}
use Rattle.std.proofs.lemmas.List.{get_or-set_same, get_or-set_other}
use Rattle.std.proofs.Math.ListN.{length-set}
use Rattle.separation_solve.specs.declared.fraction.Fraction.{Fraction}
use Rattle.separation_solve.specs.declared.network.Network.{Network}
use Rattle.separation_solve.specs.declared.reach.Reach.{Reach}
use Rattle.separation_solve.specs.Network.{place_at, no_place}
use Rattle.separation_solve.specs.Block.{ChangesPlaces, PlacesBlock, is_member, member_offset, offset_of}
use Rattle.separation_solve.proofs.Blocks.Members.{member_is}

-- the first items are placed, and nothing but places has changed
pub record SoFarPlaced (old : Network) (r : Reach) (place : Fraction) (items : ℕ) (new : Network) : Type 0 where
  pub placed : PlacesBlock old.places.items items r place new.places.items
  pub rest : ChangesPlaces old new

-- a member is put to its place
pub placed_member : (old new : List Fraction) (items : ℕ) (r : Reach) (place p : Fraction) (off : ℤ) → PlacesBlock old items r place new → items < length new →
    offset_of r items ≡ Some off → p.num ≡ place.num +ℤ (off *ℤ pos place.den) → p.den ≡ place.den → PlacesBlock old (items + 1) r place (set new items p)
placed_member old new items r place p off so h found top bottom =
    let here : place_at (set new items p) items ≡ p = get_or-set_same new items p no_place h in
    let there : (i : ℕ) → (i ≡ items → ⊥) → place_at (set new items p) i ≡ place_at new i = λ i o. get_or-set_other new items i p no_place o in
    let is = member_is r items off found in
    record {
      count = length-set new items p ∙ so.count;
      members = λ i k m. ⊎_elim
          (λ (e : i ≡ items). subst (λ j. place_at (set new items p) j ≡ record { num = place.num +ℤ (member_offset r j *ℤ pos place.den); den = place.den }) (sym e)
          (here ∙ is_place p place (member_offset r items) (top ∙ ap (λ o. place.num +ℤ (o *ℤ pos place.den)) (sym is.1)) bottom))
          (λ (o : i ≡ items → ⊥). there i o ∙ so.members i (omega arith) m)
          (cases_eq i items);
      others = λ i k m. ⊎_elim
          (λ (e : i ≡ items). absurd (true≢false (sym is.0 ∙ ap (is_member r) (sym e) ∙ m)))
          (λ (o : i ≡ items → ⊥). there i o ∙ so.others i (omega arith) m)
          (cases_eq i items);
      beyond = λ i k. there i (λ e. absurd (omega arith)) ∙ so.beyond i (omega arith);
    }
  where
    is_place : (p place : Fraction) (off : ℤ) → p.num ≡ place.num +ℤ (off *ℤ pos place.den) → p.den ≡ place.den → p ≡ record { num = place.num +ℤ (off *ℤ pos place.den); den = place.den }
    is_place p place off e f = λ i. record { num = e i; den = f i }

-- an item that was not reached stays
pub placed_other : (old new : List Fraction) (items : ℕ) (r : Reach) (place : Fraction) → PlacesBlock old items r place new →
    offset_of r items ≡ None → PlacesBlock old (items + 1) r place new
placed_other old new items r place so none =
    let out : is_member r items ≡ false = ap is_some none in
    record {
      count = so.count;
      members = λ i k m. ⊎_elim
          (λ (e : i ≡ items). absurd (true≢false (sym m ∙ ap (is_member r) e ∙ out)))
          (λ (o : i ≡ items → ⊥). so.members i (omega arith) m)
          (cases_eq i items);
      others = λ i k m. ⊎_elim
          (λ (e : i ≡ items). so.beyond i (omega arith))
          (λ (o : i ≡ items → ⊥). so.others i (omega arith) m)
          (cases_eq i items);
      beyond = λ i k. so.beyond i (omega arith);
    }
