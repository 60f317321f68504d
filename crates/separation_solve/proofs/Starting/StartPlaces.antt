-- Whole places between the latest ones and the wants keep all links.
use Rattle.std.proofs.Common.{◌≡◌, ℕ, ◌+◌, ◌<◌, ℤ, pos, ◌+ℤ◌, ◌-ℤ◌, ◌*ℤ◌, ◌≤ℤ◌, List, [], ◌∷◌, ◌++◌, length, get_or, map, length-append, ◌-◌, All, arith, ap, sym, subst, ◌∙◌, ⊎_elim}
use Rattle.std.specs.Int.{int_min}
use Rattle.std.specs.List.Sorted.{IsPermutation}
use Rattle.std.proofs.lemmas.Int.{ints, clamps}
use Rattle.std.proofs.lemmas.Bool.{cases_eq}
use Rattle.std.proofs.lemmas.List.{get_or-map, length-map, get_or-append_right}
use Rattle.std.proofs.Math.ListN.{get_or-append}
use Rattle.std.proofs.lemmas.List.Sorted.{All-permutation, IsPermutation-sym}
use Rattle.separation_model.specs.declared.bundle.Item.{Item}
use Rattle.separation_model.specs.declared.bundle.Rule.{Rule}
use Rattle.separation_model.specs.declared.bundle.Bundle.{Bundle}
use Rattle.separation_solve.specs.declared.network.Link.{Link}
use Rattle.separation_solve.specs.declared.fraction.Fraction.{Fraction}
use Rattle.plane_geom.specs.Point.{IsCoordinate}
use Rattle.separation_model.specs.Bundle.{IsBundle, int_at, item_at, rule_at, no_item, no_rule}
use Rattle.separation_solve.specs.Fraction.{whole}
use Rattle.separation_model.specs.Latest.{IsLatest, IsRuleKept}
use Rattle.separation_solve.specs.Network.{IsKept, IsSpot, links_of, place_at, rule_link, no_link, no_place}
use Rattle.separation_solve.specs.Start.{AreStartPlaces}
use Rattle.separation_solve.proofs.Networks.LinkLists.{lower_link, upper_link}
use Rattle.separation_solve.proofs.Networks.Frames.{by_part}
use Rattle.separation_solve.proofs.LightFractions.LowestTerms.{reduced_whole}
use Rattle.separation_model.proofs.Optimum.Positions.{common_meets}
use Rattle.separation_model.proofs.Verifying.Conditions.{want_on_sheet}

-- a whole place for each item, within its limits, that keeps all rules
pub record AreWhole (b : Bundle) (gap : ℤ) (places : List ℤ) : Type 0 where
  pub count : length places ≡ length b.items.items
  pub low : (i : ℕ) → i < length b.items.items → (item_at b.items.items i).lo ≤ℤ int_at places i
  pub high : (i : ℕ) → i < length b.items.items → int_at places i ≤ℤ (item_at b.items.items i).hi
  pub rules : (j : ℕ) → j < length b.rules.items → IsRuleKept gap places (rule_at b.rules.items j)

-- the places as fractions, and the wall's
abbrev pub walled : List ℤ → List Fraction
walled places = map whole places ++ whole (pos 0) ∷ []

pub length-walled : (places : List ℤ) → length (walled places) ≡ length places + 1
length-walled places = omega (arith, length-append (map whole places) (whole (pos 0) ∷ []), length-map places whole)

pub item_place : (places : List ℤ) (i : ℕ) → i < length places → place_at (walled places) i ≡ whole (int_at places i)
item_place places i h =
    get_or-append (map whole places) (whole (pos 0) ∷ []) no_place i (omega (arith, h, length-map places whole)) ∙ get_or-map whole places i (pos 0) no_place h

pub wall_place : (places : List ℤ) (i : ℕ) → i ≡ length places → place_at (walled places) i ≡ whole (pos 0)
wall_place places i e =
    let first : i - length places ≡ 0 = omega (arith, e) in
    get_or-append_right (map whole places) (whole (pos 0) ∷ []) (length places) i no_place (length-map places whole) (omega (arith, e)) ∙ ap (λ k. get_or (whole (pos 0) ∷ []) k no_place) first

-- a link between whole places
pub kept_whole : (places : List Fraction) (link : Link) (a c : ℤ) → place_at places link.from ≡ whole a → place_at places link.to ≡ whole c → (a +ℤ link.gap) ≤ℤ c → IsKept places link
kept_whole places link a c from to h =
    let motive = λ (p q : Fraction). (link.gap *ℤ pos p.den *ℤ pos q.den) ≤ℤ ((q.num *ℤ pos p.den) -ℤ (p.num *ℤ pos q.den)) in
    subst (λ p. motive p (place_at places link.to)) (sym from) (subst (motive (whole a)) (sym to)
    (omega (arith, ints, h, ones link.gap, one c, one a)))
  where
    one : (z : ℤ) → z *ℤ pos 1 ≡ z
    one z = omega (arith, ints)

    ones : (z : ℤ) → z *ℤ pos 1 *ℤ pos 1 ≡ z
    ones z = one (z *ℤ pos 1) ∙ one z

-- whole places keep all links of the bundle
pub kept_links : (b : Bundle) (gap : ℤ) (places : List ℤ) → IsBundle b → AreWhole b gap places → All (IsKept (walled places)) (links_of b gap)
kept_links b gap places ok are =
    let items = length b.items.items in
    let wall = wall_place places items (sym are.count) in
    by_part b gap (IsKept (walled places))
    (λ j h. let rule = rule_at b.rules.items j in
    let is = ok.rules j no_rule h in
    kept_whole (walled places) (rule_link gap rule) (int_at places rule.left) (int_at places rule.right)
    (item_place places rule.left (omega (arith, is.forward, is.within, are.count))) (item_place places rule.right (omega (arith, is.within, are.count))) (are.rules j h))
    (λ i h. kept_whole (walled places) (lower_link items i (item_at b.items.items i)) (pos 0) (int_at places i) wall (item_place places i (omega (arith, h, are.count))) (omega (arith, ints, are.low i h)))
    (λ i h. kept_whole (walled places) (upper_link items i (item_at b.items.items i)) (int_at places i) (pos 0) (item_place places i (omega (arith, h, are.count))) wall (omega (arith, ints, are.high i h)))

whole_spot : (z : ℤ) → IsCoordinate z → IsSpot (whole z)
whole_spot z at = record {
  reduced = reduced_whole z;
  light = omega arith;
  within = record { low = omega (arith, ints, at.low); high = omega (arith, ints, at.high) };
}

pub are_start : (b : Bundle) (gap : ℤ) (places : List ℤ) → IsBundle b → AreWhole b gap places → AreStartPlaces b gap (walled places)
are_start b gap places ok are =
    let wall = wall_place places (length b.items.items) (sym are.count) in
    record {
      count = length-walled places ∙ ap (λ k. k + 1) are.count;
      spots = λ i h. ⊎_elim
          (λ (e : i ≡ length places). subst IsSpot (sym (wall_place places i e)) (whole_spot (pos 0) (record { low = omega (arith, ints); high = omega (arith, ints) })))
          (λ (o : i ≡ length places → ⊥).
          let within : i < length places = omega (arith, h, length-walled places) in
          let item : i < length b.items.items = omega (arith, within, are.count) in
          let is = ok.items i no_item item in
          subst IsSpot (sym (item_place places i within)) (whole_spot (int_at places i) (record {
            low = omega (arith, ints, are.low i item, is.lo.low);
            high = omega (arith, ints, are.high i item, is.hi.high);
          })))
          (cases_eq i (length places));
      wall_num = ap (λ (p : Fraction). p.num) wall;
      wall_den = ap (λ (p : Fraction). p.den) wall;
      kept = λ j h. kept_links b gap places ok are j no_link h;
    }

-- from how the places were found
pub record AreDrawn (b : Bundle) (gap : ℤ) (by_left : List Rule) (latest wants pressed places : List ℤ) : Type 0 where
  pub ok : IsBundle b
  pub same : IsPermutation b.rules.items by_left
  pub is_latest : IsLatest b gap latest
  pub wanted : wants ≡ map (λ (item : Item). item.want) b.items.items
  pub on : (i : ℕ) → i < length pressed → int_at wants i ≤ℤ int_at pressed i
  pub keeps : All (IsRuleKept gap pressed) by_left
  pub pressed_count : length pressed ≡ length wants
  pub count : length places ≡ length pressed
  pub drawn : (i : ℕ) → i < length latest → int_at places i ≡ int_min (int_at latest i) (int_at pressed i)

want_is : (b : Bundle) (wants : List ℤ) (i : ℕ) → wants ≡ map (λ (item : Item). item.want) b.items.items → i < length b.items.items → int_at wants i ≡ (item_at b.items.items i).want
want_is b wants i e h =
    ap (λ zs. int_at zs i) e ∙ get_or-map (λ (item : Item). item.want) b.items.items i no_item (pos 0) h

pub drawn_whole : (b : Bundle) (gap : ℤ) (by_left : List Rule) (latest wants pressed places : List ℤ) → AreDrawn b gap by_left latest wants pressed places → AreWhole b gap places
drawn_whole b gap by_left latest wants pressed places are =
    let items = b.items.items in
    let over = common_meets b gap 1 latest are.ok (omega arith) are.is_latest.meets in
    let count : length latest ≡ length items = are.is_latest.meets.places in
    let wants_count : length wants ≡ length items = ap length are.wanted ∙ length-map items (λ (item : Item). item.want) in
    let at : (i : ℕ) → i < length items → int_at places i ≡ int_min (int_at latest i) (int_at pressed i) = λ i h. are.drawn i (omega (arith, h, count)) in
    record {
      count = are.count ∙ are.pressed_count ∙ wants_count;
      low = λ i h.
          omega (arith, ints, clamps, at i h, over.low i h, are.on i (omega (arith, h, are.pressed_count, wants_count)), want_is b wants i are.wanted h, (are.ok.items i no_item h).want_low);
      high = λ i h. omega (arith, ints, clamps, at i h, over.high i h);
      rules = λ j h.
          let rule = rule_at b.rules.items j in
          let is = are.ok.rules j no_rule h in
          let kept = All-permutation (IsRuleKept gap pressed) by_left b.rules.items (IsPermutation-sym b.rules.items by_left are.same) are.keeps j no_rule h in
          omega (arith, ints, clamps, at rule.left (omega (arith, is.forward, is.within)), at rule.right is.within, kept, over.rules j no_rule h);
    }

-- a want is on the sheet
pub want_coordinate : (b : Bundle) (wants : List ℤ) (i : ℕ) → IsBundle b → wants ≡ map (λ (item : Item). item.want) b.items.items → i < length wants → IsCoordinate (int_at wants i)
want_coordinate b wants i ok e h =
    let count : length wants ≡ length b.items.items = ap length e ∙ length-map b.items.items (λ (item : Item). item.want) in
    let within : i < length b.items.items = omega (arith, h, count) in
    subst IsCoordinate (sym (want_is b wants i e within)) (want_on_sheet (item_at b.items.items i) (ok.items i no_item within))
