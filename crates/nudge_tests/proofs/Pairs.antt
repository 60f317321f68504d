-- Two items with a rule between them are a bundle that calls accept.
use Rattle.std.proofs.Common.{◌≡◌, pos, ◌≤ℤ◌, List, [], ◌∷◌, length, ap, sym, subst, arith}
use Rattle.std.proofs.lemmas.List.Elements.{All-cons, All-nil, All-same}
use Rattle.separation_model.specs.declared.bundle.Rule.{Rule}
use Rattle.separation_model.specs.declared.bundle.Item.{Item}
use Rattle.separation_model.specs.declared.bundle.Bundle.{Bundle}
use Rattle.separation_model.specs.Bundle.{IsBundle, IsItem, IsRule, item_at}

pub pair_is_bundle : (b : Bundle) (left right : Item) (rule : Rule) → b.items.items ≡ left ∷ right ∷ [] → b.rules.items ≡ rule ∷ [] → rule.left ≡ 0 → rule.right ≡ 1 → IsItem left → IsItem right → left.want ≤ℤ right.want → pos 0 ≤ℤ b.wanted → b.wanted ≤ℤ pos 1000000 → IsBundle b
pair_is_bundle b left right rule items rules from to l r ordered low high =
    let two : List Item = left ∷ right ∷ [] in
    let P : List Item → Rule → Type 0 = λ is rule. IsRule is rule in
    let wants : (item_at two rule.left).want ≤ℤ (item_at two rule.right).want =
    subst (λ k. (item_at two k).want ≤ℤ (item_at two rule.right).want) (sym from) (subst (λ k. left.want ≤ℤ (item_at two k).want) (sym to) ordered) in
    let is : IsRule two rule = record { forward = omega (arith, from, to); within = omega (arith, to); ordered = wants } in
    record {
      few = omega (arith, ap length items);
      items = All-same IsItem b.items.items two items (All-cons IsItem left (right ∷ []) l (All-cons IsItem right [] r (All-nil IsItem)));
      rules = All-same (IsRule b.items.items) b.rules.items (rule ∷ []) rules
          (All-cons (IsRule b.items.items) rule [] (subst (λ is. IsRule is rule) (sym items) is) (All-nil (IsRule b.items.items)));
      wanted_low = low;
      wanted_high = high;
    }
