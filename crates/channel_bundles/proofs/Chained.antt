-- Fewer rules connect the same items.
use Rattle.std.proofs.Common.{ℕ, Bool, true, false, List}
use Rattle.std.specs.Prelude.{◌↔◌, Contains}
use Rattle.std.proofs.lemmas.List.Elements.{All-contains, Contains-get_or}
use Rattle.separation_model.specs.declared.bundle.Rule.{Rule}
use Rattle.separation_model.specs.Bundle.{rule_at, no_rule}
use Rattle.separation_model.specs.Chains.{Leads, one, weaker, first, last, IsReduced}
use Rattle.channel_bundles.specs.Classes.{Connected, HasRule}
use Rattle.channel_bundles.proofs.Trees.{connected_on, connected_link, connected_by}

-- a chain of rules connects its ends
led_connected : (rules : List Rule) (i j : ℕ) (s : Bool) → Leads rules i j s → Connected (HasRule rules) i j
led_connected rules i j s (one k l) = let r = rule_at rules k in
    connected_link r.left r.right (record { spaced = r.spaced; has = Contains-get_or rules k no_rule l })
led_connected rules i j s (weaker a b p) = led_connected rules a b true p
led_connected rules i j s (first a k b t p q) = connected_on a k b (led_connected rules a k t p) (led_connected rules k b false q)
led_connected rules i j s (last a k b t p q) = connected_on a k b (led_connected rules a k false p) (led_connected rules k b t q)

pub same_classes : (all few : List Rule) (i j : ℕ) → IsReduced all few → Connected (HasRule all) i j ↔ Connected (HasRule few) i j
same_classes all few i j red = (
  connected_by (λ a b l. led_connected few a b l.spaced (All-contains (λ r. Leads few r.left r.right r.spaced) all (record { left = a; right = b; spaced = l.spaced }) red.led l.has)) i j,
  connected_by (λ a b l. connected_link a b (record { spaced = l.spaced; has = All-contains (Contains all) few (record { left = a; right = b; spaced = l.spaced }) red.kept l.has })) i j,
)
