-- The cheaper of a cheapest choice and one more is a cheapest.
use Rattle.std.proofs.Common.{◌≡◌, ◌<◌, ◌≤◌, pos, nat_le, if◌then◌else◌, MatchOption, Option, Some, None, List, [], ◌∷◌, ◌++◌, inl, inr, arith, Contains, subst, sym, ap}
use Rattle.std.proofs.lemmas.Bool.{cond_both, leb-true, leb-false}
use Rattle.std.proofs.lemmas.List.Elements.{Contains-append_left, Contains-push, Contains-push_cases}
use Rattle.plane_geom.specs.declared.point.Dir.TheVariants.{East}
use Rattle.walk_model.specs.declared.task.Choice.{Choice}
use Rattle.route_check.specs.Choices.{IsCheapest, IsCheapestIfAny}
use Rattle.route_check.proofs.Segments.Corners.{origin}

-- the code's default where a list has no such choice
abbrev pub no_choice : Choice
no_choice = record { node = pos 0; pin = origin; dir = East; port = origin; cost = 0 }

-- the same of choices that fit in other words
pub cheapest_same : (P Q : Choice → Type 0) (choices : List Choice) (o : Option Choice) → ((c : Choice) → Contains choices c → P c → Q c) → ((c : Choice) → Contains choices c → Q c → P c) → IsCheapestIfAny P choices o → IsCheapestIfAny Q choices o
cheapest_same P Q choices None there back none = λ c in' q. none c in' (back c in' q)
cheapest_same P Q choices (Some b) there back is = record {
  is_choice = is.is_choice;
  holds = there b is.is_choice is.holds;
  least = λ c in' q. is.least c in' (back c in' q);
}

module _ (P : Choice → Type 0) where
  -- one more choice c after those of the list
  module _ (cs : List Choice) (c : Choice) where
    old : (x : Choice) → Contains cs x → Contains (cs ++ c ∷ []) x
    old x = Contains-append_left cs (c ∷ []) x

    last : (x : Choice) → (Contains cs x → P x → ⊥) → (P c → ⊥) → Contains (cs ++ c ∷ []) x → P x → ⊥
    last x not_old not_last in' p = elim (Contains-push_cases cs c x in') as (λ _. ⊥) [ inl h ↦ not_old h p | inr e ↦ not_last (subst P (sym e) p) ]

    pub cheapest_skips : (o : Option Choice) → (P c → ⊥) → IsCheapestIfAny P cs o → IsCheapestIfAny P (cs ++ c ∷ []) o
    cheapest_skips None not none = λ x. last x (none x) not
    cheapest_skips (Some b) not is = record {
      is_choice = old b is.is_choice;
      holds = is.holds;
      least = λ x in' p. elim (Contains-push_cases cs c x in') as (λ _. b.cost ≤ x.cost) [ inl h ↦ is.least x h p | inr e ↦ absurd (not (subst P (sym e) p)) ];
    }

    -- where it fits, the cheaper of it and the cheapest so far
    pub cheapest_takes : P c → (o : Option Choice) (r : Choice) → MatchOption o (r ≡ c) (λ b. r ≡ (if nat_le b.cost c.cost then b else c)) → IsCheapestIfAny P cs o → IsCheapestIfAny P (cs ++ c ∷ []) (Some r)
    cheapest_takes p None r e none = rw e (record {
      is_choice = Contains-push cs c;
      holds = p;
      least = λ x in' q. elim (Contains-push_cases cs c x in') as (λ _. c.cost ≤ x.cost)
          [ inl h ↦ absurd (none x h q) | inr same ↦ omega (arith, ap (λ (y : Choice). y.cost) same) ];
    })
    cheapest_takes p (Some b) r e is = rw e (cond_both (nat_le b.cost c.cost) b c (IsCheapest P (cs ++ c ∷ []))
        (λ held. let order : b.cost ≤ c.cost = leb-true b.cost c.cost held in record {
          is_choice = old b is.is_choice;
          holds = is.holds;
          least = λ x in' q. elim (Contains-push_cases cs c x in') as (λ _. b.cost ≤ x.cost)
              [ inl h ↦ is.least x h q | inr same ↦ omega (arith, ap (λ (y : Choice). y.cost) same) ];
        })
        (λ beaten. let order : c.cost < b.cost = leb-false b.cost c.cost beaten in record {
          is_choice = Contains-push cs c;
          holds = p;
          least = λ x in' q. elim (Contains-push_cases cs c x in') as (λ _. c.cost ≤ x.cost)
              [ inl h ↦ omega (arith, is.least x h q) | inr same ↦ omega (arith, ap (λ (y : Choice). y.cost) same) ];
        }))
