-- The earliest of the tails in a direction, and how a walk goes on that has a tail and a move there.
use Rattle.std.proofs.Common.{◌≡◌, ◌⊎◌, ◌↔◌, ℕ, ◌≤◌, Option, Some, None, IfSome, IsNone, List, [], ◌∷◌, ◌++◌, Contains, inl, inr, refl, sym, ap, subst, ◌∙◌, arith}
use Rattle.std.proofs.lemmas.List.Elements.{Contains-append_left, Contains-push, Contains-push_cases}
use Rattle.plane_geom.specs.declared.point.Dir.{Dir}
use Rattle.move_model.specs.declared.place.Place.{Place}
use Rattle.move_model.specs.Places.{IsMove}
use Rattle.line_arena.specs.Arena.{IsArena}
use Rattle.line_arena.proofs.Arenas.ArenaLaws.{one_point}
use Rattle.move_model.proofs.Moving.Moves.{one_move}
use Rattle.search_problem.specs.declared.ends.Ending.{Ending}
use Rattle.search_problem.specs.declared.problem.Problem.{Problem}
use Rattle.route_search.specs.Known.{Knowledge}
use Rattle.route_search.specs.declared.follow.Move.{Move}
use Rattle.route_search.specs.declared.follow.Next.{Next}
use Rattle.route_search.specs.declared.follow.Next.TheVariants.{Stop, Go}
use Rattle.route_search.specs.declared.follow.Standing.{Standing}
use Rattle.route_search.specs.declared.follow.Tail.{Tail}
use Rattle.route_search.specs.Following.{IsEarliest, IsJoined, IsMoveIn, IsNextIn, IsNoLater, IsNoneIn, IsTailIn, MayEnd}

pub no_later_itself : (b : Tail) → IsNoLater b b
no_later_itself b = record { steps = omega arith; end = λ _. omega arith }

no_later_chain : (a b c : Tail) → IsNoLater a b → IsNoLater b c → IsNoLater a c
no_later_chain a b c h g = record {
  steps = omega (arith, h.steps, g.steps);
  end = λ e.
      let first : a.steps ≡ b.steps = omega (arith, e, h.steps, g.steps) in
      let second : b.steps ≡ c.steps = omega (arith, e, h.steps, g.steps) in
      omega (arith, h.end first, g.end second);
}

-- the stub of the ending, as a tail
abbrev pub stub_tail : Ending → Tail
stub_tail e = record { steps = e.stub; end = e.choice }

module _ (p : Problem) (s : Standing) (d : Dir) where
  none_of_none : (e : Ending) → Contains [] e → ⊥
  none_of_none e h = absurd (omega (arith, h.1))

  pub tails_begin : (best : Option Tail) → ((b : Tail) → (best ≡ Some b) ↔ ((d ≡ s.place.heading) × (s.tail ≡ Some b))) → IsEarliest (IsTailIn p s d []) best
  tails_begin best under = record { is = by best refl; first = first }
    where
      by : (o : Option Tail) → best ≡ o → IfSome o (IsTailIn p s d [])
      by None e = tt
      by (Some b) e = inl ((under b).0 e)

      first : (b : Tail) → IsTailIn p s d [] b → (a : Tail) × (best ≡ Some a) × IsNoLater a b
      first b (inl t) = (b, (under b).1 t, no_later_itself b)
      first b (inr t) = absurd (none_of_none t.0 t.1)

  module _ (xs : List Ending) (e : Ending) (best : Option Tail) (h : IsEarliest (IsTailIn p s d xs) best) where
    more : (b : Tail) → IsTailIn p s d xs b → IsTailIn p s d (xs ++ e ∷ []) b
    more b (inl t) = inl t
    more b (inr t) = inr (t.0, Contains-append_left xs (e ∷ []) t.0 t.1, t.2, t.3)

    cases : (b : Tail) → IsTailIn p s d (xs ++ e ∷ []) b → IsTailIn p s d xs b ⊎ (MayEnd p s d e × (b ≡ stub_tail e))
    cases b (inl t) = inl (inl t)
    cases b (inr (k, inside, may, is)) = by (Contains-push_cases xs e k inside)
      where
        by : Contains xs k ⊎ (e ≡ k) → IsTailIn p s d xs b ⊎ (MayEnd p s d e × (b ≡ stub_tail e))
        by (inl before) = inl (inr (k, before, may, is))
        by (inr same) = inr (subst (MayEnd p s d) (sym same) may, is ∙ ap stub_tail (sym same))

    wider : (o : Option Tail) → IfSome o (IsTailIn p s d xs) → IfSome o (IsTailIn p s d (xs ++ e ∷ []))
    wider None u = tt
    wider (Some b) t = more b t

    pub tails_stay : (MayEnd p s d e → ⊥) → IsEarliest (IsTailIn p s d (xs ++ e ∷ [])) best
    tails_stay not = record { is = wider best h.is; first = λ b t. by b (cases b t) }
      where
        by : (b : Tail) → IsTailIn p s d xs b ⊎ (MayEnd p s d e × (b ≡ stub_tail e)) → (a : Tail) × (best ≡ Some a) × IsNoLater a b
        by b (inl t) = h.first b t
        by b (inr t) = absurd (not t.0)

    pub tails_take : (r : Tail) → MayEnd p s d e → (best ≡ Some r) ⊎ (r ≡ stub_tail e) → IsNoLater r (stub_tail e) → IfSome best (IsNoLater r) → IsEarliest (IsTailIn p s d (xs ++ e ∷ [])) (Some r)
    tails_take r may one here others = record { is = is one; first = λ b t. by b (cases b t) }
      where
        is : (best ≡ Some r) ⊎ (r ≡ stub_tail e) → IsTailIn p s d (xs ++ e ∷ []) r
        is (inl old) = more r (subst (λ o. IfSome o (IsTailIn p s d xs)) old h.is)
        is (inr new) = inr (e, Contains-push xs e, may, new)

        by : (b : Tail) → IsTailIn p s d xs b ⊎ (MayEnd p s d e × (b ≡ stub_tail e)) → (a : Tail) × (Some r ≡ Some a) × IsNoLater a b
        by b (inl t) = let f = h.first b t in (r, refl, no_later_chain r f.0 b (subst (λ o. IfSome o (IsNoLater r)) f.1 others) f.2)
        by b (inr t) = (r, refl, subst (IsNoLater r) (sym t.1) here)

module _ (p : Problem) (known : Knowledge) (s : Standing) (d : Dir) (arena : IsArena p.arena.now) where
  -- there is one move in a direction
  pub the_only : (m : Move) (n : ℕ) (y : Place) → (is : IsMoveIn p known s d m) → (other : IsMove p.arena.now p.task.now.via s.place n y) → y.heading ≡ d
      → (m.steps ≡ n) × ((m.to ≡ y) × (is.move.begin ≡ other.begin))
  the_only m n y is other e =
      let one = one_move p.arena.now arena p.task.now.via s.place m.to y m.steps n is.move other (is.dir ∙ sym e) in
      (one.0, (one.1, one_point p.arena.now s.place.crossing is.move.begin other.begin arena is.move.here other.here))

  module _ (best : Option Tail) (step : Option Move) (early : IsEarliest (IsTailIn p s d p.endings.items) best) (is : IfSome step (IsMoveIn p known s d)) (none : IsNone step → (m : Move) → IsMoveIn p known s d m → ⊥) where
    short : (b : Tail) (o : Option Move) → step ≡ o → IfSome o (λ m. b.steps ≤ m.steps) → (m : Move) → IsMoveIn p known s d m → b.steps ≤ m.steps
    short b None e u m h = absurd (none (subst (λ o. IsNone o) (sym e) refl) m h)
    short b (Some k) e long m h =
        let there : IsMoveIn p known s d k = subst (λ o. IfSome o (IsMoveIn p known s d)) e is in
        let same = the_only m k.steps k.to h there.move there.dir in
        omega (arith, long, same.0)

    pub next_from : (r : Option Next) → IfSome r (IsJoined best step) → IfSome r (IsNextIn p known s d)
    next_from None j = tt
    next_from (Some (Stop b)) j = record { tail = subst (IsEarliest (IsTailIn p s d p.endings.items)) j.0 early; short = short b step refl j.1 }
    next_from (Some (Go further)) j = record {
      move = j.0;
      is_move = subst (λ o. IfSome o (IsMoveIn p known s d)) j.1 is;
      best = best;
      tail = early;
      long = j.2;
      further = j.3;
    }

    pub none_from : (best ≡ None) × (step ≡ None) → IsNoneIn p known s d
    none_from e = record {
      tails = λ b t. let f = early.first b t in absurd (let wrong : Some f.0 ≡ None = sym f.1 ∙ e.0 in cc);
      moves = none (subst (λ o. IsNone o) (sym e.1) refl);
    }
