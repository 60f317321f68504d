-- One point more is a crossing, or it is not and then not each is; in the end each is.
use Rattle.std.proofs.Common.{◌≡◌, ℕ, ◌↔◌, All, Option, Some, None, get_or, not, false, true, subst, refl, sym, ap, ◌∙◌}
use Rattle.std.specs.Prelude.{IfSome, IsNone}
use Rattle.std.specs.Option.{is_some}
use Rattle.std.proofs.lemmas.Bool.{false≢true}
use Rattle.std.proofs.lemmas.List.{take_all}
use Rattle.std.proofs.lemmas.List.Elements.{All-more}
use Rattle.plane_geom.specs.declared.point.Point.{Point}
use Rattle.line_arena.specs.Arena.{Arena, StandsAt}
use Rattle.route_search.proofs.finder.are_crossings.Goals as goal

module _ (a : Arena) (at : Point) where
  found_there : (o : Option ℕ) → is_some o ≡ true → IfSome o (λ k. StandsAt a k at) → (k : ℕ) × StandsAt a k at
  found_there None some h = absurd (false≢true some)
  found_there (Some k) some h = (k, h)

  none_there : (o : Option ℕ) → is_some o ≡ false → (IsNone o ↔ ((k : ℕ) → StandsAt a k at → ⊥)) → (k : ℕ) → StandsAt a k at → ⊥
  none_there None none h = h.0 refl
  none_there (Some k) none h = absurd (false≢true (sym none))

pub loop-point-preserved : goal.loop-point-preserved
loop-point-preserved c =
    All-more (λ (p : Point). (k : ℕ) × StandsAt c.args.arena.now k p) c.args.points.now c.loop-point.point-index _ c.loop-point-test.true c.loop-point.invariant
    (found_there c.args.arena.now (get_or c.args.points.now c.loop-point.point-index _) c.crossing_at.result (c.is_none.ensures ∙ ap not c.if-is_none.false) c.crossing_at.ensures.found)

pub returns-then-is_none : goal.returns-then-is_none
returns-then-is_none c =
    let none = none_there c.args.arena.now (get_or c.args.points.now c.loop-point.point-index _) c.crossing_at.result (c.is_none.ensures ∙ ap not c.if-is_none.true) c.crossing_at.ensures.absent in (
      λ wrong. absurd (false≢true wrong),
      λ all. let there = all c.loop-point.point-index _ c.loop-point-test.true in absurd (none there.0 there.1),
    )

pub returns : goal.returns
returns c = (
  λ _. subst (All (λ (p : Point). (k : ℕ) × StandsAt c.args.arena.now k p)) (take_all c.loop-point.point-index c.args.points.now c.loop-point-test.false) c.loop-point.invariant,
  λ _. refl,
)
