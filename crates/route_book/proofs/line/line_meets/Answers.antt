-- The next segment meets the rectangle, or the line is clear past it.
use Rattle.std.proofs.Common.{◌≡◌, ◌≢◌, ℕ, ◌+◌, List, [], ◌∷◌, drop, get_or, refl, sym, subst, ◌∙◌, true≢false}
use Rattle.std.specs.Prelude.{pos}
use Rattle.std.proofs.lemmas.List.{drop_all, drop_more}
use Rattle.plane_geom.specs.declared.point.Point.{Point}
use Rattle.plane_geom.specs.Rect.{Meets}
use Rattle.walk_model.specs.Line.{AreStraight, IsStraightLine, walk_through}
use Rattle.scene_model.specs.Stale.{LineMeets}
use Rattle.route_book.proofs.Touching.Crossed.{ClearTo, clear_last, clear_next, hit, line_hit}
use Rattle.route_book.proofs.Comparing.Same.{points_apart, points_same}
use Rattle.route_book.proofs.line.line_meets.Goals as goal
use Rattle.route_book.proofs.line.line_meets.Goals.{After-ne, else-ne-via-then-ne+else-overlaps_area, else-ne-via-else-ne}

abbrev origin : Point
origin = record { x = pos 0; y = pos 0 }

-- the next point
abbrev next_at : List Point → ℕ → Point
next_at ps i = get_or ps i origin

-- what is left of the line, from the next point on
abbrev left_at : List Point → ℕ → List Point
left_at ps i = next_at ps i ∷ drop (i + 1) ps

-- it is straight
straight_here : (c : After-ne) → AreStraight c.loop-next.at (left_at c.in-Some.rest.now c.loop-next.next-index)
straight_here c = subst (AreStraight c.loop-next.at) (drop_more c.in-Some.rest.now c.loop-next.next-index origin c.loop-next-test.true) c.loop-next.invariant.straight

-- and the line up to it is clear
clear_here : (c : After-ne) → ClearTo c.args.rect.now (walk_through c.loop-next.invariant.first c.in-Some.rest.now) c.loop-next.at (left_at c.in-Some.rest.now c.loop-next.next-index)
clear_here c =
    subst (ClearTo c.args.rect.now (walk_through c.loop-next.invariant.first c.in-Some.rest.now) c.loop-next.at)
    (drop_more c.in-Some.rest.now c.loop-next.next-index origin c.loop-next-test.true) c.loop-next.invariant.clear

pub returns-then-overlaps_area : goal.returns-then-overlaps_area
returns-then-overlaps_area c =
    let here = (goal.at.returns-then-overlaps_area c).After-ne in
    let inv = c.loop-next.invariant in
    let rest : List Point = c.in-Some.rest.now in
    let at = c.loop-next.at in
    let q = next_at rest c.loop-next.next-index in
    let apart : at ≢ q = points_apart at q c.ne.result c.ne.ensures c.if-ne.true in
    let found = hit c.args.rect.now (walk_through inv.first rest) at q _ (clear_here here) (straight_here here).0 apart (c.overlaps_area.ensures.0 c.if-overlaps_area.true) in (
      λ _. subst (LineMeets c.args.rect.now) (sym inv.whole) (line_hit c.args.rect.now inv.first rest (subst IsStraightLine inv.whole c.requires) found),
      λ _. refl,
    )

pub loop-next-preserved : goal.loop-next-preserved
loop-next-preserved c =
    let here = (goal.at.loop-next-preserved c).After-ne in
    let first = c.loop-next.invariant.first in
    let at = c.loop-next.at in
    let q = next_at c.in-Some.rest.now c.loop-next.next-index in
    let not : at ≢ q → Meets c.args.rect.now at q → ⊥ = elim c.else-ne.branch [
      | else-ne-via-then-ne+else-overlaps_area w ↦ (λ _ m. true≢false (sym (w.overlaps_area.ensures.1 m) ∙ w.if-overlaps_area.false))
      | else-ne-via-else-ne w ↦ (λ apart _. apart (points_same at q c.ne.result c.ne.ensures w.if-ne.false))
    ] in
    record {
      first = first;
      whole = c.loop-next.invariant.whole;
      clear = clear_next c.args.rect.now (walk_through first c.in-Some.rest.now) at q _ (clear_here here) (straight_here here).0 not;
      straight = (straight_here here).1;
    }

pub returns : goal.returns
returns c =
    let r = c.args.rect.now in
    let inv = c.loop-next.invariant in
    let rest : List Point = c.in-Some.rest.now in
    let end : drop c.loop-next.next-index rest ≡ [] = drop_all c.loop-next.next-index rest c.loop-next-test.false in (
      λ h. absurd (true≢false (sym h)),
      λ m. absurd (clear_last r inv.first c.loop-next.at rest (subst (ClearTo r (walk_through inv.first rest) c.loop-next.at) end inv.clear) (subst (LineMeets r) inv.whole m)),
    )
