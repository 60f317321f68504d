-- A stub that a solid closes is not free. In the end the stubs are closed, or the first of them is free.
use Rattle.std.proofs.Common.{◌≡◌, ◌≢◌, ◌+◌, ◌<◌, ℕ, ℤ, Option, Some, None, List, length, get_or, take, All, sym, subst}
use Rattle.std.specs.Prelude.{IfSome, IsSomeAnd, slice_get}
use Rattle.std.proofs.lemmas.List.{take_all}
use Rattle.std.proofs.lemmas.List.Elements.{All-more}
use Rattle.plane_geom.specs.Rect.{Meets}
use Rattle.plane_geom.specs.declared.rect.Solid.{Solid}
use Rattle.walk_model.specs.declared.task.Choice.{Choice}
use Rattle.walk_laws.proofs.OnKeptLines.Lines.{chosen}
use Rattle.move_model.specs.Places.{HasFreeStub}
use Rattle.route_causes.specs.Causes.{Closes, IsClosedBy, IsFirstWith}
use Rattle.route_causes.proofs.first.closed_by.Goals as goal

module _ (solids : List Solid) where
  abbrev IsShut : Choice → Type 0
  IsShut c = HasFreeStub solids c → ⊥

  shut : (c : Choice) (node : ℤ) → IsFirstWith (Closes c) solids node → IsShut c
  shut c node closed free = chosen (λ (s : Solid). s.node ≢ c.node → Meets s.rect c.pin c.port → ⊥) solids closed.place closed.solid closed.at_place free closed.holds.0 closed.holds.1

  one_more : (choices : List Choice) (i : ℕ) (d : Choice) (node : ℤ) → i < length choices → All IsShut (take i choices) → IsFirstWith (Closes (get_or choices i d)) solids node → All IsShut (take (i + 1) choices)
  one_more choices i d node within all closed = All-more IsShut choices i d within all (shut (get_or choices i d) node closed)

  if_closed : (choices : List Choice) (c : Choice) (node : Option ℤ) → slice_get choices 0 ≡ Some c → All IsShut choices → IfSome node (IsFirstWith (Closes c) solids) → IfSome node (IsClosedBy solids choices)
  if_closed choices c None is all closed = tt
  if_closed choices c (Some node) is all closed = record { none_free = all; first = subst (λ o. IsSomeAnd o (λ d. IsFirstWith (Closes d) solids node)) (sym is) closed }

pub loop-choice-preserved : goal.loop-choice-preserved
loop-choice-preserved c = one_more c.args.solids.now c.args.choices.now c.loop-choice.choice-index _ _ c.loop-choice-test.true c.loop-choice.invariant c.in_ok-first_to_close.ensures.closed

pub returns-clause-closed : goal.returns-clause-closed
returns-clause-closed c =
    if_closed c.args.solids.now c.args.choices.now c.in_ok-first.field-0.now c.first_to_close-2.result (sym c.in_ok-first.ensures.value)
    (subst (All (IsShut c.args.solids.now)) (take_all c.loop-choice.choice-index c.args.choices.now c.loop-choice-test.false) c.loop-choice.invariant) c.first_to_close-2.ensures.closed

pub returns-clause-open : goal.returns-clause-open
returns-clause-open c none node closed =
    chosen (IsShut c.args.solids.now) c.args.choices.now 0 c.in_ok-first.field-0.now (sym c.in_ok-first.ensures.value) closed.none_free (c.first_to_close-2.ensures.free none)
