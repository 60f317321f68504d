-- One solid more does not close the stub, or it is the first that does; in the end none does.
use Rattle.std.proofs.Common.{◌<◌, ℕ, List, length, get_or, take, All, refl, sym, subst, ◌∙◌, arith}
use Rattle.std.proofs.lemmas.Bool.{false≢true}
use Rattle.std.proofs.lemmas.Int.{ints}
use Rattle.std.proofs.lemmas.List.{take_all}
use Rattle.std.proofs.lemmas.List.Elements.{All-more}
use Rattle.std.proofs.lemmas.Option.{slice_get-get_or}
use Rattle.plane_geom.specs.declared.rect.Solid.{Solid}
use Rattle.walk_model.specs.declared.task.Choice.{Choice}
use Rattle.route_causes.specs.Causes.{Closes, IsFirstWith}
use Rattle.route_causes.proofs.first.first_to_close.Goals as goal

here : (choice : Choice) (solids : List Solid) (i : ℕ) (d : Solid) → i < length solids → All (λ s. Closes choice s → ⊥) (take i solids) → Closes choice (get_or solids i d) →
    IsFirstWith (Closes choice) solids (get_or solids i d).node
here choice solids i d within none closes = record { place = i; solid = get_or solids i d; at_place = slice_get-get_or solids i d within; holds = closes; none_before = none; of_node = refl }

pub returns-then-closes-clause-closed : goal.returns-then-closes-clause-closed
returns-then-closes-clause-closed c =
    let first = here c.args.choice.now c.args.solids.now c.loop-solid.solid-index _ c.loop-solid-test.true c.loop-solid.invariant (c.closes.ensures.0 c.if-closes.true) in
    subst (IsFirstWith (Closes c.args.choice.now) c.args.solids.now) (omega (arith, ints)) first

pub loop-solid-preserved : goal.loop-solid-preserved
loop-solid-preserved c =
    All-more (λ (s : Solid). Closes c.args.choice.now s → ⊥) c.args.solids.now c.loop-solid.solid-index _ c.loop-solid-test.true c.loop-solid.invariant
    (λ closes. false≢true (sym c.if-closes.false ∙ c.closes.ensures.1 closes))

pub returns-clause-free : goal.returns-clause-free
returns-clause-free c =
    let none = subst (All (λ (s : Solid). Closes c.args.choice.now s → ⊥)) (take_all c.loop-solid.solid-index c.args.solids.now c.loop-solid-test.false) c.loop-solid.invariant in
    λ _ k s inside apart met. none k s inside (apart, met)
