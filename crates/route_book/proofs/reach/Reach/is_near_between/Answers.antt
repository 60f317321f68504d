-- The pins of the class so far and one more; in the end all of them.
use Rattle.std.proofs.Common.{◌≡◌, ◌<◌, true, false, All, List, length, get_or, refl, sym, subst, ◌∙◌, true≢false, eq-eqb}
use Rattle.std.specs.Prelude.{◌==◌, Contains, filter, pos}
use Rattle.std.proofs.lemmas.Bool.{eqb-true}
use Rattle.std.proofs.lemmas.List.{get_or_default, take_all}
use Rattle.std.proofs.lemmas.List.Elements.{All-more}
use Rattle.scene_model.specs.declared.pin.Pin.{Pin}
use Rattle.route_book.specs.Reach.{IsNearFrom}
use Rattle.route_book.proofs.Comparing.Picks.{none_passing, one_passing}
use Rattle.route_book.proofs.reach.Reach.is_near_between.Goals as goal
use Rattle.route_book.proofs.reach.Reach.is_near_between.Goals.{else-start-class-via-then-start-class+else-is_near_from, else-start-class-via-else-start-class}

abbrev no_pin : Pin
no_pin = record { class = 0; dx = pos 0; dy = pos 0; dirs = record { east = false; south = false; west = false; north = false }; cost = pos 0 }

pub returns-then-is_near_from : goal.returns-then-is_near_from
returns-then-is_near_from c =
    let pins : List Pin = c.pins_among-start-items.result.now in
    let i = c.loop-start.start-index in
    let class = c.args.self.now.edge.now.from_class in
    let p : Pin = get_or pins i no_pin in
    let lt : i < length pins = c.loop-start-test.true in
    let has : Contains (filter (λ q. q.class == class) pins) p = one_passing (λ q. q.class == class) pins i p lt (get_or_default pins i no_pin p lt) (eq-eqb p.class class c.if-start-class.true) in (
      λ _. record { start = p; is_start = subst (λ (ps : List Pin). Contains ps p) c.pins_among-start-items.ensures.class has; near = c.is_near_from.ensures.0 c.if-is_near_from.true },
      λ _. refl,
    )

pub loop-start-preserved : goal.loop-start-preserved
loop-start-preserved c =
    let pins : List Pin = c.pins_among-start-items.result.now in
    let i = c.loop-start.start-index in
    let class = c.args.self.now.edge.now.from_class in
    let P : Pin → Type 0 = λ q. (q.class == class) ≡ true → IsNearFrom c.args.self.now.source.now c.args.self.now.target.now c.args.self.now.edge.now c.args.self.now.cost c.args.rect.now q → ⊥ in
    let here : P (get_or pins i no_pin) = elim c.else-start-class.branch [
      | else-start-class-via-then-start-class+else-is_near_from w ↦ (λ _ near. true≢false (sym (w.is_near_from.ensures.1 near) ∙ w.if-is_near_from.false))
      | else-start-class-via-else-start-class w ↦ (λ same _. w.if-start-class.false (eqb-true (get_or pins i no_pin).class class same))
    ] in
    All-more P pins i no_pin c.loop-start-test.true c.loop-start.invariant here

pub returns : goal.returns
returns c =
    let pins : List Pin = c.pins_among-start-items.result.now in
    let i = c.loop-start.start-index in
    let class = c.args.self.now.edge.now.from_class in
    let N : Pin → Type 0 = λ q. IsNearFrom c.args.self.now.source.now c.args.self.now.target.now c.args.self.now.edge.now c.args.self.now.cost c.args.rect.now q in
    let all : All (λ q. (q.class == class) ≡ true → N q → ⊥) pins = subst (All (λ q. (q.class == class) ≡ true → N q → ⊥)) (take_all i pins c.loop-start-test.false) c.loop-start.invariant in (
      λ h. absurd (true≢false (sym h)),
      λ near. absurd (none_passing (λ q. q.class == class) N pins all near.start (subst (λ (ps : List Pin). Contains ps near.start) (sym c.pins_among-start-items.ensures.class) near.is_start) near.near),
    )
