-- The pins of the class so far and one more; in the end all of them.
use Rattle.std.proofs.Common.{◌≡◌, ◌<◌, true, false, All, List, length, get_or, refl, sym, subst, ◌∙◌, true≢false, eq-eqb}
use Rattle.std.specs.Prelude.{◌==◌, Contains, filter, pos}
use Rattle.std.proofs.lemmas.Bool.{eqb-true}
use Rattle.std.proofs.lemmas.List.{get_or_default, take_all}
use Rattle.std.proofs.lemmas.List.Elements.{All-more}
use Rattle.scene_model.specs.declared.pin.Pin.{Pin}
use Rattle.route_book.specs.Reach.{IsNear}
use Rattle.route_book.proofs.Comparing.Picks.{none_passing, one_passing}
use Rattle.route_book.proofs.reach.Reach.is_near_from.Goals as goal
use Rattle.route_book.proofs.reach.Reach.is_near_from.Goals.{else-end-class-via-then-end-class+else-is_near, else-end-class-via-else-end-class}

abbrev no_pin : Pin
no_pin = record { class = 0; dx = pos 0; dy = pos 0; dirs = record { east = false; south = false; west = false; north = false }; cost = pos 0 }

pub returns-then-is_near : goal.returns-then-is_near
returns-then-is_near c =
    let pins : List Pin = c.pins_among-end-items.result.now in
    let i = c.loop-end.end-index in
    let class = c.args.self.now.edge.now.to_class in
    let p : Pin = get_or pins i no_pin in
    let lt : i < length pins = c.loop-end-test.true in
    let has : Contains (filter (λ q. q.class == class) pins) p = one_passing (λ q. q.class == class) pins i p lt (get_or_default pins i no_pin p lt) (eq-eqb p.class class c.if-end-class.true) in (
      λ _. record { end = p; is_end = subst (λ (ps : List Pin). Contains ps p) c.pins_among-end-items.ensures.class has; near = c.is_near.ensures.0 c.if-is_near.true },
      λ _. refl,
    )

pub loop-end-preserved : goal.loop-end-preserved
loop-end-preserved c =
    let pins : List Pin = c.pins_among-end-items.result.now in
    let i = c.loop-end.end-index in
    let class = c.args.self.now.edge.now.to_class in
    let P : Pin → Type 0 = λ q. (q.class == class) ≡ true → IsNear c.args.self.now.source.now c.args.self.now.target.now c.args.self.now.edge.now c.args.self.now.cost c.args.rect.now c.args.start q → ⊥ in
    let here : P (get_or pins i no_pin) = elim c.else-end-class.branch [
      | else-end-class-via-then-end-class+else-is_near w ↦ (λ _ near. true≢false (sym (w.is_near.ensures.1 near) ∙ w.if-is_near.false))
      | else-end-class-via-else-end-class w ↦ (λ same _. w.if-end-class.false (eqb-true (get_or pins i no_pin).class class same))
    ] in
    All-more P pins i no_pin c.loop-end-test.true c.loop-end.invariant here

pub returns : goal.returns
returns c =
    let pins : List Pin = c.pins_among-end-items.result.now in
    let i = c.loop-end.end-index in
    let class = c.args.self.now.edge.now.to_class in
    let N : Pin → Type 0 = λ q. IsNear c.args.self.now.source.now c.args.self.now.target.now c.args.self.now.edge.now c.args.self.now.cost c.args.rect.now c.args.start q in
    let all : All (λ q. (q.class == class) ≡ true → N q → ⊥) pins = subst (All (λ q. (q.class == class) ≡ true → N q → ⊥)) (take_all i pins c.loop-end-test.false) c.loop-end.invariant in (
      λ h. absurd (true≢false (sym h)),
      λ near. absurd (none_passing (λ q. q.class == class) N pins all near.end (subst (λ (ps : List Pin). Contains ps near.end) (sym c.pins_among-end-items.ensures.class) near.is_end) near.near),
    )
