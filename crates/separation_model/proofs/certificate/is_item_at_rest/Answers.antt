-- The code's sums are those of the conditions: what it reads of the lists fits.
use Rattle.std.proofs.Common.{ℕ, ◌≡◌, ◌<◌, length, All, pos, ◌*ℤ◌, ◌-ℤ◌, arith, rules, sym, ap, subst, ◌∙◌, FitsSigned, ℤ, to_z, of_z}
use Rattle.std.specs.Int.{w64, w128}
use Rattle.std.specs.Prelude.{slice_index}
use Rattle.std.proofs.lemmas.Int.{ints, to_z-of_z}
use Rattle.std.proofs.lemmas.Bool.{false≢true}
use Rattle.std.proofs.lemmas.List.{get_or_read}
use Rattle.separation_model.specs.declared.bundle.Item.{Item}
use Rattle.separation_model.specs.Bundle.{IsItem, int_at, item_at, no_item}
use Rattle.separation_model.specs.Apart.{FractionIsOnSheet}
use Rattle.separation_model.specs.Certified.{from_left, from_right}
use Rattle.separation_model.specs.Checked.{IsMultiplier}
use Rattle.plane_geom.specs.Point.{IsCoordinate}
use Rattle.separation_model.proofs.Verifying.Conditions.{on_sheet, want_on_sheet, rest_from, part, other_part, one_fits, more_low, both_sums, together_small, too_large}
use Rattle.separation_model.proofs.certificate.is_item_at_rest.Goals as goal

within : (i m n : ℕ) → i < n → m ≡ n → i < m
within i m n h e = omega arith

coordinate_fits : (a : ℤ) → IsCoordinate a → FitsSigned w64 a
coordinate_fits a h = omega (arith, ints, h.low, h.high)

pub position-pos-requires-clause-den : goal.position-pos-requires-clause-den
position-pos-requires-clause-den c = within _ _ _ c.requires.item c.requires.limits.lengths.dens

pub position-pos-requires-clause-pos : goal.position-pos-requires-clause-pos
position-pos-requires-clause-pos c = within _ _ _ c.requires.item c.requires.limits.lengths.places

pub weighted_displacement-displacement-requires-clause-weight : goal.weighted_displacement-displacement-requires-clause-weight
weighted_displacement-displacement-requires-clause-weight c =
    (subst IsItem (sym c.index.ensures) (c.requires.bundle.items c.args.item c.index.result.now c.requires.item)).weight_high

pub weighted_displacement-displacement-requires-clause-want : goal.weighted_displacement-displacement-requires-clause-want
weighted_displacement-displacement-requires-clause-want c =
    let item = c.index.result.now in
    let want = want_on_sheet item (subst IsItem (sym c.index.ensures) (c.requires.bundle.items c.args.item item c.requires.item)) in
    subst IsCoordinate (sym (to_z-of_z w64 item.want (coordinate_fits item.want want))) want

pub weighted_displacement-displacement-requires-clause-place :
    goal.weighted_displacement-displacement-requires-clause-place
weighted_displacement-displacement-requires-clause-place c =
    let b = c.args.bundle.now in
    let s = c.args.solution.now in
    let i = c.args.item in
    let here = on_sheet (item_at b.items.items i) (slice_index s.den.items i) (int_at s.pos.items i) (int_at s.low.items i) (int_at s.high.items i) (c.requires.bundle.items i no_item c.requires.item) (c.requires.limits.limits i c.requires.item) in
    let place : FractionIsOnSheet c.position-pos.result.den c.position-pos.result.pos = subst (λ d. FractionIsOnSheet d c.position-pos.result.pos) (sym c.position-pos.ensures.den) (subst (FractionIsOnSheet (slice_index s.den.items i)) (sym c.position-pos.ensures.pos) here) in
    let fits : FitsSigned w128 c.position-pos.result.pos = search rules in
    subst (FractionIsOnSheet c.position-pos.result.den) (sym (to_z-of_z w128 c.position-pos.result.pos fits)) place

pub multiplier_of-low-requires-clause-index : goal.multiplier_of-low-requires-clause-index
multiplier_of-low-requires-clause-index c = within _ _ _ c.requires.item (ap length c.deref.ensures.value ∙ c.requires.limits.lengths.lows)

pub multiplier_of-low-requires-clause-multipliers : goal.multiplier_of-low-requires-clause-multipliers
multiplier_of-low-requires-clause-multipliers c = subst (All IsMultiplier) (sym c.deref.ensures.value) c.requires.limits.multipliers.lows

pub multiplier_of-high-requires-clause-index : goal.multiplier_of-high-requires-clause-index
multiplier_of-high-requires-clause-index c = within _ _ _ c.requires.item (ap length c.deref-2.ensures.value ∙ c.requires.limits.lengths.highs)

pub multiplier_of-high-requires-clause-multipliers : goal.multiplier_of-high-requires-clause-multipliers
multiplier_of-high-requires-clause-multipliers c = subst (All IsMultiplier) (sym c.deref-2.ensures.value) c.requires.limits.multipliers.highs

pub push_of-requires-clause-same : goal.push_of-requires-clause-same
push_of-requires-clause-same c = ap length c.deref-4.ensures.value ∙ c.requires.limits.lengths.mults ∙ sym (ap length c.deref-3.ensures.value)

pub push_of-requires-clause-multipliers : goal.push_of-requires-clause-multipliers
push_of-requires-clause-multipliers c = subst (All IsMultiplier) (sym c.deref-4.ensures.value) c.requires.limits.multipliers.mults

pub overflow_add-push : goal.overflow_add-push
overflow_add-push c =
    let push = c.in-Some.ensures in
    one_fits _ _ push.left_low (part _ _ push.right_low push.small) c.multiplier_of-low.ensures.multiplier

pub overflow_add-push-in-Some : goal.overflow_add-push-in-Some
overflow_add-push-in-Some c =
    let push = c.in-Some.ensures in
    one_fits _ _ push.right_low (other_part _ _ push.left_low push.small) c.multiplier_of-high.ensures.multiplier

pub balances-requires-clause-rightward : goal.balances-requires-clause-rightward
balances-requires-clause-rightward c =
    let low = c.multiplier_of-low.ensures.multiplier in
    let sums = both_sums _ _ _ _ _ _ c.in-Some.ensures low c.multiplier_of-high.ensures.multiplier in
    more_low _ _ _ sums.0 c.in-Some.ensures.left_low low

pub balances-requires-clause-leftward : goal.balances-requires-clause-leftward
balances-requires-clause-leftward c =
    let high = c.multiplier_of-high.ensures.multiplier in
    let sums = both_sums _ _ _ _ _ _ c.in-Some.ensures c.multiplier_of-low.ensures.multiplier high in
    more_low _ _ _ sums.1 c.in-Some.ensures.right_low high

pub balances-requires-clause-together : goal.balances-requires-clause-together
balances-requires-clause-together c =
    let low = c.multiplier_of-low.ensures.multiplier in
    let high = c.multiplier_of-high.ensures.multiplier in
    let sums = both_sums _ _ _ _ _ _ c.in-Some.ensures low high in
    together_small _ _ c.in-Some.push.from_left c.in-Some.push.from_right c.multiplier_of-low.result c.multiplier_of-high.result sums.0 sums.1 c.in-Some.ensures.small low.small high.small

pub returns-in-Some : goal.returns-in-Some
returns-in-Some c =
    let b = c.args.bundle.now in
    let s = c.args.solution.now in
    let i = c.args.item in
    let push = c.in-Some.ensures in
    let p = c.position-pos.result in
    let sums = both_sums _ _ _ _ _ _ push c.multiplier_of-low.ensures.multiplier c.multiplier_of-high.ensures.multiplier in
    let pos_fits : FitsSigned w128 p.pos = search rules in
    let away_fits : FitsSigned w128 c.weighted_displacement-displacement.result = record { sfits = c.weighted_displacement-displacement.type_inv } in
    let want = want_on_sheet c.index.result.now (subst IsItem (sym c.index.ensures) (c.requires.bundle.items i c.index.result.now c.requires.item)) in
    let want_fits = coordinate_fits c.index.result.now.want want in
    let D : Item → ℕ → ℤ → ℤ = λ it d num. pos 2 *ℤ pos it.weight *ℤ (num -ℤ (pos d *ℤ it.want)) in
    let away = to_z-of_z w128 c.weighted_displacement-displacement.result away_fits ∙ c.weighted_displacement-displacement.ensures
    ∙ ap (λ z. pos 2 *ℤ pos c.index.result.now.weight *ℤ (to_z w128 (of_z w128 p.pos) -ℤ (pos p.den *ℤ z))) (to_z-of_z w64 c.index.result.now.want want_fits)
    ∙ ap (λ it. D it p.den (to_z w128 (of_z w128 p.pos))) (get_or_read b.items.items i c.index.result.now c.requires.item c.index.ensures no_item)
    ∙ ap (λ d. D (item_at b.items.items i) d (to_z w128 (of_z w128 p.pos))) c.position-pos.ensures.den
    ∙ ap (D (item_at b.items.items i) (slice_index s.den.items i)) (to_z-of_z w128 p.pos pos_fits ∙ c.position-pos.ensures.pos) in
    let left = push.left_is ∙ ap (λ rs. from_left i rs c.deref-4.result.now) c.deref-3.ensures.value ∙ ap (from_left i b.rules.items) c.deref-4.ensures.value in
    let right = push.right_is ∙ ap (λ rs. from_right i rs c.deref-4.result.now) c.deref-3.ensures.value ∙ ap (from_right i b.rules.items) c.deref-4.ensures.value in
    let low = c.multiplier_of-low.ensures.value ∙ ap (λ ms. int_at ms i) c.deref.ensures.value in
    let high = c.multiplier_of-high.ensures.value ∙ ap (λ ms. int_at ms i) c.deref-2.ensures.value in
    let both = rest_from b s i _ _ _ _ _ _ _ left right low high away sums.0 sums.1 in
    (λ t. both.0 (c.balances.ensures.0 t), λ h. c.balances.ensures.1 (both.1 h))

pub returns-in-None : goal.returns-in-None
returns-in-None c =
    let b = c.args.bundle.now in
    let s = c.args.solution.now in
    let i = c.args.item in
    let left : from_left i c.deref-3.result.now c.deref-4.result.now ≡ from_left i b.rules.items s.mult.items = ap (λ rs. from_left i rs c.deref-4.result.now) c.deref-3.ensures.value ∙ ap (from_left i b.rules.items) c.deref-4.ensures.value in
    let right : from_right i c.deref-3.result.now c.deref-4.result.now ≡ from_right i b.rules.items s.mult.items = ap (λ rs. from_right i rs c.deref-4.result.now) c.deref-3.ensures.value ∙ ap (from_right i b.rules.items) c.deref-4.ensures.value in
    let at_low = c.requires.limits.multipliers.lows i (pos 0) (within _ _ _ c.requires.item c.requires.limits.lengths.lows) in
    let at_high = c.requires.limits.multipliers.highs i (pos 0) (within _ _ _ c.requires.item c.requires.limits.lengths.highs) in (
      λ t. absurd (false≢true t),
      λ h. absurd (too_large _ _ (int_at s.low.items i) (int_at s.high.items i) _ _ left right c.in-None.ensures h.small at_low.sign at_high.sign),
    )
