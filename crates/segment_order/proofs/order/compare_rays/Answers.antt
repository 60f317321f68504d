-- The first entries decide, or the rays after them do.
use Rattle.std.proofs.Common.{rules, ◌≡◌, ◌≢◌, ◌<◌, MatchOption, Some, length, inl, refl, sym, ap, subst, ◌∙◌}
use Rattle.std.specs.declared.cmp.Ordering.TheVariants.{Equal}
use Rattle.std.specs.Cmp.Lexicographic.{slice_cmp}
use Rattle.segment_order.specs.Ray.{entries_left, entry_cmp}
use Rattle.segment_order.proofs.RayOrder.{decided, ended, left_over}
use Rattle.segment_order.proofs.order.compare_rays.Goals as goal

pub loop-a_next-init : goal.loop-a_next-init
loop-a_next-init c = refl

pub returns-then-ne : goal.returns-then-ne
returns-then-ne c =
    let differ : c.compare-order.result ≢ Equal = λ e. search rules in
    decided _ _ _ _ _ _ _ c.split-x.ensures.entries c.split-y.ensures.entries c.compare-order.ensures differ ∙ sym c.loop-a_next.invariant ∙ sym c.past_common.ensures

pub returns-in_default-2 : goal.returns-in_default-2
returns-in_default-2 c =
    let tie : c.compare-order.result ≡ Equal = search rules in
    ended _ _ _ _ _ _ _ c.split-x.ensures.entries c.split-y.ensures.entries c.split-x.ensures.stop c.split-y.ensures.stop c.compare-order.ensures tie (inl c.in_default.is-0) ∙ sym c.loop-a_next.invariant ∙ sym c.past_common.ensures

pub loop-a_next-smaller : goal.loop-a_next-smaller
loop-a_next-smaller c =
    let shorter = subst (λ n. MatchOption n (Unit {0}) (λ next. length next.rest.now < length c.loop-a_next.a.rest.now)) c.in-Some-Some.is-0 c.split-x.ensures.shorter in
    shorter

pub loop-a_next-preserved : goal.loop-a_next-preserved
loop-a_next-preserved c =
    let tie : c.compare-order.result ≡ Equal = search rules in
    c.loop-a_next.invariant ∙ left_over _ _ _ _ _ _ c.split-x.ensures.entries c.split-y.ensures.entries (sym c.compare-order.ensures ∙ tie)
    ∙ ap (λ n. slice_cmp entry_cmp (entries_left n) (entries_left c.split-y.result.1)) c.in-Some-Some.is-0
    ∙ ap (λ n. slice_cmp entry_cmp (entries_left (Some c.in-Some-Some.a_left)) (entries_left n)) c.in-Some-Some.is-1
