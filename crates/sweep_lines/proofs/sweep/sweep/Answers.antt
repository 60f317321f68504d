-- Each turn of the loop is a step of the sweep.
use Rattle.std.proofs.Common.{◌≡◌, ◌∙◌, ◌++◌, ◌≤◌, sym, ap, subst, take, length, ◌<◌, List, [], not, false, All, IsPermutation, w64}
use Rattle.std.specs.Prelude.{Any, Some, filter, count_by}
use Rattle.std.specs.List.{list_any}
use Rattle.std.proofs.lemmas.Int.{to_z-of_z}
use Rattle.std.proofs.lemmas.List.{append_assoc, append-nil}
use Rattle.sweep_lines.specs.declared.bar.Bar.{Bar}
use Rattle.sweep_lines.specs.declared.mark.Mark.{Mark}
use Rattle.sweep_lines.specs.Kept.{AreKept, RunsWithin, is_within}
use Rattle.sweep_lines.specs.Open.{AreSpansOf, HasBegun, HasLength, IsCrossed, AreOpened}
use Rattle.sweep_lines.specs.Bars.{bars_of}
use Rattle.sweep_lines.specs.Marks.{begins, begun_span, ends, kept_gaps, marks_of}
use Rattle.sweep_lines.proofs.Loops.{read}
use Rattle.sweep_lines.proofs.KeptLines.{long_bars}
use Rattle.sweep_lines.proofs.Swept.{Swept, Step, stepped, swept_at_first, swept_at_last, none_left, crossed_by, new_here, new_lengths, once_here, shorter, swept_on}
use Rattle.sweep_lines.proofs.sweep.sweep.Given as given
use Rattle.sweep_lines.proofs.sweep.sweep.Goals as goal
use Rattle.sweep_lines.proofs.sweep.sweep.Goals.{After-count_upto, After-close}

pub open_before-requires-clause-lengths : goal.open_before-requires-clause-lengths
open_before-requires-clause-lengths g c =
    subst (λ (bs : List Bar). All (λ b. HasLength b.lo b.hi) bs) (sym (c.as_slice-2.ensures.value ∙ c.in_ok-bars.ensures))
    (long_bars g.A.Axis.way_of c.args.floor.now.solids c.requires.solids)

pub loop-first-init : goal.loop-first-init
loop-first-init g c =
    let way = g.A.Axis.way_of in
    let floor = c.args.floor.now in
    let from = read c.args.from in
    let to = read c.args.to in
    let moved = subst (λ ms. IsPermutation ms c.put_in_order.new.marks.items)
    (c.keep_within.ensures ∙ ap (filter (λ m. is_within from to m.at)) (c.in_ok-marks.ensures ∙ ap (λ bs. marks_of way bs floor.anchors) (c.as_slice.ensures.value ∙ c.in_ok-bars.ensures)))
    c.put_in_order.ensures.moved in
    let spans = subst (λ bs. AreSpansOf bs (HasBegun from) c.in_ok-index.index) (c.as_slice-2.ensures.value ∙ c.in_ok-bars.ensures) c.in_ok-index.ensures in
    record {
      done = [];
      swept = subst (λ ms. Swept floor way from to ms c.in_ok-index.index []) (sym c.as_slice-rest.ensures.value)
          (swept_at_first floor way from to c.put_in_order.new.marks.items c.in_ok-index.index c.requires moved c.in_ok-put_in_order.ensures.order spans);
      lines = sym (append-nil c.args.lines.now.items);
    }

pub count_upto-requires : goal.count_upto-requires
count_upto-requires g c = c.loop-first.invariant.swept.ordered

-- the marks that a turn takes are those at the next coordinate
turn_is : (g : given.Over) (c : After-count_upto g) → Step c.args.floor.now g.A.Axis.way_of (read c.args.from) (read c.args.to) c.loop-first.rest.now c.loop-first.index c.loop-first.invariant.done (read c.in-Some.first.now.at) c.count_upto.result
turn_is g c = stepped c.args.floor.now g.A.Axis.way_of (read c.args.from) (read c.args.to) c.loop-first.rest.now c.loop-first.index c.loop-first.invariant.done c.in-Some.first.now c.count_upto.result
    c.requires c.loop-first.invariant.swept c.in-Some.ensures.value c.count_upto.ensures.bound c.count_upto.ensures.front c.count_upto.ensures.back

-- the solids that the coordinate crosses are left when those that end there are out
crossed_here : (g : given.Over) (c : After-close g) → AreSpansOf (bars_of g.A.Axis.way_of c.args.floor.now.solids) (IsCrossed (read c.in-Some.first.now.at)) c.close.new.index
crossed_here g c = crossed_by c.args.floor.now g.A.Axis.way_of (read c.args.from) (read c.args.to) c.loop-first.rest.now c.loop-first.index c.loop-first.invariant.done (read c.in-Some.first.now.at) c.count_upto.result (turn_is g (goal.at.After-close g c).After-count_upto) c.close.new.index
    (c.close.ensures ∙ ap (λ hs. filter (λ s. not (list_any (λ m. ends s.key m.kind) hs)) c.loop-first.index) c.split_at.ensures.front)

pub push_kept-requires : goal.push_kept-requires
push_kept-requires g c = subst (λ bs. AreSpansOf bs (IsCrossed (read c.in-Some.first.now.at)) c.close.new.index) (sym (c.as_slice-in-Some.ensures.value ∙ c.in_ok-bars.ensures)) (crossed_here g (goal.at.push_kept-requires g c).After-close)

pub open-requires-clause-once : goal.open-requires-clause-once
open-requires-clause-once g c = λ k. subst (λ (hs : List Mark). count_by (λ m. begins k m.kind) hs ≤ 1) (sym c.split_at.ensures.front)
    (once_here c.args.floor.now g.A.Axis.way_of (read c.args.from) (read c.args.to) c.loop-first.rest.now c.loop-first.index c.loop-first.invariant.done (read c.in-Some.first.now.at) c.count_upto.result (turn_is g (goal.at.open-requires-clause-once g c).After-count_upto) k)

pub open-requires-clause-lengths : goal.open-requires-clause-lengths
open-requires-clause-lengths g c = λ v x. new_lengths c.args.floor.now g.A.Axis.way_of (read c.args.from) (read c.args.to) c.loop-first.rest.now c.loop-first.index c.loop-first.invariant.done (read c.in-Some.first.now.at) c.count_upto.result (turn_is g (goal.at.open-requires-clause-lengths g c).After-count_upto) v
    (subst (λ hs. Any (λ m. begun_span m ≡ Some v) hs) c.split_at.ensures.front x)

pub open-requires-clause-new : goal.open-requires-clause-new
open-requires-clause-new g c =
    let at = goal.at.open-requires-clause-new g c in
    λ v i. subst (λ (hs : List Mark). All (λ m. begins v.key m.kind ≡ false) hs) (sym c.split_at.ensures.front)
    (new_here c.args.floor.now g.A.Axis.way_of (read c.args.from) (read c.args.to) c.loop-first.rest.now c.loop-first.index c.loop-first.invariant.done (read c.in-Some.first.now.at) c.count_upto.result (turn_is g at.After-count_upto) c.close.new.index (crossed_here g at.After-close) v i)

pub loop-first-smaller : goal.loop-first-smaller
loop-first-smaller g c = subst (λ ms. length ms < length c.loop-first.rest.now) (sym c.split_at.ensures.back)
    (shorter c.args.floor.now g.A.Axis.way_of (read c.args.from) (read c.args.to) c.loop-first.rest.now c.loop-first.index c.loop-first.invariant.done (read c.in-Some.first.now.at) c.count_upto.result (turn_is g (goal.at.loop-first-smaller g c).After-count_upto))

pub loop-first-preserved : goal.loop-first-preserved
loop-first-preserved g c =
    let here = goal.at.loop-first-preserved g c in
    let new = kept_gaps g.A.Axis.way_of (read c.in-Some.first.now.at) (take c.count_upto.result c.loop-first.rest.now) c.close.new.index in
    let same = ap (λ w. kept_gaps w (read c.in-Some.first.now.at) c.split_at.result.0.now c.close.new.index) c.way.ensures
    ∙ ap (λ hs. kept_gaps g.A.Axis.way_of (read c.in-Some.first.now.at) hs c.close.new.index) c.split_at.ensures.front in
    record {
      done = c.loop-first.invariant.done ++ new;
      swept = subst (λ ms. Swept c.args.floor.now g.A.Axis.way_of (read c.args.from) (read c.args.to) ms c.open.new.index (c.loop-first.invariant.done ++ new)) (sym c.split_at.ensures.back)
          (swept_on c.args.floor.now g.A.Axis.way_of (read c.args.from) (read c.args.to) c.loop-first.rest.now c.loop-first.index c.loop-first.invariant.done (read c.in-Some.first.now.at) c.count_upto.result (turn_is g here.After-count_upto) c.close.new.index c.open.new.index (crossed_here g here.After-close)
          c.in_ok-push_kept.ensures.listed (subst (λ hs. AreOpened hs c.close.new.index c.open.new.index) c.split_at.ensures.front c.in_ok-open.ensures));
      lines = c.in_ok-push_kept.ensures.lines ∙ ap (λ zs. c.loop-first.lines.items ++ zs) same ∙ ap (λ zs. zs ++ new) c.loop-first.invariant.lines
          ∙ append_assoc c.args.lines.now.items c.loop-first.invariant.done new;
    }

pub returns : goal.returns
returns g c =
    let way = g.A.Axis.way_of in
    let floor = c.args.floor.now in
    let done = c.loop-first.invariant.done in
    let from : read c.args.from ≡ c.args.from = to_z-of_z w64 c.args.from c.ranges.from in
    let to : read c.args.to ≡ c.args.to = to_z-of_z w64 c.args.to c.ranges.to in (
      done,
      subst (λ z. AreKept floor (RunsWithin way z c.args.to) done) from
          (subst (λ z. AreKept floor (RunsWithin way (read c.args.from) z) done) to
          (swept_at_last floor way (read c.args.from) (read c.args.to) c.loop-first.index done
          (subst (λ ms. Swept floor way (read c.args.from) (read c.args.to) ms c.loop-first.index done) (none_left c.loop-first.rest.now c.in_default.ensures.value) c.loop-first.invariant.swept))),
      c.loop-first.invariant.lines,
    )
