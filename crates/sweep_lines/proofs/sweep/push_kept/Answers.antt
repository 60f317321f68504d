-- The bar of each key has the span's ends, and its gap comes after the lines so far.
use Rattle.std.proofs.Common.{◌≡◌, ◌∙◌, sym, ap, subst, w64, to_z, pos, ◌+◌, ◌++◌, ◌≤ℤ◌, drop, get_or, length, arith}
use Rattle.std.specs.Int.{int_max}
use Rattle.std.proofs.lemmas.Int.{to_z-of_z}
use Rattle.std.proofs.lemmas.Result.{on_ok_weaker}
use Rattle.std.proofs.lemmas.List.{length-map}
use Rattle.plane_geom.specs.Point.{sheet_end}
use Rattle.interval_index.specs.declared.span.Span.{Span}
use Rattle.sweep_lines.specs.declared.bar.Bar.{Bar}
use Rattle.sweep_lines.specs.Gaps.{gaps}
use Rattle.sweep_lines.specs.Marks.{kept_one, kept_pieces, kept_gaps}
use Rattle.sweep_lines.proofs.Loops.{bar_of_key, keys_touching_sheet, next_gap, last_gap, read, max_within}
use Rattle.sweep_lines.proofs.sweep.push_kept.Goals as goal

pub bounds-bars-number : goal.bounds-bars-number
bounds-bars-number c = (bar_of_key c.args.bars.now _ c.args.index.now c.as_slice-number-items.result.now c.loop-number.number-index
    c.requires c.touching.ensures.listed (c.as_slice-number-items.ensures.value ∙ c.in_ok-touching.ensures.touching) c.loop-number-test.true).below

pub loop-number-preserved : goal.loop-number-preserved
loop-number-preserved c =
    let i = c.loop-number.number-index in
    let b = bar_of_key c.args.bars.now _ c.args.index.now c.as_slice-number-items.result.now i
    c.requires c.touching.ensures.listed (c.as_slice-number-items.ensures.value ∙ c.in_ok-touching.ensures.touching) c.loop-number-test.true in
    let span : Span = record { key = 0; lo = sheet_end; hi = sheet_end } in
    let bar : Bar = record { begin = pos 0; end = pos 0; lo = pos 0; hi = pos 0 } in
    let lo = b.lo bar span in
    let hi = b.hi bar span in
    let top = b.end span in
    let within = c.loop-number.invariant.within in
    let m : read c.max-lo.result ≡ c.max-lo.result = to_z-of_z w64 c.max-lo.result (record { sfits = c.max-lo.type_inv }) in
    let e = c.max-lo.ensures.value in
    let h = m ∙ e ∙ ap (int_max (to_z w64 c.loop-number.lo-bits)) hi in
    record {
      within = subst (λ z. z ≤ℤ sheet_end) (sym h) (max_within (to_z w64 c.loop-number.lo-bits) (get_or c.args.index.now i span).hi within top);
      rest = subst (λ z. c.push_if_kept.new.lines.items ++ kept_pieces c.args.way (read c.args.at) c.args.here.now (gaps z (drop (i + 1) c.args.index.now)) ≡ c.args.lines.now.items ++ kept_gaps c.args.way (read c.args.at) c.args.here.now c.args.index.now) (sym h)
          (next_gap c.args.way (read c.args.at) c.args.here.now c.loop-number.lines.items c.push_if_kept.new.lines.items _ (to_z w64 c.loop-number.lo-bits) c.args.index.now i span b.listed c.loop-number.invariant.rest
          (c.in_ok-push_if_kept.ensures ∙ ap (λ z. c.loop-number.lines.items ++ kept_one c.args.way (read c.args.at) c.args.here.now (record { lo = to_z w64 c.loop-number.lo-bits; hi = z })) lo));
    }

pub returns-clause-lines : goal.returns-clause-lines
returns-clause-lines c =
    let at : read c.args.at ≡ c.args.at = to_z-of_z w64 c.args.at c.ranges.at in
    let e : length c.as_slice-number-items.result.now ≡ length c.args.index.now =
    omega (arith, ap length (c.as_slice-number-items.ensures.value ∙ c.in_ok-touching.ensures.touching ∙ keys_touching_sheet c.args.index.now c.touching.ensures.listed), length-map c.args.index.now (λ (s : Span). s.key)) in
    on_ok_weaker c.push_if_kept-2.result (λ f.
    subst (λ z. c.push_if_kept-2.new.lines.items ≡ c.args.lines.now.items ++ kept_gaps c.args.way z c.args.here.now c.args.index.now) at
    (last_gap c.args.way (read c.args.at) c.args.here.now c.loop-number.lines.items c.push_if_kept-2.new.lines.items _ (to_z w64 c.loop-number.lo-bits) c.args.index.now c.loop-number.number-index
    (omega arith) c.loop-number.invariant.within c.loop-number.invariant.rest f))
    c.push_if_kept-2.ensures
