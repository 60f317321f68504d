-- Places that are pressed on and drawn back meet the bundle.
use Rattle.std.proofs.Common.{◌≡◌, ℕ, ◌<◌, List, length, map, take, ◌++◌, All, MatchOption, FitsSigned, arith, sym, ap, subst, ◌∙◌}
use Rattle.std.proofs.lemmas.Int.{to_z-of_z}
use mir.Syntax.{w64}
use Rattle.std.specs.Int.{int_min}
use Rattle.std.specs.List.Sorted.{IsPermutation}
use Rattle.separation_solve.specs.Start.{AreStartPlaces, IsForward}
use Rattle.std.proofs.lemmas.Result.{IfOk-weaker}
use Rattle.std.proofs.lemmas.Option.{MatchOption-at_none, MatchOption-at_some}
use Rattle.std.proofs.lemmas.List.{length-map}
use Rattle.std.proofs.Math.Seq.{take-append_seam}
use Rattle.std.proofs.lemmas.List.Sorted.{All-permutation}
use Rattle.separation_model.specs.declared.bundle.Item.{Item}
use Rattle.separation_model.specs.Bundle.{IsRule, int_at}
use Rattle.separation_model.specs.Latest.{HasNoPositions, IsLatest, IsRuleKept}
use Rattle.separation_model.proofs.Gaps.Widest.{narrower_meets}
use Rattle.separation_solve.proofs.Starting.StartPlaces.{AreDrawn, are_start, drawn_whole, walled, want_coordinate}
use Rattle.separation_solve.proofs.start.start_places.Goals as goal

pub unreachable-requires : goal.unreachable-requires
unreachable-requires c =
    let b = c.args.bundle.now in
    let fits : FitsSigned w64 c.args.gap = c.ranges.gap in
    let gap = c.requires.gap in
    let room = gap.is_widest.positions in
    let found : MatchOption c.in_ok-latest.field-0 (HasNoPositions b c.args.gap) (λ places. IsLatest b c.args.gap places.items) = simp to_z-of_z at c.in_ok-latest.ensures in
    MatchOption-at_none (HasNoPositions b c.args.gap) (λ places. IsLatest b c.args.gap places.items) c.in_default.is found _ _ (narrower_meets b gap.widest c.args.gap _ _ gap.not_above room.meets)

pub press_on-requires-clause-rules : goal.press_on-requires-clause-rules
press_on-requires-clause-rules c =
    let b = c.args.bundle.now in
    let same = subst (λ rs. IsPermutation rs c.in_ok-by_left.by_left.items) c.deref.ensures.value c.in_ok-by_left.ensures.same in
    let ok = All-permutation (IsRule b.items.items) b.rules.items c.in_ok-by_left.by_left.items same c.requires.bundle.rules in
    let count : length c.deref_mut.result.now ≡ length b.items.items =
    ap length c.deref_mut.ensures.value ∙ ap length c.in_ok-places.ensures ∙ length-map c.deref-3.result.now (λ (item : Item). item.want) ∙ ap length c.deref-3.ensures.value in
    subst (All (IsForward (length c.deref_mut.result.now))) (sym c.deref-4.ensures.value)
    (λ k d h. record { forward = (ok k d h).forward; within = omega (arith, (ok k d h).within, count) })

pub press_on-requires-clause-on_sheet : goal.press_on-requires-clause-on_sheet
press_on-requires-clause-on_sheet c = λ i h.
    let b = c.args.bundle.now in
    want_coordinate b c.deref_mut.result.now i c.requires.bundle (c.deref_mut.ensures.value ∙ c.in_ok-places.ensures ∙ ap (map (λ (item : Item). item.want)) c.deref-3.ensures.value) h

-- what a lent vector holds when all of it is given back
written_back : {A : Type 0} (count : ℕ) (new old : List A) → length new ≡ count → take count (new ++ old) ≡ new
written_back count new old e = ap (λ k. take k (new ++ old)) (sym e) ∙ take-append_seam new old

pub returns : goal.returns
returns c =
    let b = c.args.bundle.now in
    let fits : FitsSigned w64 c.args.gap = c.ranges.gap in
    let by_left = c.in_ok-by_left.by_left.items in
    let latest = c.in-Some.latest.items in
    let wants = c.deref_mut.result.now in
    let pressed = c.press_on.new.places in
    let found : MatchOption c.in_ok-latest.field-0 (HasNoPositions b c.args.gap) (λ places. IsLatest b c.args.gap places.items) = simp to_z-of_z at c.in_ok-latest.ensures in
    let keeps : All (IsRuleKept c.args.gap pressed) c.deref-4.result.now = simp to_z-of_z at c.press_on.ensures.keeps in
    let same = subst (λ rs. IsPermutation rs by_left) c.deref.ensures.value c.in_ok-by_left.ensures.same in
    let wanted : wants ≡ map (λ (item : Item). item.want) b.items.items = c.deref_mut.ensures.value ∙ c.in_ok-places.ensures ∙ ap (map (λ (item : Item). item.want)) c.deref-3.ensures.value in
    let is_latest : IsLatest b c.args.gap latest = MatchOption-at_some (HasNoPositions b c.args.gap) (λ places. IsLatest b c.args.gap places.items) c.in-Some.latest c.in-Some.is found in
    let n : length pressed ≡ length wants = c.press_on.auto.places in
    let lent : c.deref_mut-2.result.now ≡ pressed = c.deref_mut-2.ensures.value ∙ written_back c.in_ok-places.places.len pressed _ (n ∙ c.deref_mut.ensures.len) in
    let m : length c.draw_back.new.places ≡ length pressed = c.draw_back.auto.places ∙ ap length lent in
    let v : c.deref-6.result.now ≡ c.draw_back.new.places = c.deref-6.ensures.value ∙ written_back c.in_ok-places.places.len c.draw_back.new.places _ (m ∙ n ∙ c.deref_mut.ensures.len) in
    let a : (i : ℕ) → i < length latest → int_at c.draw_back.new.places i ≡ int_min (int_at latest i) (int_at pressed i) =
    subst (λ ys. (i : ℕ) → i < length latest → int_at c.draw_back.new.places i ≡ int_min (int_at latest i) (int_at ys i)) lent
    (subst (λ xs. (i : ℕ) → i < length xs → int_at c.draw_back.new.places i ≡ int_min (int_at xs i) (int_at c.deref_mut-2.result.now i)) c.deref-5.ensures.value c.draw_back.ensures) in
    let drawn : AreDrawn b c.args.gap by_left latest wants pressed c.draw_back.new.places = record {
      ok = c.requires.bundle;
      same = same;
      is_latest = is_latest;
      wanted = wanted;
      on = λ i h. c.press_on.ensures.on i (omega (arith, h, n));
      keeps = subst (All (IsRuleKept c.args.gap pressed)) c.deref-4.ensures.value keeps;
      pressed_count = n;
      count = m;
      drawn = a;
    } in
    let places = c.draw_back.new.places in
    IfOk-weaker c.with_wall.result
    _
    _
    (λ all same. subst (AreStartPlaces b c.args.gap) (sym (same ∙ ap walled v)) (are_start b c.args.gap places c.requires.bundle (drawn_whole b c.args.gap by_left latest wants pressed places drawn)))
    c.with_wall.ensures
