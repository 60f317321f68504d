-- Why a connector is stale, or current.
use Rattle.std.proofs.Common.{◌≡◌, Some, sym, ap, subst, ◌∙◌, eqb, arith, true≢false}
use Rattle.std.proofs.lemmas.Int.{ints}
use Rattle.std.proofs.lemmas.Bool.{OnTrue_from, OnFalse_from}
use Rattle.std.proofs.lemmas.Bool.Decides.{Decides-eqb}
use Rattle.std.proofs.lemmas.Option.{none-some}
use Rattle.scene_model.specs.declared.settings.Settings.{Settings}
use Rattle.scene_model.specs.Scene.{edge_with}
use Rattle.scene_model.specs.Stale.{IsCurrent, IsStale, is_open, looks, looks_different}
use Rattle.scene_model.proofs.Editing.Entries.{key_found}
use Rattle.scene_model.proofs.Editing.Edges.{number_of}
use Rattle.route_book.proofs.Comparing.Opened.{same_open}
use Rattle.route_book.proofs.Staying.Reuse.{answered_edge, was_answered}
use Rattle.route_book.proofs.comparison.Comparison.is_stale.Goals as goal

pub returns-in_default-edge-clause-stale : goal.returns-in_default-edge-clause-stale
returns-in_default-edge-clause-stale c =
    let there = answered_edge c.args.self.now.old.now c.args.answers.now c.args.edge.now.number c.in-Some.answer.now c.requires.right (sym c.in-Some.ensures) in
    absurd (none-some there.0 (c.in_default-edge.ensures ∙ there.1))

pub returns-then-not-looks_same-clause-stale : goal.returns-then-not-looks_same-clause-stale
returns-then-not-looks_same-clause-stale c =
    looks_different c.in-Some-edge.was.now (sym c.in-Some-edge.ensures) (λ same. true≢false (sym (c.looks_same.ensures.1 same) ∙ c.if-not-looks_same.true))

pub is_open-requires-clause-known : goal.is_open-requires-clause-known
is_open-requires-clause-known c =
    let old = c.args.self.now.old.now in
    let was = c.in-Some-edge.was.now in
    let known = sym c.in-Some-edge.ensures in
    subst (λ k. edge_with old k ≡ Some was) (sym (key_found number_of eqb Decides-eqb c.args.edge.now.number old.edges was known)) known

pub is_open-requires-clause-right : goal.is_open-requires-clause-right
is_open-requires-clause-right c =
    was_answered c.args.self.now.old.now c.args.answers.now c.args.edge.now.number c.in-Some-edge.was.now c.in-Some.answer.now c.settings-penalty.ensures.valid c.requires.right (sym c.in-Some-edge.ensures) (sym c.in-Some.ensures)

pub returns-clause-stale : goal.returns-clause-stale
returns-clause-stale c =
    let old = c.args.self.now.old.now in
    let new = c.args.self.now.new.now in
    let was = c.in-Some-edge.was.now in
    let edge = c.args.edge.now in
    let answer = c.in-Some.answer.now in
    let same : looks old was ≡ looks new edge = c.looks_same.ensures.0 c.if-not-looks_same.false in
    OnTrue_from c.is_open.result (IsStale old c.args.answers.now new edge) (λ h. is_open answer (sym c.in-Some.ensures) (same_open old new old new was edge answer.route same (c.is_open.ensures.0 h)))

pub returns-clause-current : goal.returns-clause-current
returns-clause-current c =
    let old = c.args.self.now.old.now in
    let new = c.args.self.now.new.now in
    let was = c.in-Some-edge.was.now in
    let edge = c.args.edge.now in
    let answer = c.in-Some.answer.now in
    let same : looks old was ≡ looks new edge = c.looks_same.ensures.0 c.if-not-looks_same.false in
    let test = c.if-penalty-settings.false in
    let left : c.settings-penalty.result.penalty ≡ old.settings.penalty = ap (λ (t : Settings). t.penalty) c.settings-penalty.ensures.value in
    let right : c.settings.result.penalty ≡ new.settings.penalty = ap (λ (t : Settings). t.penalty) c.settings.ensures.value in
    let low = c.settings-penalty.ensures.valid.settings.penalty in
    let high = c.settings-penalty.ensures.valid.settings.low_penalty in
    let low_new = c.settings.ensures.valid.settings.penalty in
    let high_new = c.settings.ensures.valid.settings.low_penalty in
    let penalty : old.settings.penalty ≡ new.settings.penalty = omega (arith, ints, test, left, right, low, high, low_new, high_new) in
    OnFalse_from c.is_open.result (IsCurrent old c.args.answers.now new edge) (λ h. record {
      was = was;
      answer = answer;
      is_was = sym c.in-Some-edge.ensures;
      is_answer = sym c.in-Some.ensures;
      looks_same = same;
      bends_cost_the_same = penalty;
      is_closed = λ why. true≢false (sym (c.is_open.ensures.1 (same_open old new new old edge was answer.route (sym same) why)) ∙ h);
    })
