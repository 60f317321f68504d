-- One row more; in the end all.
use Rattle.std.proofs.Common.{◌≡◌, ℕ, AllPairs, None, Ok, true, false, pos, get_or, sym, ap, subst, refl, ◌∙◌, arith, inl, inr}
use Rattle.std.proofs.lemmas.Bool.{cases_lt}
use Rattle.std.specs.Prelude.{IsTrue}
use Rattle.std.proofs.lemmas.List.{take_all}
use Rattle.proof_model.specs.Labels.{is_before}
use Rattle.proof_model.specs.declared.proof.LabelRow.{LabelRow}
use Rattle.route_audit.specs.Rows.{IsRowIn}
use Rattle.route_audit.proofs.RowsIn.{row_in, row_on}
use Rattle.route_audit.proofs.rows.put_rows.Goals as goal

pub returns-then-not-branch-clause-good : goal.returns-then-not-branch-clause-good
returns-then-not-branch-clause-good c = λ floor task stands long.
    let a = c.args.arena.now in
    let place = c.loop-place.place in
    let d : LabelRow = record { stage = 0; at = record { x = pos 0; y = pos 0 }; east = None; south = None; west = None; north = None } in (
      λ never. absurd (let both : false ≡ true = never in cc),
      λ are. sym c.if-not-branch.true ∙ (c.in_ok-put_row.ensures.good d).1
          (row_in floor a c.laws.ensures.arena stands task c.args.last long c.args.claim.now _ (are.each place d c.loop-place-test.true)),
    )

pub loop-place-preserved : goal.loop-place-preserved
loop-place-preserved c =
    let inv = c.loop-place.invariant in
    let rows = c.args.rows.now in
    let place = c.loop-place.place in
    let fact : ℕ → LabelRow → Type 0 = λ k d. IsRowIn c.args.arena.now c.args.last c.args.claim.now (get_or rows k d) in
    record {
      rise = c.if-not-comes_next.ensures.0 refl;
      each = λ k d less. elim (cases_lt k place) as (λ _. fact k d) [
        | inl before ↦ inv.each k d before
        | inr here ↦ (let same : place ≡ k = omega (arith, here, less) in
            subst (λ n. fact n d) same ((c.in_ok-put_row.ensures.good d).0 c.if-not-branch.false))
      ];
      indexed = c.in_ok-put_row.ensures.indexed (ap Ok c.if-not-branch.false);
    }

pub returns-clause-good : goal.returns-clause-good
returns-clause-good c = λ floor task stands long.
    let all = take_all c.loop-place.place c.args.rows.now c.loop-place-test.false in
    let inv = c.loop-place.invariant in (
      λ _. record {
        rise = subst (AllPairs (λ r s. IsTrue (is_before r s))) all inv.rise;
        each = λ k d within. row_on floor c.args.arena.now c.laws.ensures.arena stands task c.args.last long c.args.claim.now _
            (inv.each k d (omega (arith, within, c.loop-place-test.false)));
      },
      λ _. refl,
    )
