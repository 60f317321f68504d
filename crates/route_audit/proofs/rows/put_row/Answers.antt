-- One row more.
use Rattle.std.proofs.Common.{◌≡◌, ◌<◌, true, false, subst, refl, arith}
use Rattle.std.proofs.lemmas.List.{get_or_default}
use Rattle.line_arena.specs.Arena.{StandsAt}
use Rattle.proof_model.specs.declared.proof.LabelRow.{LabelRow}
use Rattle.route_audit.proofs.Indexing.{indexed_more, last_live}
use Rattle.route_audit.proofs.rows.put_row.Goals as goal

pub crossing_near-requires : goal.crossing_near-requires
crossing_near-requires c = record {
  live = last_live c.args.arena.now c.args.last c.args.rows.now c.args.place c.args.index.now c.requires.indexed c.last.result c.last.ensures;
}

pub returns-in_default-clause-good : goal.returns-in_default-clause-good
returns-in_default-clause-good c = λ d. (
  λ never. absurd (let both : false ≡ true = never in cc),
  λ row.
      absurd (c.in_default.ensures.absent.0 refl row.crossing.0 (subst (λ (r : LabelRow). StandsAt c.args.arena.now row.crossing.0 r.at)
      (get_or_default c.args.rows.now c.args.place d _ c.requires.place) row.crossing.1)),
)

pub returns-clause-indexed : goal.returns-clause-indexed
returns-clause-indexed c = λ _.
    let few : c.in-Some.crossing < c.args.arena.now.places = omega (arith, c.index-number.ensures.number, c.index-number.ensures.within) in
    indexed_more c.args.arena.now c.laws.ensures.arena c.args.last c.args.rows.now c.args.place c.args.index.now c.push.new.self c.requires.indexed
    c.requires.place c.requires.rise _ c.in-Some.crossing c.in-Some.ensures.found few (c.if-not-is_fit.ensures.0 refl).stage c.in_ok-push.ensures
