-- The next entry is joined, where it leads in the direction; in the end all are covered.
use Rattle.std.proofs.Common.{◌+◌, Option, take, sym, subst, refl, ◌∙◌}
use Rattle.std.proofs.lemmas.Bool.{false≢true}
use Rattle.search_problem.specs.declared.origin.Origin.{Origin}
use Rattle.search_problem.proofs.Origins.{IsFound, found_joined, found_same}
use Rattle.search_problem.proofs.origin.origin_of.Goals as goal
use Rattle.search_problem.proofs.origin.origin_of.Goals.{then-leads, else-leads}

pub loop-entry-preserved : goal.loop-entry-preserved
loop-entry-preserved c =
    let es = c.args.entries.now in
    let i = c.loop-entry.entry-index in
    let e = c.entry-item.result in
    elim c.if-leads.branch [
      | then-leads w ↦ subst (λ (o : Option Origin). IsFound o c.args.dir (take (i + 1) es)) (sym w.found-is)
          (found_joined c.args.dir es i e c.loop-entry-test.true c.entry-item.is c.loop-entry.found w.joined.result c.loop-entry.invariant w.joined.ensures.origin (w.joined.ensures.dir ∙ w.if-leads.ensures.0 refl) w.joined.ensures.entry w.joined.ensures.others)
      | else-leads w ↦ subst (λ (o : Option Origin). IsFound o c.args.dir (take (i + 1) es)) (sym w.found-is)
          (found_same c.args.dir es i e c.loop-entry-test.true c.entry-item.is c.loop-entry.found (λ same. false≢true (w.if-leads.ensures.1 same)) c.loop-entry.invariant)
    ]
