-- No path begins at the one stretch and those after the first that it does not reach; else one more is added.
use Rattle.std.proofs.Common.{inl, inr, sym, ◌∙◌, suc, arith}
use Rattle.std.specs.Prelude.{Contains}
use Rattle.std.proofs.lemmas.Bool.{cases_lt, false≢true}
use Rattle.shared_paths.proofs.AllPaths.Starting.{one_more, stop_here}
use Rattle.shared_paths.proofs.AllPaths.Stretches.{any_stretch}
use Rattle.shared_paths.proofs.start.add_starts.Goals as goal

pub returns-then-not-reaches-clause-all : goal.returns-then-not-reaches-clause-all
returns-then-not-reaches-clause-all c = λ s x has e is.
    let i = c.loop-other.other-index in
    elim (cases_lt has.0 i) as (λ _. Contains c.loop-other.found.keys s) [
      | inl below ↦ c.loop-other.invariant.all s has.0 x below has.1 has.2 e is
      | inr past ↦ absurd (stop_here c.args.routes.now c.args.one.now c.args.later.now i any_stretch c.requires.one c.requires.later c.requires.order c.loop-other-test.true
          (λ reach. false≢true (sym c.if-not-reaches.true ∙ c.reaches.ensures.1 reach)) s has.0 x past has.1 has.2 e is)
    ]

pub add_start-requires-clause-order : goal.add_start-requires-clause-order
add_start-requires-clause-order c = c.requires.order 0 (suc c.loop-other.other-index) any_stretch (omega arith) (omega (arith, c.loop-other-test.true))

pub loop-other-preserved : goal.loop-other-preserved
loop-other-preserved c =
    one_more c.args.routes.now c.args.one.now c.args.later.now c.loop-other.other-index any_stretch c.args.found.now.keys c.loop-other.found.keys c.add_start.new.found.keys c.loop-other-test.true
    c.in_ok-add_start.ensures.each c.in_ok-add_start.ensures.kept c.in_ok-add_start.ensures.here c.loop-other.invariant
