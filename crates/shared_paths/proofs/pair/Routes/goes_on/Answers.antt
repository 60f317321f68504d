-- Routes that go on leave their runs as far.
use Rattle.std.proofs.Common.{◌≡◌, ◌∙◌, sym, ap, subst}
use Rattle.std.proofs.lemmas.Bool.{false≢true}
use Rattle.std.proofs.lemmas.List.{get_or_default}
use Rattle.plane_geom.specs.declared.point.Dir.TheVariants.{East}
use Rattle.segment_order.specs.declared.run.Run.{Run}
use Rattle.segment_order.specs.Run.{no_run, run_at}
use Rattle.segment_order.specs.Ray.{reach_in}
use Rattle.shared_paths.specs.Pairs.{GoesOn, outward}
use Rattle.shared_paths.specs.Views.{view}
use Rattle.shared_paths.proofs.Rays.Entries.{one_reach}
use Rattle.shared_paths.proofs.pair.Routes.goes_on.Goals as goal

-- what the generated proof reads past the end
abbrev any_run : Run
any_run = record no_run { heading = East }

pub returns-then-not-ends_alike : goal.returns-then-not-ends_alike
returns-then-not-ends_alike c =
    let a = c.args.self.a.now in
    let b = c.args.self.b.now in
    let p = c.args.pair in
    let d = outward a c.args.ahead (view p) in
    let as_far = λ (goes : GoesOn a b c.args.ahead (view p)).
    subst (λ d. reach_in d (run_at a p.a) ≡ reach_in d (run_at b p.b)) (sym c.outward-dir.ensures) (one_reach a b (run_at a p.a) (run_at b p.b) d goes.same goes.turns) in (
      λ no. absurd (false≢true no),
      λ goes.
          let r = c.outward-dir.result in
          sym c.if-not-ends_alike.true ∙ c.ends_alike.ensures.1
          (ap (reach_in r) (get_or_default a p.a any_run no_run c.requires.a) ∙ as_far goes ∙ ap (reach_in r) (sym (get_or_default b p.b any_run no_run c.requires.b))),
    )
