-- Two ranges have a place in common where each begins before the other ends.
use Rattle.std.proofs.Common.{◌≤ℤ◌, ◌<ℤ◌, w64, FitsSigned, rules, arith}
use Rattle.std.proofs.lemmas.Int.{ints}
use Rattle.channel_bundles.proofs.Ranges.{along_ends}
use Rattle.channel_bundles.proofs.limits.is_along.Goals as goal

pub returns-then-run-wall : goal.returns-then-run-wall
returns-then-run-wall c =
    let start : FitsSigned w64 c.args.wall.now.lo = search rules in
    let end : FitsSigned w64 c.args.wall.now.hi = search rules in
    let lo : FitsSigned w64 c.args.run.now.lo = search rules in
    let hi : FitsSigned w64 c.args.run.now.hi = search rules in
    let before : c.args.run.now.lo <ℤ c.args.wall.now.hi = grind (arith, ints, c.if-run-wall.true) in
    let both = along_ends c.args.wall.now.lo c.args.wall.now.hi c.args.run.now.lo c.args.run.now.hi c.requires.wide c.requires.run.ordered in (
      λ t. both.0 (before, grind (arith, ints, t)),
      λ o. let e = both.1 o in grind (arith, ints, e.1),
    )

pub returns-else-run-wall : goal.returns-else-run-wall
returns-else-run-wall c =
    let hi : FitsSigned w64 c.args.wall.now.hi = search rules in
    let lo : FitsSigned w64 c.args.run.now.lo = search rules in
    let behind : c.args.wall.now.hi ≤ℤ c.args.run.now.lo = grind (arith, ints, c.if-run-wall.false) in
    let both = along_ends c.args.wall.now.lo c.args.wall.now.hi c.args.run.now.lo c.args.run.now.hi c.requires.wide c.requires.run.ordered in (
      λ t. cc,
      λ o. absurd (let e = both.1 o in omega (arith, ints, e.0, behind)),
    )
