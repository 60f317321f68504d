-- Heading by heading.
use Rattle.std.proofs.Common.{◌≡◌, ℕ, true, false, get_or, refl, below_more}
use Rattle.plane_geom.specs.declared.point.Dir.TheVariants.{East}
use Rattle.route_search.proofs.Moving.Directions.{directions, each}
use Rattle.route_audit.specs.Rows.{HasRightLabel}
use Rattle.route_audit.proofs.rows.has_right_labels.Goals as goal

pub returns-then-not-has_right_label : goal.returns-then-not-has_right_label
returns-then-not-has_right_label c = (
  λ never. absurd (let both : false ≡ true = never in cc),
  λ all. c.if-not-has_right_label.ensures.1 (all (get_or directions c.loop-heading.heading-index East)),
)

pub loop-heading-preserved : goal.loop-heading-preserved
loop-heading-preserved c =
    below_more (λ (k : ℕ). HasRightLabel c.args.claim.now c.args.row.now (get_or directions k East)) c.loop-heading.heading-index
    c.loop-heading.invariant (c.if-not-has_right_label.ensures.0 refl)

pub returns : goal.returns
returns c = (
  λ _. each (λ h. HasRightLabel c.args.claim.now c.args.row.now h) c.loop-heading.heading-index c.loop-heading.invariant c.loop-heading-test.false,
  λ _. refl,
)
