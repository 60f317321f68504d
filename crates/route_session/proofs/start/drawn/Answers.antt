-- The arena stands for the scene's floor, which fits.
use Rattle.std.proofs.Common.{subst, subst₂, sym, ◌∙◌}
use Rattle.plane_geom.specs.Floor.{IsFloor}
use Rattle.line_arena.specs.Stands.{StandsFor}
use Rattle.route_session.proofs.start.drawn.Goals as goal

pub returns-clause-stands : goal.returns-clause-stands
returns-clause-stands c = subst₂ StandsFor (c.in_ok-graph.ensures.floor ∙ c.in_ok-floor.ensures.floor) c.arena.ensures.arena c.arena.ensures.stands

pub returns-clause-fits : goal.returns-clause-fits
returns-clause-fits c = subst IsFloor (sym c.in_ok-graph.ensures.floor) c.in_ok-floor.ensures.fits
