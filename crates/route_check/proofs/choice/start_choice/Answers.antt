-- The choices that fit the first run are those with whose stub the line begins.
use Rattle.std.proofs.lemmas.List.Elements.{All-contains}
use Rattle.walk_model.specs.Choice.{IsChoice}
use Rattle.walk_model.specs.Legal.{Leaves}
use Rattle.walk_model.specs.Line.{walk_through}
use Rattle.route_check.specs.Choices.{FitsRun}
use Rattle.route_check.proofs.Segments.Cheapest.{cheapest_same}
use Rattle.route_check.proofs.OneVerdict.Fitting.{fits_leaves, leaves_fits}
use Rattle.route_check.proofs.choice.start_choice.Goals as goal

pub returns : goal.returns
returns c =
    let w = walk_through c.args.first c.args.rest.now in
    let run = c.first_run-run.result in
    let is = c.first_run-run.ensures in
    cheapest_same (FitsRun c.args.first run.heading run.length) (Leaves w) c.args.choices.now c.cheapest.result
    (λ x _. fits_leaves w run is x)
    (λ x in'. leaves_fits w run is x (All-contains IsChoice c.args.choices.now x c.requires.choices.each in'))
    c.cheapest.ensures
