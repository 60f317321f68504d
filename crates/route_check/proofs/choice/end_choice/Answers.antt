-- The choices that fit the last run are those with whose reversed stub the line ends.
use Rattle.std.proofs.Common.{◌≡◌, ◌≤◌, min, Option, unwrap_or, sym, ap, ◌∙◌}
use Rattle.std.proofs.lemmas.List.Elements.{All-contains}
use Rattle.plane_geom.specs.declared.point.Point.{Point}
use Rattle.plane_geom.specs.Point.{opposite}
use Rattle.walk_model.specs.Choice.{IsChoice, stub_length}
use Rattle.walk_model.specs.Legal.{Arrives}
use Rattle.walk_model.specs.Line.{walk_through}
use Rattle.walk_model.specs.Walk.{end_of}
use Rattle.route_check.specs.Choices.{FitsRun, IsCheapestIfAny}
use Rattle.route_check.proofs.Segments.Cheapest.{cheapest_same}
use Rattle.route_check.proofs.OneVerdict.Fitting.{fits_arrives, arrives_fits, end_is_last}
use Rattle.route_check.proofs.choice.end_choice.Goals as goal

pub returns : goal.returns
returns c =
    let w = walk_through c.args.first c.args.rest.now in
    let run = c.last_run-run.result in
    let is = c.last_run-run.ensures in
    let last : end_of w ≡ c.unwrap_or-last.result =
    end_is_last c.args.first c.args.rest.now c.requires.line.straight c.requires.line.begin_within c.requires.line.within
    ∙ sym (c.unwrap_or-last.ensures ∙ ap (λ (o : Option Point). unwrap_or o c.args.first) (c.copied.ensures ∙ c.last.ensures.value)) in
    let found : IsCheapestIfAny (FitsRun (end_of w) (opposite run.heading) (min run.length c.args.left)) c.args.choices.now c.cheapest.result =
    rw (last, ← c.opposite.ensures, ← c.min.ensures) c.cheapest.ensures in
    cheapest_same (FitsRun (end_of w) (opposite run.heading) (min run.length c.args.left)) (λ x. Arrives w x × (stub_length x ≤ c.args.left)) c.args.choices.now c.cheapest.result
    (λ x _. fits_arrives w run is x c.args.left)
    (λ x in'. arrives_fits w run is x c.args.left (All-contains IsChoice c.args.choices.now x c.requires.choices.each in'))
    found
