-- The best is a cheapest of the choices so far that fit.
use Rattle.std.proofs.Common.{take}
use Rattle.route_check.specs.Choices.{FitsRun, IsCheapestIfAny}
use Rattle.route_check.proofs.choice.cheapest.Given as goal

abbrev pub invariant-loop-choice : goal.invariant-loop-choice
invariant-loop-choice l = IsCheapestIfAny (FitsRun l.pin l.dir l.most) (take l.choice-index l.choices) l.best
