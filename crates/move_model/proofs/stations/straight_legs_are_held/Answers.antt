-- By the law of runs, at the numbers of the steps.
use Rattle.move_model.proofs.Stopping.HeldLegs.{held_legs}
use Rattle.move_model.proofs.stations.straight_legs_are_held.Goals as goal

pub returns : goal.returns
returns c = λ solids a task t arena is_task first along x y p q d l ls m back h behind_port leads straight at_q turned turns.
    held_legs solids a arena task t is_task along first x y p q d l ls m back h behind_port leads straight at_q turned turns
