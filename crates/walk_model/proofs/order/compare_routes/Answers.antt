-- The keys of the routes are those of their walks.
use Rattle.std.proofs.Common.{◌∙◌}
use Rattle.walk_model.proofs.Ranking.Keys.{keys_of_walks, then_assoc}
use Rattle.walk_model.proofs.order.compare_routes.Goals as goal

pub returns-clause-keys : goal.returns-clause-keys
returns-clause-keys c =
    rw (
      c.then-5.ensures,
      c.then-4.ensures,
      c.then-3.ensures,
      c.then-2.ensures,
      c.then.ensures,
      c.cmp.ensures,
      c.cmp-2.ensures,
      c.cmp-3.ensures,
      c.cmp-4.ensures,
      c.compare_steps.ensures,
      c.cmp-5.ensures,
      c.shape_of-a_shape.ensures.runs,
      c.shape_of-b_shape.ensures.runs,
      c.shape_of-a_shape.ensures.lean,
      c.shape_of-b_shape.ensures.lean,
      c.as_slice.ensures,
      c.as_slice-2.ensures,
      c.as_slice-3.ensures,
      c.as_slice-4.ensures,
    )
    (simp then_assoc)

pub returns-clause-order : goal.returns-clause-order
returns-clause-order c = λ task t u r s. returns-clause-keys c ∙ keys_of_walks task _ _ t u r s
