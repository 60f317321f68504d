-- The steps that may not meet the node's solid follow the stub from the node and end before the stub to it.
use Rattle.std.proofs.Common.{◌≡◌, ◌-◌, ◌⊎◌, ℕ, ap, of_z, w64, ◌∙◌, inl, inr, arith}
use Rattle.std.proofs.lemmas.Int.{ints}
use Rattle.walk_model.specs.Choice.{stub_length}
use Rattle.route_check.proofs.Collisions.Closed.{closed_is}
use Rattle.route_check.proofs.hit.closed_steps.Goals as goal
use Rattle.route_check.proofs.hit.closed_steps.Goals.{then-node-start, else-node-start}

pub returns-then-node-end : goal.returns-then-node-end
returns-then-node-end c = λ w e k.
    let from : ((c.args.node ≡ c.args.start.now.node) × (c.if-node-start.begin ≡ stub_length c.args.start.now)) ⊎ ((c.args.node ≡ c.args.start.now.node → ⊥) × (c.if-node-start.begin ≡ 0)) =
    elim c.if-node-start.branch [
      | then-node-start b ↦ inl (omega (arith, ints), b.begin-is ∙ b.distance-begin.ensures)
      | else-node-start b ↦ inr (λ same. b.if-node-start.false (ap (of_z w64) same), b.begin-is)
    ] in
    let to : ((c.args.node ≡ c.args.end.now.node) × (c.args.steps - c.distance.result ≡ c.args.steps - stub_length c.args.end.now)) ⊎ ((c.args.node ≡ c.args.end.now.node → ⊥) × (c.args.steps - c.distance.result ≡ c.args.steps)) =
    inl (omega (arith, ints), ap (λ (n : ℕ). c.args.steps - n) c.distance.ensures) in
    closed_is c.args.start.now w c.args.end.now c.args.node c.args.steps _ e from to k
