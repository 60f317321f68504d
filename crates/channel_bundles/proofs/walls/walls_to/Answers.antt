-- A sort only moves the walls.
use Rattle.std.proofs.Common.{◌≡◌, ◌∙◌, ap, subst, map, rules}
use Rattle.std.specs.Prelude.{IsPermutation}
use Rattle.std.proofs.lemmas.List.{take_all}
use Rattle.std.proofs.lemmas.List.Sorted.{answers_always}
use Rattle.channel_bundles.specs.declared.walls.Wall.{Wall}
use Rattle.channel_bundles.specs.Walls.{wall_of}
use Rattle.channel_bundles.proofs.Spans.{rises}
use Rattle.channel_bundles.proofs.walls.walls_to.Goals as goal

pub returns : goal.returns
returns c =
    let side = wall_of c.args.dir in
    let solids = c.args.solids.now in
    let new = c.sort_unstable_by_key.new.self.items in
    let all : c.loop-solid.walls.items ≡ map side solids = c.loop-solid.invariant ∙ ap (map side) (take_all c.loop-solid.solid-index solids c.loop-solid-test.false) in
    record {
      all = subst (λ xs. IsPermutation xs new) all c.sort_unstable_by_key.ensures.permutation;
      rise = rises (λ (w : Wall). w.at) new (c.sort_unstable_by_key.ensures.sorted (λ (w : Wall). w.at) (answers_always _ _ _ (λ f a r g h. search rules)));
    }
