-- The goals of `Reach::begin` that the check leaves.
use Rattle.std.proofs.Common.{ℕ, ◌<◌, ◌++◌, ◌∷◌, [], Option, Some, None, length, set, replicate, arith, refl, ap, ◌∙◌, to_z, of_z, to_z-of_z, pos, ◌-ℤ◌}
use mir.Syntax.{w128}
use Rattle.std.proofs.lemmas.List.{get_or_read, length-replicate}
use Rattle.separation_model.specs.Bundle.{int_at}
use Rattle.separation_solve.specs.declared.reach.Step.{Step}
use Rattle.separation_solve.proofs.LightFractions.Spots.{cast_is}
use Rattle.separation_solve.proofs.Searches.Searching.{excess_fits, reach_new, short_fits}
use Rattle.separation_solve.proofs.reach.Reach.begin.Goals as goal

pub overflow_sub-index : goal.overflow_sub-index
overflow_sub-index c =
    let n = c.args.network.now in
    let inside : c.args.start < length n.excess.items = omega (arith, c.requires.item, c.requires.sound.frame.excess) in
    let e = cast_is w128 c.index.result.now (int_at n.excess.items c.args.start) (get_or_read n.excess.items c.args.start c.index.result.now inside c.index.ensures (pos 0)) (excess_fits n c.args.start c.requires.sound) in
    rw e (short_fits n c.args.start c.requires.sound)

pub returns : goal.returns
returns c =
    let n = c.args.network.now in
    let sound = c.requires.sound in
    let inside : c.args.start < length n.excess.items = omega (arith, c.requires.item, sound.frame.excess) in
    let e = cast_is w128 c.index.result.now (int_at n.excess.items c.args.start) (get_or_read n.excess.items c.args.start c.index.result.now inside c.index.ensures (pos 0)) (excess_fits n c.args.start sound) in
    let capacity = ap (λ z. to_z w128 (of_z w128 (pos 0 -ℤ z))) e ∙ to_z-of_z (short_fits n c.args.start sound) in
    let first : Step = record { node = c.args.start; via = None; offset = pos 0; capacity = to_z w128 (of_z w128 (pos 0 -ℤ to_z w128 (of_z w128 c.index.result.now))) } in
    reach_new n c.args.start _ first sound c.requires.item c.requires.short refl refl refl capacity (c.in_ok-push.ensures.items ∙ ap (λ l. l ++ first ∷ []) c.clear.ensures.steps)
    (ap (λ l. set l c.args.start (Some 0)) (c.clear.ensures.found ∙ ap (λ k. replicate k None) c.requires.table.nodes))

pub index_mut-requires : goal.index_mut-requires
index_mut-requires c = omega (arith, c.requires.item, c.requires.table.nodes, c.clear.new.self.found.ok, ap length c.clear.ensures.found, length-replicate {A = Option ℕ})
