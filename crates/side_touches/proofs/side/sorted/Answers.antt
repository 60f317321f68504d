-- A sort only moves the sides.
use Rattle.std.proofs.Common.{◌≡◌, ◌∙◌, ap, subst, map, rules}
use Rattle.std.specs.Prelude.{IsPermutation}
use Rattle.std.proofs.lemmas.List.{take_all}
use Rattle.std.proofs.lemmas.List.Sorted.{answers_always}
use Rattle.plane_geom.specs.declared.rect.Solid.{Solid}
use Rattle.side_touches.specs.declared.side.Side.{Side}
use Rattle.side_touches.specs.Sides.{side_of}
use Rattle.side_touches.proofs.InOrder.{rises}
use Rattle.side_touches.proofs.Members.{image_members, moved_members}
use Rattle.side_touches.proofs.side.sorted.Goals as goal

pub returns : goal.returns
returns c =
    let f = λ (s : Solid). side_of c.args.side s.rect in
    let solids = c.args.solids.now in
    let new = c.sort_unstable_by_key.new.self.items in
    let all : c.loop-solid.sides.items ≡ map f solids = c.loop-solid.invariant ∙ ap (map f) (take_all c.loop-solid.solid-index solids c.loop-solid-test.false) in
    let moved = subst (λ xs. IsPermutation xs new) all c.sort_unstable_by_key.ensures.permutation in
    record {
      members = λ x.
          let same = moved_members (map f solids) new x moved in
          let image = image_members f solids x in
          (λ k. image.0 (same.0 k), λ a. same.1 (image.1 a));
      order = rises new (c.sort_unstable_by_key.ensures.sorted (λ (s : Side). s.at) (answers_always _ _ _ (λ f a r g h. search rules)));
    }
