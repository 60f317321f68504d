-- What is the same of both edges.
use Rattle.std.proofs.Common.{◌≡◌, sym, ◌∙◌, true≢false, arith, w64, to_z, of_z}
use Rattle.std.specs.Prelude.{Decides}
use Rattle.std.proofs.lemmas.Int.{ints}
use Rattle.std.proofs.lemmas.Bool.Decides.{Decides-at}
use Rattle.std.proofs.lemmas.Slice.Eq.{slice_eq-Decides}
use Rattle.route_book.proofs.Comparing.Same.{ids_same, numbers_same, point_same}
use Rattle.route_book.proofs.shapes.ask_same.Goals as goal
use Rattle.route_book.proofs.shapes.ask_same.Goals.{then-eq, else-eq}

pub returns-then-eq-2 : goal.returns-then-eq-2
returns-then-eq-2 c =
    let one = c.args.one.now in
    let other = c.args.other.now in
    let test = c.if-eq-2.true in
    let via : Decides c.eq-then-eq-2.result (c.as_slice.result.now ≡ c.as_slice-then-eq-2.result.now) = slice_eq-Decides point_same c.as_slice.result.now c.as_slice-then-eq-2.result.now c.eq-then-eq-2.result c.eq-then-eq-2.ensures in
    let ends = Decides-at c.eq.result _ c.eq.ensures (ids_same (to_z w64 (of_z w64 one.from)) (to_z w64 (of_z w64 other.from)) (to_z w64 (of_z w64 one.to)) (to_z w64 (of_z w64 other.to))) in
    elim c.if-eq.branch [
      | then-eq w ↦
          let same = ends.0 w.if-eq.true in
          let here : to_z w64 (of_z w64 one.from) ≡ to_z w64 (of_z w64 other.from) = same.0 in
          let there : to_z w64 (of_z w64 one.to) ≡ to_z w64 (of_z w64 other.to) = same.1 in
          let from : one.from ≡ other.from = omega (arith, ints, here) in
          let to : one.to ≡ other.to = omega (arith, ints, there) in
          let classes = (Decides-at w.eq-then-eq.result _ w.eq-then-eq.ensures (numbers_same one.from_class other.from_class one.to_class other.to_class)).0 (sym w.value-is ∙ test) in (
            λ h. record { from = from; to = to; from_class = classes.0; to_class = classes.1; via = sym c.as_slice.ensures ∙ via.0 h ∙ c.as_slice-then-eq-2.ensures },
            λ a. via.1 (c.as_slice.ensures ∙ a.via ∙ sym c.as_slice-then-eq-2.ensures),
          )
      | else-eq w ↦ absurd (true≢false (sym test ∙ w.value-is ∙ w.if-eq.false))
    ]
