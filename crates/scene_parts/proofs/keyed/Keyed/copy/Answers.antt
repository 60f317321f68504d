-- No entry before the copied one has its id.
use Rattle.std.proofs.Common.{◌≢◌, refl, sym, ap, subst, ◌∙◌, length, int_eq}
use Rattle.std.specs.Prelude.{find, AllPairs}
use Rattle.std.proofs.lemmas.Option.{slice_get_read}
use Rattle.scene_parts.proofs.Places.{fresh}
use Rattle.scene_parts.proofs.keyed.Keyed.copy.Goals as goal

pub push-requires : goal.push-requires
push-requires g c =
    let xs = c.as_slice-entry-items.result.now in
    let key = g.T.Entry.id_of in
    let at = slice_get_read xs (length xs) c.loop-entry.entry-index c.entry-item.result refl c.loop-entry-test.true c.entry-item.is in
    let differ = subst (AllPairs (λ x y. key x ≢ key y)) (sym c.as_slice-entry-items.ensures) c.requires.differ in
    record {
      new = ap (λ e. find (λ x. int_eq (key x) (key e)) c.loop-entry.copied) c.in_ok-copied.ensures
          ∙ ap (find (λ x. int_eq (key x) (key c.entry-item.result))) c.loop-entry.invariant
          ∙ fresh key xs c.loop-entry.entry-index c.entry-item.result differ at;
    }
