-- The goals of `Network::first_contact` that the check leaves.
use Rattle.std.proofs.Common.{◌≡◌, ◌+◌, ⊎_elim, sym, subst, ◌∙◌}
use Rattle.separation_solve.specs.declared.fraction.Fraction.{Fraction}
use Rattle.separation_solve.specs.Fraction.{IsNotBeyond}
use Rattle.separation_solve.specs.Network.{link_at}
use Rattle.separation_solve.specs.Block.{IsContact}
use Rattle.separation_solve.specs.Reach.{start_of}
use Rattle.separation_solve.proofs.Blocks.Contacts.{FirstSoFar, first_other, first_later, first_nearer}
use Rattle.separation_solve.proofs.network.Network.first_contact.Goals as goal
use Rattle.separation_solve.proofs.network.Network.first_contact.Goals.{in-Some, in_default}

pub loop-index-preserved : goal.loop-index-preserved
loop-index-preserved c =
    let n = c.args.self.now in
    let r = c.args.block.now in
    let j = c.loop-index.index in
    let so = c.loop-index.invariant in
    let motive = λ (p : Fraction). FirstSoFar n (start_of c.args.block.now) r c.args.best p (j + 1) in
    elim c.match-contact.branch [
      | in-Some w ↦
          let contact = w.in-Some.contact in
          let at : IsContact n (start_of c.args.block.now) r (link_at n.links.items j) contact = w.in-Some.ensures in
          ⊎_elim
          (λ (near : (w.min-place.result ≡ contact) × IsNotBeyond contact c.loop-index.place). subst motive (sym (w.place-is ∙ near.0)) (first_nearer n (start_of c.args.block.now) r c.args.best c.loop-index.place contact j so at near.1))
          (λ (later : (w.min-place.result ≡ c.loop-index.place) × IsNotBeyond c.loop-index.place contact). subst motive (sym (w.place-is ∙ later.0)) (first_later n (start_of c.args.block.now) r c.args.best c.loop-index.place contact j so at later.1))
          w.min-place.ensures
      | in_default w ↦ subst motive (sym w.place-is) (first_other n (start_of c.args.block.now) r c.args.best c.loop-index.place j so w.in_default.ensures)
    ]
