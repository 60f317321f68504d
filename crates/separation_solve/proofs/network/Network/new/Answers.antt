-- The parts of a new network fit together.
use Rattle.std.proofs.Common.{false, arith, ap, sym, subst, ◌∙◌, map, to_z, of_z, to_z-of_z}
use Rattle.std.specs.Int.{w64}
use Rattle.separation_model.specs.declared.bundle.Item.{Item}
use Rattle.separation_solve.specs.declared.network.Network.{Network}
use Rattle.separation_model.specs.Gap.{IsGap}
use Rattle.separation_solve.proofs.Networks.Frames.{IsMade, made_frame, made_kept}
use Rattle.separation_solve.proofs.Networks.Upright.{kept_same, network_on}
use Rattle.separation_solve.proofs.network.Network.new.Goals as goal

pub relist-requires : goal.relist-requires
relist-requires c =
    let b = c.args.bundle.now in
    let gap = to_z w64 (of_z w64 c.args.gap) in
    let is = subst (IsGap b) (sym (to_z-of_z c.ranges.gap)) c.requires.gap in
    let n : Network = record {
      links = c.in_ok-links.links;
      tight = c.in_ok-empty_lists.field-0;
      wants = c.in_ok-wants_of.field-0;
      weights = c.in_ok-weights_of.field-0;
      mirrored = false;
      places = c.in_ok-places.places;
      flow = c.in_ok-vec.field-0;
      excess = c.in_ok-vec-2.field-0;
    } in
    let made : IsMade b gap n = record {
      links = c.in_ok-links.ensures;
      wants = c.in_ok-wants_of.ensures ∙ ap (map (λ (item : Item). item.want)) c.deref.ensures.value;
      weights = c.in_ok-weights_of.ensures ∙ ap (map (λ (item : Item). item.weight)) c.deref-2.ensures.value;
      places = c.in_ok-places.ensures;
      lists = omega (arith, c.in_ok-empty_lists.ensures, c.len.ensures, c.in_ok-places.ensures.count, c.in_ok-places.places.ok);
      flow = omega (arith, c.in_ok-vec.ensures.len, c.in_ok-vec.field-0.ok, c.len-2.ensures, c.in_ok-links.links.ok);
      excess = omega (arith, c.in_ok-vec-2.ensures.len, c.in_ok-vec-2.field-0.ok, c.len-3.ensures, b.items.ok);
    } in
    record { frame = made_frame b gap n c.requires.bundle is made; kept = made_kept b gap n made }

pub returns-clause-of_bundle : goal.returns-clause-of_bundle
returns-clause-of_bundle c =
    network_on (network_on (record {
      links = rw (to_z-of_z c.ranges.gap) at c.in_ok-links.ensures;
      wants = c.in_ok-wants_of.ensures ∙ ap (map (λ (item : Item). item.want)) c.deref.ensures.value;
      weights = c.in_ok-weights_of.ensures ∙ ap (map (λ (item : Item). item.weight)) c.deref-2.ensures.value;
    }) (kept_same c.in_ok-relist.ensures.bundle)) (kept_same c.release.ensures.bundle)
