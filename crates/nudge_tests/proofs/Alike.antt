-- Bundles of many items like one, for tests alone.
use Rattle.std.proofs.Common.{◌≡◌, ℕ, ◌<◌, ◌≤◌, pos, ◌≤ℤ◌, length, replicate, All, ap, ◌∙◌, arith}
use Rattle.std.specs.Prelude.{slice_index_or}
use Rattle.std.proofs.lemmas.Int.{ints}
use Rattle.std.proofs.lemmas.List.{get_or-replicate, length-replicate}
use Rattle.std.proofs.lemmas.List.Elements.{All-replicate, All-same}
use Rattle.separation_model.specs.declared.bundle.Item.{Item}
use Rattle.separation_model.specs.declared.bundle.Bundle.{Bundle}
use Rattle.separation_model.specs.Bundle.{IsBundle, IsItem, item_at, no_item}
use Rattle.separation_solve.specs.Start.{IsForward}

pub row_is_bundle : (b : Bundle) (item : Item) (count : ℕ) → b.items.items ≡ replicate count item → All (IsForward count) b.rules.items → count ≤ 1000 → IsItem item → pos 0 ≤ℤ b.wanted → b.wanted ≤ℤ pos 1000000 → IsBundle b
row_is_bundle b item count items rules few is low high =
    let many : length b.items.items ≡ count = ap length items ∙ length-replicate count item in
    let at : (i : ℕ) → i < count → item_at b.items.items i ≡ item = λ i l. ap (λ is. item_at is i) items ∙ get_or-replicate count i item no_item l in
    record {
      few = omega (arith, many, few);
      items = All-same IsItem b.items.items (replicate count item) items (All-replicate IsItem count item is);
      rules = λ k d l.
          let rule = slice_index_or b.rules.items k d in
          let is_forward = rules k d l in
          let left = at rule.left (omega (arith, is_forward.forward, is_forward.within)) in
          let right = at rule.right is_forward.within in
          record {
            forward = is_forward.forward;
            within = omega (arith, many, is_forward.within);
            ordered = rw (left, right) (omega (arith, ints));
          };
      wanted_low = low;
      wanted_high = high;
    }
