-- The order of runs is a total order of their keys.
use Rattle.std.specs.Cmp.{IsTotalOrder}
use Rattle.std.proofs.lemmas.Cmp.{nat_cmp_total, int_cmp_total, on_total, then_total, lists_total}
use Rattle.segment_order.specs.Ray.{rank_of, value_of, entry_cmp}
use Rattle.segment_order.specs.Order.{Key, compare_keys}

entries_total : IsTotalOrder entry_cmp
entries_total = then_total (on_total rank_of nat_cmp_total) (on_total value_of int_cmp_total)

pub keys_total : IsTotalOrder compare_keys
keys_total =
    then_total (on_total (λ (k : Key). k.at) int_cmp_total)
    (then_total (on_total (λ (k : Key). k.first) (lists_total entries_total))
    (then_total (on_total (λ (k : Key). k.second) (lists_total entries_total))
    (then_total (on_total (λ (k : Key). k.edge) nat_cmp_total)
    (on_total (λ (k : Key). k.place) nat_cmp_total))))
