-- The order of runs on a line.
use Rattle.std.specs.Prelude.{ℕ, ℤ, List}
use Rattle.std.specs.declared.cmp.Ordering.{Ordering}
use Rattle.std.specs.Ordering.{nat_cmp, int_cmp, ordering_then}
use Rattle.std.specs.Cmp.Lexicographic.{slice_cmp}
use Rattle.plane_geom.specs.Along.{rising}
use Rattle.plane_geom.specs.Point.{opposite}
use Rattle.segment_order.specs.declared.run.Run.{Run}
use Rattle.segment_order.specs.declared.ray.Entry.{Entry}
use Rattle.segment_order.specs.Ray.{ray, entry_cmp}

-- the keys by which runs are ordered
pub record Key : Type 0 where
  pub at : ℤ
  pub first : List Entry
  pub second : List Entry
  pub edge : ℕ
  pub place : ℕ

-- the key of a run of the route
abbrev pub key_of : List Run → Run → Key
key_of route r = record { at = r.at; first = ray route r (opposite (rising r.way)); second = ray route r (rising r.way); edge = r.edge; place = r.place }

-- compares two keys part by part
abbrev pub compare_keys : Key → Key → Ordering
compare_keys a b =
    ordering_then (int_cmp a.at b.at)
    (ordering_then (slice_cmp entry_cmp a.first b.first)
    (ordering_then (slice_cmp entry_cmp a.second b.second)
    (ordering_then (nat_cmp a.edge b.edge)
    (nat_cmp a.place b.place))))
