-- The models of the fields of an arena.
use Rattle.std.specs.Prelude.{ℕ, ◌-◌, map}
use Rattle.std.specs.Ordering.{nat_cmp}
use Rattle.std.specs.FinMap.{FinMap, from_entries}
use Rattle.slab.specs.Slab.{Slab, entries, slab_len}
use Rattle.plane_geom.specs.declared.point.Point.{Point}
use Rattle.line_arena.specs.declared.lists.Lists.{Lists}
use Rattle.line_arena.specs.declared.node.Node.{Node}
use Rattle.line_arena.specs.Arena.{Arena, Pair}
use Rattle.line_arena.specs.Entries.{Entered}

-- the slab as a map from its keys to the models of the values
unfoldable pub seen : {T X : Type 0} → (T → X) → Slab T → FinMap nat_cmp X
seen see slab = from_entries (map (λ e. (e.0, see e.1)) (entries slab))

abbrev pub pair_of : Point × Node → Pair
pair_of e = record { vertical = e.1.vertical; horizontal = e.1.horizontal }

-- the number of entries for which there still is room
abbrev pub spare_of : {K V : Type 0} → Entered K V → ℕ
spare_of k = k.room - slab_len k.slab

abbrev pub arena_of : Lists → ℕ → Arena
arena_of a written = record {
  lines = seen (λ e. e.0) a.lines.slab;
  crossings = seen pair_of a.crossings.slab;
  spare_lines = spare_of a.lines;
  spare_crossings = spare_of a.crossings;
  places = a.crossings.slab.capacity;
  written = written;
}
