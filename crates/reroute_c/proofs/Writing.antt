-- A list is written over the front of another, item by item.
use Rattle.std.proofs.Common.{◌≡◌, ℕ, ◌+◌, ◌<◌, List, length, map, get_or, set, arith, sym, ◌∙◌}
use Rattle.std.proofs.lemmas.List.{get_or-map, length-map}
use Rattle.std.proofs.lemmas.List.Edits.{paste_more}
use Rattle.std.proofs.Math.Nat.{zero-add}
use Rattle.reroute_c.specs.Files.{put_front}

-- one more item is written
pub one_written : {X Y : Type 0} (f : X → Y) (xs : List X) (old : List Y) (i : ℕ) (d : X) (y : Y) → i < length xs → i < length old → y ≡ f (get_or xs i d) →
    set (put_front i (map f xs) old) i y ≡ put_front (i + 1) (map f xs) old
one_written f xs old i d y here room is =
    let more = paste_more old 0 (map f xs) i y (omega arith) (omega (arith, length-map xs f)) in
    rw (is ∙ sym (get_or-map f xs i d y here)) (simp zero-add at more)
