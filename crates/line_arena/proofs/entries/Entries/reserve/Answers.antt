-- Where there was room enough, none is made.
use Rattle.std.proofs.Common.{◌≡◌, ◌+◌, ◌≤◌, ℕ, sym, ap, subst, ◌∙◌, arith}
use Rattle.slab.specs.Slab.{Slab, slab_len, HasRoomFor}
use Rattle.line_arena.specs.Entries.{Entered}
use Rattle.line_arena.proofs.entries.Entries.reserve.Goals as goal

-- a slab that has room stays as it is
kept_capacity : {K V : Type 0} (old inside : Entered K V) (new : Slab (K × V)) (more : ℕ) → inside ≡ old → inside.room ≤ inside.slab.capacity
    → (HasRoomFor inside.slab more → new ≡ inside.slab) → slab_len old.slab + more ≤ old.room → new.capacity ≡ old.slab.capacity
kept_capacity old inside new more same places had_room fits =
    let within : slab_len inside.slab + more ≤ inside.room = subst (λ (k : Entered _ _). slab_len k.slab + more ≤ k.room) (sym same) fits in
    ap (λ s. s.capacity) (had_room (omega (arith, within, places))) ∙ ap (λ (k : Entered _ _). k.slab.capacity) same

pub returns-in_err-make_places-clause-had_room : goal.returns-in_err-make_places-clause-had_room
returns-in_err-make_places-clause-had_room g c =
    kept_capacity c.args.self.now (record { slab = c.self.inside.slab; room = c.self.inside.room }) c.make_places.new.slab c.args.more c.self.view_is c.self.invariant.places c.make_places.ensures.had_room

pub returns-clause-had_room : goal.returns-clause-had_room
returns-clause-had_room g c =
    kept_capacity c.args.self.now (record { slab = c.self.inside.slab; room = c.self.inside.room }) c.make_places.new.slab c.args.more c.self.view_is c.self.invariant.places c.make_places.ensures.had_room
