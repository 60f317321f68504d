-- Entries under ids.
use Rattle.std.specs.Prelude.{ℕ, ◌≤◌, Option, refl}
use Rattle.std.specs.Coded.{Coded, code_by, coded×, coded_ℕ}
use Rattle.slab.specs.Slab.{Slab, get, slab_len, slab_code}

-- the entries under their ids, and the number for which there is room
pub record Entered (K V : Type 0) : Type 0 where
  pub slab : Slab (K × V)
  pub room : ℕ

abbrev pub entered_code : {K V : Type 0} → Coded K → Coded V → Coded (Entered K V)
entered_code {K} {V} key value =
    code_by
    (Slab (K × V) × ℕ)
    (coded× (slab_code (coded× key value)) coded_ℕ)
    (λ a. (a.slab, a.room))
    (λ p. record { slab = p.0; room = p.1 })
    (λ _. refl)

-- the entry under an id
abbrev pub entry_at : {K V : Type 0} → Entered K V → ℕ → Option (K × V)
entry_at a id = get a.slab id

-- there are at most `room` entries, and places for all of them
pub record HasRoom {T : Type 0} (slab : Slab T) (room : ℕ) : Type 0 where
  pub fits : slab_len slab ≤ room
  pub places : room ≤ slab.capacity
