-- The row in the slot is that of the place, or none is.
use Rattle.std.proofs.Common.{◌≡◌, true, false, ℕ, None, get_or, length, sym, ap, subst, ◌∙◌, arith}
use Rattle.std.proofs.lemmas.List.{get_or_default}
use Rattle.proof_model.specs.declared.proof.LabelRow.{LabelRow}
use Rattle.proof_model.specs.Labels.{is_row_of, label_in, label_of}
use Rattle.proof_model.specs.Places.{Place}
use Rattle.proof_model.proofs.LeastLabels.{label_found}
use Rattle.proof_model.proofs.OneList.{of_place}
use Rattle.route_audit.specs.Index.{slot_of}
use Rattle.route_audit.proofs.Indexing.{has_slot, no_row}
use Rattle.route_audit.proofs.labels.Labels.label.Goals as goal

pub row_place-row_place-requires : goal.row_place-row_place-requires
row_place-row_place-requires c =
    let l = c.args.self.now in
    let last = c.requires.labels.0 in
    let few = c.index-number.ensures.within in
    record {
      room = has_slot c.args.arena.now c.laws.ensures.arena last l.rows.now (length l.rows.now) l.index.now c.requires.labels.2.indexed c.args.place.now.stage
          c.index-number.result c.requires.labels.1 few;
    }

pub returns-then-row_place-self : goal.returns-then-row_place-self
returns-then-row_place-self c =
    let l = c.args.self.now in
    let p = c.args.place.now in
    let x : Place = record { stage = p.stage; at = c.args.at; heading = p.heading } in
    let slot : c.row_place-row_place.result ≡ get_or l.index.now.slots.items (slot_of l.index.now p.stage p.crossing) 0 =
    c.row_place-row_place.ensures ∙ ap (λ (n : ℕ). get_or l.index.now.slots.items (slot_of l.index.now p.stage n) 0) c.index-number.ensures.number in
    sym (no_row c.args.arena.now c.laws.ensures.arena c.requires.labels.0 l.rows.now l.index.now c.requires.labels.2.indexed x p.crossing c.requires.here
    (λ d within. absurd (omega (arith, slot, within, c.if-row_place-self.true))))

pub returns-then-not-is_row_of : goal.returns-then-not-is_row_of
returns-then-not-is_row_of c =
    let l = c.args.self.now in
    let rows = l.rows.now in
    let p = c.args.place.now in
    let n = c.row_place-row_place.result in
    let x : Place = record { stage = p.stage; at = c.args.at; heading = p.heading } in
    let slot : n ≡ get_or l.index.now.slots.items (slot_of l.index.now p.stage p.crossing) 0 =
    c.row_place-row_place.ensures ∙ ap (λ (m : ℕ). get_or l.index.now.slots.items (slot_of l.index.now p.stage m) 0) c.index-number.ensures.number in
    sym (no_row c.args.arena.now c.laws.ensures.arena c.requires.labels.0 rows l.index.now c.requires.labels.2.indexed x p.crossing c.requires.here
    (λ d within. subst (λ m. is_row_of (get_or rows m d) x ≡ false) slot
    (subst (λ r. is_row_of r x ≡ false) (get_or_default rows n _ d c.if-row_place-self.false) (sym c.is_row_of.ensures ∙ c.if-not-is_row_of.true))))

pub returns : goal.returns
returns c =
    let rows = c.args.self.now.rows.now in
    let n = c.row_place-row_place.result in
    let h = c.args.place.now.heading in
    let within = c.if-row_place-self.false in
    let x : Place = record { stage = c.args.place.now.stage; at = c.args.at; heading = h } in
    let d : LabelRow = record { stage = 0; at = c.args.at; east = None; south = None; west = None; north = None } in
    let it : is_row_of (get_or rows n d) x ≡ true =
    subst (λ r. is_row_of r x ≡ true) (get_or_default rows n _ d within) (sym c.is_row_of.ensures ∙ c.if-not-is_row_of.false) in
    c.label.ensures ∙ ap (λ r. label_in r h) (get_or_default rows n _ d within) ∙ sym (label_found rows c.requires.labels.2.rise n d within h)
    ∙ ap (label_of rows) (of_place (get_or rows n d) x it)
