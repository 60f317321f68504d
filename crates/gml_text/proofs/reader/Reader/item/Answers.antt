-- A key is read, and then its value, where no byte of a word touches it.
use Rattle.std.proofs.Common.{◌≡◌, ◌<◌, false, length, get_or, slice_range, sym, ◌∙◌, subst, arith}
use Rattle.gml_text.specs.Bytes.{is_word_byte}
use Rattle.gml_text.specs.Reader.{frames}
use Rattle.gml_text.specs.Reading.{following}
use Rattle.gml_text.specs.Standing.{Stands, gap_state}
use Rattle.gml_text.specs.View.{pairs}
use Rattle.gml_text.proofs.Standing.{no_pair, key_begins, key_touches, key_stops}
use Rattle.gml_text.proofs.reader.Reader.item.Goals as goal
use Rattle.gml_text.proofs.reader.Reader.item.Goals.{else-end-bytes-via-then-end-bytes+else-is_word_byte, else-end-bytes-via-else-end-bytes}

pub returns-then-not-begins_key-clause-goes : goal.returns-then-not-begins_key-clause-goes
returns-then-not-begins_key-clause-goes c =
    no_pair c.args.bytes.now c.args.at (frames c.args.self.now.lists.items) (pairs c.args.self.now.pairs.items) c.requires.within c.requires.no_gap c.if-byte-eq93.false
    (sym c.begins_key.ensures ∙ c.if-not-begins_key.true) c.requires.stands

pub returns-then-is_word_byte-clause-goes : goal.returns-then-is_word_byte-clause-goes
returns-then-is_word_byte-clause-goes c =
    let bytes = c.args.bytes.now in
    let fs = frames c.args.self.now.lists.items in
    let ps = pairs c.args.self.now.pairs.items in
    let end = c.key_end-end.result in
    let first = key_begins bytes c.args.at fs ps c.requires.within (sym c.begins_key.ensures ∙ c.if-not-begins_key.false) c.requires.stands in
    key_touches bytes end (slice_range bytes c.args.at end) fs ps c.if-end-bytes.true (c.key_end-end.ensures.stops c.if-end-bytes.true)
    (sym c.is_word_byte.ensures ∙ c.if-is_word_byte.true) (c.key_end-end.ensures.ends fs ps first)

pub value-requires-clause-stands : goal.value-requires-clause-stands
value-requires-clause-stands c =
    let bytes = c.args.bytes.now in
    let fs = frames c.args.self.now.lists.items in
    let ps = pairs c.args.self.now.pairs.items in
    let end = c.key_end-end.result in
    let key = slice_range bytes c.args.at end in
    let first = key_begins bytes c.args.at fs ps c.requires.within (sym c.begins_key.ensures ∙ c.if-not-begins_key.false) c.requires.stands in
    let apart : end < length bytes → is_word_byte (get_or bytes end 0) ≡ false = elim c.else-end-bytes.branch [
      | else-end-bytes-via-then-end-bytes+else-is_word_byte w ↦ λ h. sym w.is_word_byte.ensures ∙ w.if-is_word_byte.false
      | else-end-bytes-via-else-end-bytes w ↦ λ h. absurd (omega (arith, h, w.if-end-bytes.false))
    ] in
    let ended = key_stops bytes end key fs ps c.key_end-end.ensures.stops apart (c.key_end-end.ensures.ends fs ps first) in
    subst (λ k. Stands bytes c.gap_end-from.result (gap_state (following k) fs ps)) (sym c.in_ok-key.ensures.ok) (c.gap_end-from.ensures.ends (following key) fs ps ended)
