-- A number ends where it may, and where no byte of a word touches it.
use Rattle.std.proofs.Common.{◌≡◌, ◌<◌, false, true, length, get_or, slice_range, inl, inr, sym, ap, ◌∙◌, subst, arith}
use Rattle.std.proofs.lemmas.Bool.{cases_lt, ltb-true}
use Rattle.gml_text.specs.Bytes.{is_word_byte}
use Rattle.gml_text.specs.Reader.{frames, state_of}
use Rattle.gml_text.specs.Reading.{between}
use Rattle.gml_text.specs.Standing.{Stands, gap_state}
use Rattle.gml_text.specs.Token.{is_complete}
use Rattle.gml_text.specs.Tree.{number, no_pairs, pair, ◌then◌}
use Rattle.gml_text.specs.View.{pairs}
use Rattle.gml_text.proofs.Standing.{no_value, number_begins, number_incomplete, number_refused, number_touched, number_stops}
use Rattle.gml_text.proofs.Views.{put_number, same_gap}
use Rattle.gml_text.proofs.reader.Reader.number.Goals as goal
use Rattle.gml_text.proofs.reader.Reader.number.Goals.{then-not-is_complete-via-then-not-is_complete, then-not-is_complete-via-else-not-is_complete+then-is_word_byte, then-end-bytes, else-end-bytes}

pub returns-in_default-clause-goes : goal.returns-in_default-clause-goes
returns-in_default-clause-goes c =
    no_value c.args.bytes.now c.args.at c.args.key (frames c.args.self.now.lists.items) (pairs c.args.self.now.pairs.items) c.requires.within c.requires.no_gap
    c.requires.no_bracket c.requires.no_quote (sym c.begun.ensures ∙ c.in_default.is) c.requires.stands

pub returns-then-not-is_complete-clause-goes : goal.returns-then-not-is_complete-clause-goes
returns-then-not-is_complete-clause-goes c =
    let bytes = c.args.bytes.now in
    let key = c.args.key in
    let fs = frames c.args.self.now.lists.items in
    let ps = pairs c.args.self.now.pairs.items in
    let end = c.number_end-end.result.0 in
    let part = c.number_end-end.result.1 in
    let digits = slice_range bytes c.args.at end in
    let stands = c.number_end-end.ensures.ends key fs ps
    (number_begins bytes c.args.at key c.in-Some.begun fs ps c.requires.within (sym c.begun.ensures ∙ c.in-Some.is) c.requires.stands) in
    elim c.then-not-is_complete.branch [
      | then-not-is_complete-via-then-not-is_complete w ↦
          let incomplete : is_complete part ≡ false = sym c.is_complete.ensures ∙ w.if-not-is_complete.true in
          elim (cases_lt end (length bytes)) [
            | inl h ↦ number_refused bytes end key digits part fs ps h (c.number_end-end.ensures.stops h) incomplete stands
            | inr h ↦ number_incomplete bytes end key digits part fs ps (omega (arith, h, c.number_end-end.ensures.within)) incomplete stands
          ]
      | then-not-is_complete-via-else-not-is_complete+then-is_word_byte w ↦
          elim w.if-end-bytes.branch [
            | then-end-bytes v ↦
                let word : is_word_byte (get_or bytes end 0) ≡ true = cc (v.is_word_byte.ensures, v.value-is, w.if-is_word_byte.true) in
                number_touched bytes end key digits part fs ps v.if-end-bytes.true (c.number_end-end.ensures.stops v.if-end-bytes.true) word stands
            | else-end-bytes v ↦
                let below : end < length bytes = ltb-true end (length bytes) (sym v.value-is ∙ w.if-is_word_byte.true) in
                absurd (omega (arith, below, v.if-end-bytes.false))
          ]
    ]

pub returns-clause-goes : goal.returns-clause-goes
returns-clause-goes c =
    let bytes = c.args.bytes.now in
    let key = c.args.key in
    let fs = frames c.args.self.now.lists.items in
    let ps = pairs c.args.self.now.pairs.items in
    let end = c.number_end-end.result.0 in
    let part = c.number_end-end.result.1 in
    let digits = slice_range bytes c.args.at end in
    let new = c.put.new.self in
    let stands = c.number_end-end.ensures.ends key fs ps
    (number_begins bytes c.args.at key c.in-Some.begun fs ps c.requires.within (sym c.begun.ensures ∙ c.in-Some.is) c.requires.stands) in
    let apart : end < length bytes → is_word_byte (get_or bytes end 0) ≡ false = elim c.if-end-bytes.branch [
      | then-end-bytes v ↦ λ h. cc (v.is_word_byte.ensures, v.value-is, c.if-is_word_byte.false)
      | else-end-bytes v ↦ λ h. absurd (omega (arith, h, v.if-end-bytes.false))
    ] in
    let ended = number_stops bytes end key digits part fs ps c.number_end-end.ensures.stops apart (sym c.is_complete.ensures ∙ c.if-not-is_complete.false) stands in
    let following = put_number new.pairs.items c.args.self.now.pairs.items key c.in_ok-digits.digits digits c.in_ok-put.ensures.ok c.in_ok-digits.ensures.ok in
    let same : state_of new ≡ gap_state between fs (ps then pair key (number digits) no_pairs) =
    same_gap (frames new.lists.items) fs (pairs new.pairs.items) (ps then pair key (number digits) no_pairs) (ap (λ v. frames v.items) c.put.ensures.lists) following in
    (c.number_end-end.ensures.within, subst (Stands bytes end) (sym same) ended)
