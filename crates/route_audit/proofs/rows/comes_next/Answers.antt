-- A row after the last one is after all.
use Rattle.std.proofs.Common.{pos, None, ◌≡◌, ◌+◌, ◌-◌, length, take, sym, ◌∙◌, arith}
use Rattle.std.proofs.lemmas.List.{get_or-take, get_or_default, length-take-le}
use Rattle.proof_model.specs.declared.proof.LabelRow.{LabelRow}
use Rattle.route_audit.proofs.Rising.{rises_on}
use Rattle.route_audit.proofs.rows.comes_next.Goals as goal

-- what stands where there is no row
abbrev none : LabelRow
none = record { stage = 0; at = record { x = pos 0; y = pos 0 }; east = None; south = None; west = None; north = None }

pub returns : goal.returns
returns c =
    let rows = c.args.rows.now in
    let n = c.args.place in
    let within = c.requires.place in
    let some = c.if-place-eq0.false in (
      λ yes. rises_on rows n within c.requires.rise (λ d more.
          rw (get_or_default rows (n - 1) d none (omega (arith, within)), get_or_default rows n d none within) (sym c.is_before.ensures ∙ yes)),
      λ rises.
          let long : length (take (n + 1) rows) ≡ n + 1 = length-take-le (n + 1) rows (omega (arith, within)) in
          c.is_before.ensures ∙ rw (sym (get_or-take (n + 1) rows (n - 1) none (omega (arith, some))), sym (get_or-take (n + 1) rows n none (omega arith)))
          (rises (n - 1) n none (omega (arith, some)) (omega (arith, long))),
    )
