-- The sign stands before the digits, and these before the point and three more.
use Rattle.std.proofs.Common.{append_assoc, ◌≡◌, ◌+◌, ◌-◌, ◌/◌, ◌<◌, ◌≤◌, ◌++◌, ◌∷◌, [], ap, sym, subst, ◌∙◌, arith, rules, Bool, true, if◌then◌else◌, List, ℕ, length, drop, set, take, decimal, Result, Ok, Err}
use Rattle.std.specs.Prelude.{OnOk, is_ok}
use Rattle.std.proofs.lemmas.List.{drop-set, length-drop, length-set, take_all}
use Rattle.std.proofs.lemmas.Fmt.{length-decimal-le}
use Rattle.fixed_milli.specs.Milli.{size_text}
use Rattle.report_text.proofs.number.push_size.Goals as goal
use Rattle.report_text.proofs.number.push_size.Goals.{After-write_digits-start, After-with_fraction-text}

short : (c : After-with_fraction-text) → length (decimal (c.args.size / 1000)) ≤ 20
short c = search (rules, length-decimal-le 20)

begins : (c : After-write_digits-start) → length (decimal (c.args.size / 1000)) ≤ 20 → 1 ≤ c.write_digits-start.result
begins c few = omega (arith, c.write_digits-start.ensures.start, few)

-- what is appended after a sign, where there was room
pushed : {T E : Type 0} (r : Result T E) (new old piece want : List ℕ) (negative : Bool) → new ≡ (if is_ok r then old ++ piece else old) → piece ≡ 45 ∷ want → negative ≡ true →
    OnOk r (new ≡ old ++ (if negative then 45 ∷ [] else []) ++ want)
pushed (Ok x) new old piece want negative is e neg = subst (λ (b : Bool). new ≡ old ++ (if b then 45 ∷ [] else []) ++ want) (sym neg) (is ∙ ap (λ xs. old ++ xs) e ∙ sym (append_assoc old (45 ∷ []) want))
pushed (Err x) new old piece want negative is e neg = tt

pub write_digits-start-requires : goal.write_digits-start-requires
write_digits-start-requires c = (omega (arith, short (goal.at.write_digits-start-requires c).After-with_fraction-text), search rules)

pub overflow_sub-text : goal.overflow_sub-text
overflow_sub-text c = begins (goal.at.overflow_sub-text c).After-write_digits-start (short (goal.at.overflow_sub-text c).After-with_fraction-text)

pub overflow_sub-start : goal.overflow_sub-start
overflow_sub-start c = begins (goal.at.overflow_sub-start c).After-write_digits-start (short (goal.at.overflow_sub-start c).After-with_fraction-text)

pub returns-clause-ok : goal.returns-clause-ok
returns-clause-ok c =
    let start = c.write_digits-start.result in
    let text = c.write_digits-start.new.buf in
    let some : 1 ≤ start = begins (goal.at.returns-clause-ok c).After-write_digits-start (short (goal.at.returns-clause-ok c).After-with_fraction-text) in
    let back : (start - 1) + 1 ≡ start = omega (arith, some) in
    let within : start - 1 < length text = search rules in
    let piece : drop (start - 1) (set text (start - 1) 45) ≡ 45 ∷ size_text c.args.size =
    drop-set text (start - 1) 45 within ∙ ap (λ n. 45 ∷ drop n text) back
    ∙ ap (λ xs. 45 ∷ xs) (c.write_digits-start.ensures.written ∙ ap (λ xs. decimal (c.args.size / 1000) ++ xs) c.with_fraction-text.ensures ∙ simp append_assoc) in
    let negative : c.args.is_negative ≡ true = search rules in
    let signed = set text (start - 1) 45 in
    let full : length text ≡ 25 = search rules in
    let rest : length (drop (start - 1) signed) ≤ 25 - (start - 1) = omega (arith, length-drop (start - 1) signed, length-set text (start - 1) 45, full) in
    let items : c.extend_from_slice-2.new.self.items ≡ (if is_ok c.extend_from_slice-2.result then c.args.out.now.items ++ take (25 - (start - 1)) (drop (start - 1) signed) else c.args.out.now.items) = c.extend_from_slice-2.ensures.items in
    pushed c.extend_from_slice-2.result c.extend_from_slice-2.new.self.items c.args.out.now.items (take (25 - (start - 1)) (drop (start - 1) signed)) (size_text c.args.size) c.args.is_negative items
    (take_all (25 - (start - 1)) (drop (start - 1) signed) rest ∙ piece) negative
