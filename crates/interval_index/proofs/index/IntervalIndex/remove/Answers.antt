-- A key that is absent changes nothing; otherwise its span is removed from the tree and from the table by keys.
use Rattle.std.proofs.Common.{◌≡◌, Some, None, is_some, ap, sym, ◌∙◌}
use Rattle.std.specs.Prelude.{◌==◌, find}
use Rattle.interval_index.specs.Index.{without_key}
use Rattle.interval_index.proofs.Listed.{few_spans, has_key_found, without_absent, without_by_key}
use Rattle.interval_index.proofs.Keyed.{index_without}
use Rattle.interval_index.proofs.index.IntervalIndex.remove.Goals as goal
use Rattle.interval_index.proofs.index.IntervalIndex.remove.Goals.{In_default, In-Some, After-remove-2}

-- the key is absent, and so is its span
none_here : (c : In_default) → find (λ s. s.key == c.args.key) c.self.inside.tree.0 ≡ None
none_here c = sym (c.self.invariant.found c.args.key) ∙ sym c.remove.ensures.value ∙ c.in_default.is

pub returns-in_default-clause-present : goal.returns-in_default-clause-present
returns-in_default-clause-present c =
    let none = none_here (goal.at.returns-in_default-clause-present c).In_default in
    rw (← c.self.view_is) (ap is_some (sym none) ∙ has_key_found c.args.key c.self.inside.tree.0)

pub returns-in_default-clause-rest : goal.returns-in_default-clause-rest
returns-in_default-clause-rest c =
    let l = c.self.inside.tree.0 in
    let none = none_here (goal.at.returns-in_default-clause-rest c).In_default in
    rw (← c.self.view_is) (sym (without_absent c.args.key l (sym (has_key_found c.args.key l) ∙ ap is_some none)))

-- the key's span is found
found_here : (c : In-Some) → find (λ s. s.key == c.args.key) c.self.inside.tree.0 ≡ Some c.in-Some.span
found_here c = sym (c.self.invariant.found c.args.key) ∙ sym c.remove.ensures.value ∙ c.in-Some.is

pub remove-requires-2-clause-fits : goal.remove-requires-2-clause-fits
remove-requires-2-clause-fits c = rw c.replace-tree.ensures.value (few_spans c.self.inside.tree.0 c.self.invariant.listed)

-- the tree without that span is the tree without the key
rest_here : (c : After-remove-2) → c.remove-2.result.0 ≡ without_key c.args.key c.self.inside.tree.0
rest_here c =
    let l = c.self.inside.tree.0 in
    let listed = c.self.invariant.listed in
    let found = found_here (goal.at.After-remove-2 c).In-Some in
    c.remove-2.ensures.spans ∙ rw c.replace-tree.ensures.value (without_by_key c.args.key c.in-Some.span l listed.sorted listed.distinct found)

pub invariant_of-self-2 : goal.invariant_of-self-2
invariant_of-self-2 c =
    rw (rest_here (goal.at.invariant_of-self-2 c).After-remove-2)
    (index_without c.args.key c.self.inside.tree.0 c.self.inside.by_key c.remove.new.self c.self.invariant (λ q. c.remove.ensures.updates.0 q))

pub returns-clause-present : goal.returns-clause-present
returns-clause-present c =
    let found = found_here (goal.at.returns-clause-present c).In-Some in
    rw (← c.self.view_is) (ap is_some (sym found) ∙ has_key_found c.args.key c.self.inside.tree.0)

pub returns-clause-rest : goal.returns-clause-rest
returns-clause-rest c = rw (← c.self.view_is) (rest_here (goal.at.returns-clause-rest c).After-remove-2)
