-- Each later run of the group is linked and joined, or not linked; past the stop none is linked.
use Rattle.std.proofs.Common.{◌≡◌, ◌<◌, pos, ◌+ℤ◌, ◌≤ℤ◌, Bool, false, Option, Some, None, get_or, length, refl, sym, subst, ◌∙◌, arith, rules, w64, FitsSigned, true≢false}
use Rattle.std.specs.Prelude.{IsSome}
use Rattle.std.specs.Option.{is_some}
use Rattle.std.proofs.lemmas.Int.{to_z-of_z}
use Rattle.channel_bundles.specs.Links.{IsLink, member_at}
use Rattle.channel_bundles.proofs.Clear.{not_linked}
use Rattle.channel_bundles.proofs.Linking.{linking_begins, linking_past, linking_more, linking_ends}
use Rattle.channel_bundles.proofs.links.join_links_of.Goals as goal
use Rattle.channel_bundles.proofs.links.join_links_of.Goals.{then-is_some, else-is_some}

pub is_clear_of-requires-clause-member : goal.is_clear_of-requires-clause-member
is_clear_of-requires-clause-member c = c.requires.members c.args.at _ c.requires.at

pub link-requires-clause-member : goal.link-requires-clause-member
link-requires-clause-member c = c.requires.members c.args.at _ c.requires.at

pub loop-later-init : goal.loop-later-init
loop-later-init c =
    let fits : FitsSigned w64 c.args.nudge = search rules in
    let at = c.args.at in
    let next = c.args.next.now in
    let in_at : at < length next = omega (arith, c.requires.next, c.requires.at) in
    simp to_z-of_z (linking_begins c.args.nudge c.args.members.now next c.args.forest.now.above.items at (get_or next at 0) c.requires.forest c.requires.count c.requires.next c.requires.at
    refl (c.requires.after at in_at))

none_of : (o : Option Bool) → is_some o ≡ false → o ≡ None
none_of None e = refl
none_of (Some x) e = absurd (true≢false e)

pub loop-later-preserved : goal.loop-later-preserved
loop-later-preserved c =
    let fits : FitsSigned w64 c.args.nudge = search rules in
    let value = simp to_z-of_z at c.link.ensures in
    let is = simp to_z-of_z at c.loop-later.invariant in
    let later = c.loop-later.later in
    let next = c.args.next.now in
    let within = c.loop-later-test.true in
    let in_later : later < length next = omega (arith, c.requires.next, within) in
    let after = c.requires.after later in_later in
    elim c.if-is_some.branch [
      | then-is_some w ↦
          let join = w.join.ensures in
          let l : IsLink c.args.nudge c.args.members.now c.args.at later =
          record { forward = is.forward; within = within; linked = subst IsSome value (sym c.is_some.ensures ∙ w.if-is_some.true) } in
          simp to_z-of_z (rw w.forest-is (linking_more _ _ _ _ _ _ _ _ is c.requires.next within after l join.forest join.count join.kept join.joined join.only))
      | else-is_some w ↦ simp to_z-of_z (rw w.forest-is (linking_past _ _ _ _ _ _ _ is c.requires.next within after (sym value ∙ none_of c.link.result (sym c.is_some.ensures ∙ w.if-is_some.false))))
    ]

pub returns-then-is_clear_of : goal.returns-then-is_clear_of
returns-then-is_clear_of c =
    let fits : FitsSigned w64 c.args.nudge = search rules in
    let is = simp to_z-of_z at c.loop-later.invariant in
    let at = c.args.at in
    let members = c.args.members.now in
    let near : FitsSigned w64 (get_or c.args.clear.now c.loop-later.later (pos 0)) = search rules in
    let apart = c.if-is_clear_of.ensures.0 refl in
    let far : ((member_at members at).high +ℤ c.args.nudge) ≤ℤ get_or c.args.clear.now c.loop-later.later (pos 0) = simp to_z-of_z at apart in
    let joined = linking_ends c.args.nudge members c.args.next.now c.args.forest.now.above.items c.loop-later.forest.above.items at c.loop-later.later is
    (λ j from h. not_linked c.args.nudge members c.args.clear.now (member_at members at) c.loop-later.later j c.requires.clear c.requires.nudge from h far) in
    record { forest = is.forest; count = is.count; kept = is.kept; joined = joined; only = is.only }

pub returns : goal.returns
returns c =
    let fits : FitsSigned w64 c.args.nudge = search rules in
    let is = simp to_z-of_z at c.loop-later.invariant in
    let joined = linking_ends c.args.nudge c.args.members.now c.args.next.now c.args.forest.now.above.items c.loop-later.forest.above.items c.args.at c.loop-later.later is (λ j from h. absurd (omega (arith, c.loop-later-test.false))) in
    record { forest = is.forest; count = is.count; kept = is.kept; joined = joined; only = is.only }
