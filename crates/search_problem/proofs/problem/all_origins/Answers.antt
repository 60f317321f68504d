-- What is covered stays covered, and each heading is one of the four.
use Rattle.std.proofs.Common.{get_or}
use Rattle.search_problem.proofs.Headings.{by_heading}
use Rattle.search_problem.proofs.problem.all_origins.Goals as goal

pub returns-clause-covered : goal.returns-clause-covered
returns-clause-covered c = λ k d lt.
    let e = get_or c.args.entries.now k d in
    let second = c.in_ok-push_origin-2.ensures.others e in
    let third = c.in_ok-push_origin-3.ensures.others e in
    let fourth = c.in_ok-push_origin-4.ensures.others e in
    by_heading e.place.heading _
    (λ h. fourth (third (second (c.in_ok-push_origin.ensures.covered k d lt h))))
    (λ h. fourth (third (c.in_ok-push_origin-2.ensures.covered k d lt h)))
    (λ h. fourth (c.in_ok-push_origin-3.ensures.covered k d lt h))
    (λ h. c.in_ok-push_origin-4.ensures.covered k d lt h)
