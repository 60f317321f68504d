-- In each direction, the sides of the rectangle bound the steps that meet it.
use Rattle.route_check.proofs.Collisions.Inside.{ahead_east, ahead_south, ahead_west, ahead_north, from_bits}
use Rattle.route_check.proofs.hit.steps_inside.Goals as goal

pub returns-in-East : goal.returns-in-East
returns-in-East c = λ k.
    let r = c.requires.rect_within in let p = c.requires.from_within in
    rw c.in-East.is (from_bits _ _ _ _ _ _ _ r.top p.y r.bottom r.left p.x r.right p.x c.steps_between.result _ k (c.steps_between.ensures k) (ahead_east c.args.rect.now c.args.from k))

pub returns-in-South : goal.returns-in-South
returns-in-South c = λ k.
    let r = c.requires.rect_within in let p = c.requires.from_within in
    rw c.in-South.is (from_bits _ _ _ _ _ _ _ r.left p.x r.right r.top p.y r.bottom p.y c.steps_between-in-South.result _ k (c.steps_between-in-South.ensures k) (ahead_south c.args.rect.now c.args.from k))

pub returns-in-West : goal.returns-in-West
returns-in-West c = λ k.
    let r = c.requires.rect_within in let p = c.requires.from_within in
    rw c.in-West.is (from_bits _ _ _ _ _ _ _ r.top p.y r.bottom p.x r.right p.x r.left c.steps_between-in-West.result _ k (c.steps_between-in-West.ensures k) (ahead_west c.args.rect.now c.args.from k))

pub returns-in-North : goal.returns-in-North
returns-in-North c = λ k.
    let r = c.requires.rect_within in let p = c.requires.from_within in
    rw c.in-North.is (from_bits _ _ _ _ _ _ _ r.left p.x r.right p.y r.bottom p.y r.top c.steps_between-in-North.result _ k (c.steps_between-in-North.ensures k) (ahead_north c.args.rect.now c.args.from k))
