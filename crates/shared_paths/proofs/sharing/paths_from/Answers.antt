-- One more path is there, and at the end all are, in the order of the starts.
use Rattle.std.proofs.Common.{◌≡◌, ◌∷◌, ◌++◌, [], map, sym, subst}
use Rattle.std.specs.List.{AllZip}
use Rattle.std.specs.Map.Iter.{deref}
use Rattle.std.proofs.lemmas.List.{map-append}
use Rattle.std.proofs.lemmas.Map.Iter.{iter_end}
use Rattle.shared_paths.specs.Starts.{IsPathFrom}
use Rattle.shared_paths.proofs.AllPaths.Gathered.{are_shared_paths, zip_push}
use Rattle.shared_paths.proofs.sharing.paths_from.Goals as goal

pub loop-start-preserved : goal.loop-start-preserved
loop-start-preserved c =
    let R = IsPathFrom c.args.routes.now in
    let so_far = map deref c.loop-start.yielded in
    let more : map deref (c.loop-start.yielded ++ c.in-Some.start ∷ []) ≡ so_far ++ c.in-Some.start.now ∷ [] = map-append deref c.loop-start.yielded (c.in-Some.start ∷ []) in
    subst (λ ss. AllZip R ss c.push.new.self.items) (sym more)
    (subst (AllZip R (so_far ++ c.in-Some.start.now ∷ [])) (sym c.in_ok-push.ensures.items)
    (zip_push R so_far c.loop-start.paths.items c.in-Some.start.now c.path_from.result c.loop-start.invariant c.path_from.ensures))

pub returns : goal.returns
returns c =
    let starts = c.args.starts.now in
    let gives = c.into_iter-start-iterator.ensures.into_iter_gives in
    let all : map deref c.loop-start.yielded ≡ starts.keys = (iter_end deref starts.keys c.loop-start.yielded _ _ _ _ gives.0 c.loop-start.yielded_by c.in-None.is c.next.ensures.steps).0 in
    are_shared_paths c.args.routes.now c.requires.routes starts.keys c.loop-start.paths.items gives.4 c.requires.all
    (subst (λ ss. AllZip (IsPathFrom c.args.routes.now) ss c.loop-start.paths.items) all c.loop-start.invariant)
