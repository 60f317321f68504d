-- Tasks have one list of right answers at most.
use Rattle.std.proofs.Common.{[], ◌∷◌, refl}
use Rattle.walk_model.proofs.Ranking.OneAnswer as walks
use Rattle.par_route.specs.Routes.{HaveOneList}

pub one_list : HaveOneList
one_list solids [] [] [] h k = refl
one_list solids [] [] (b ∷ those) h k = absurd k
one_list solids [] (a ∷ these) those h k = absurd h
one_list solids (t ∷ tasks) [] those h k = absurd h
one_list solids (t ∷ tasks) (a ∷ these) [] h k = absurd k
one_list solids (t ∷ tasks) (a ∷ these) (b ∷ those) h k =
    λ i. walks.one_answer solids t a b h.0 k.0 i ∷ one_list solids tasks these those h.1 k.1 i
