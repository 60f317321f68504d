-- Where there is a task to search, all solids lie on the sheet.
use Rattle.std.proofs.Common.{◌≡◌, List, [], ◌∷◌, length, refl, subst}
use Rattle.std.specs.Prelude.{All}
use Rattle.std.proofs.lemmas.List.Elements.{All-head}
use Rattle.plane_geom.specs.Rect.{RectIsOnSheet}
use Rattle.plane_geom.specs.declared.rect.Solid.{Solid}
use Rattle.line_arena.specs.Arena.{Arena}
use Rattle.walk_model.specs.declared.task.Task.{Task}
use Rattle.par_route.specs.Routes.{MayBeSearched}

pub solids_on_sheet : (a : Arena) (solids : List Solid) (tasks : List Task) → (length tasks ≡ 0 → ⊥) → All (MayBeSearched a solids) tasks → All (λ s. RectIsOnSheet s.rect) solids
solids_on_sheet a solids [] some all = absurd (some refl)
solids_on_sheet a solids (t ∷ tasks) some all =
    let problem = (All-head (MayBeSearched a solids) t tasks all).1 in
    subst (All (λ (s : Solid). RectIsOnSheet s.rect)) problem.same_solids problem.is_floor_of.solids
