-- What stays while the crossing is put into the lists of the other directions.
use Rattle.std.proofs.Common.{◌≢◌, ℕ, Option, Some, None, sym, subst, ◌∙◌}
use Rattle.plane_geom.specs.declared.point.Dir.{Dir}
use Rattle.plane_geom.specs.declared.point.Dir.TheVariants.{East, South, West, North}
use Rattle.line_arena.specs.declared.lists.Lists.{Lists}
use Rattle.plane_geom.specs.Along.{reach}
use Rattle.line_arena.specs.Lists.{AreApart, AreLinked, IsNext, KnowsNeighbours, SameDirection, SameLinks, SamePlaces, Spot, Stands, line_along, link, spot_at, without}
use Rattle.line_arena.proofs.Linking.Joined.{spots_are}

pub East≢South : East ≢ South
East≢South h = cc h

pub East≢West : East ≢ West
East≢West h = cc h

pub East≢North : East ≢ North
East≢North h = cc h

pub South≢East : South ≢ East
South≢East h = cc h

pub South≢West : South ≢ West
South≢West h = cc h

pub South≢North : South ≢ North
South≢North h = cc h

pub West≢East : West ≢ East
West≢East h = cc h

pub West≢South : West ≢ South
West≢South h = cc h

pub West≢North : West ≢ North
West≢North h = cc h

pub North≢East : North ≢ East
North≢East h = cc h

pub North≢South : North ≢ South
North≢South h = cc h

pub North≢West : North ≢ West
North≢West h = cc h

module _ (a b : Lists) (same : SamePlaces a b) where
  -- a list whose links stay is right for the same crossings
  pub linked_kept : (W : (ℕ → Option Spot) → ℕ → Option Spot) (d : Dir) → SameDirection a b d → AreLinked a (W (spot_at a)) d → AreLinked b (W (spot_at b)) d
  linked_kept W d links h = subst (λ S. AreLinked b (W S) d) (sym (spots_are a b same.spots)) (record {
    starts = λ l line is way.
        let was = sym (same.lines l) ∙ is in
        subst (IsNext (Stands (W (spot_at a)) l d) None) (sym (links.starts l line was way)) (h.starts l line was way);
    nexts = λ c s is.
        subst (IsNext (Stands (W (spot_at a)) (line_along d s) d) (Some (reach d s.point))) (sym (links.nexts (line_along d s) c)) (h.nexts c s is);
  })

  -- a crossing whose links stay knows its neighbours
  pub knows_kept : (k : ℕ) → SameLinks a b k → KnowsNeighbours a k → KnowsNeighbours b k
  knows_kept k links h =
      let spots = sym (spots_are a b same.spots) in
      record {
        spot = h.spot;
        is = same.spots k ∙ h.is;
        runs = λ d. record { line = (h.runs d).line; is = same.lines _ ∙ (h.runs d).is; way = (h.runs d).way };
        next = λ d.
            subst (IsNext (Stands (without k (spot_at b)) (line_along d h.spot) d) (Some (reach d h.spot.point))) (sym (links (line_along d h.spot) d))
            (subst (λ S. IsNext (Stands (without k S) (line_along d h.spot) d) (Some (reach d h.spot.point)) (link a (line_along d h.spot) (Some k) d)) spots (h.next d));
        apart = λ d. subst (λ S. AreApart S d) spots (h.apart d);
      }
