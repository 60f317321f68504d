-- Rays end with their only stop.
use Rattle.std.proofs.Common.{◌≡◌, ◌≢◌, ℤ, Option, Some, None, List, [], ◌∷◌, ◌++◌, All, refl, sym, ap, ◌∙◌}
use Rattle.std.proofs.lemmas.List.Elements.{All-cons, All-nil, All-head, All-tail}
use Rattle.plane_geom.specs.declared.point.Dir.{Dir}
use Rattle.segment_order.specs.declared.side.Side.{Side}
use Rattle.segment_order.specs.declared.side.Side.TheVariants.{Left, Right}
use Rattle.segment_order.specs.declared.run.Run.{Run}
use Rattle.segment_order.specs.declared.ray.Entry.{Entry}
use Rattle.segment_order.specs.declared.ray.Entry.TheVariants.{Stop}
use Rattle.segment_order.specs.Side.{turn_to}
use Rattle.segment_order.specs.Ray.{EndsAtOnlyStop, entries, entries_after, entry_of, reach_in}

-- a turn is no stop
turn_goes_on : (near side : Side) (z : ℤ) → entry_of near z side ≢ Stop
turn_goes_on Left Left z e = cc
turn_goes_on Right Right z e = cc
turn_goes_on Left Right z e = cc
turn_goes_on Right Left z e = cc

stops_here : EndsAtOnlyStop (Stop ∷ [])
stops_here = record { turns = []; no_stop = All-nil (λ (e : Entry). e ≢ Stop); last = refl }

stops_after : (near : Side) (z : ℤ) (turn : Option Side) (rest : List Entry) → EndsAtOnlyStop rest → EndsAtOnlyStop (entries_after near z turn rest)
stops_after near z None rest stops = stops_here
stops_after near z (Some side) rest stops = record {
  turns = entry_of near z side ∷ stops.turns;
  no_stop = All-cons (λ (e : Entry). e ≢ Stop) (entry_of near z side) stops.turns (turn_goes_on near side z) stops.no_stop;
  last = ap (λ es. entry_of near z side ∷ es) stops.last;
}

pub stops : (near : Side) (d : Dir) (z : ℤ) (trail : List Run) → EndsAtOnlyStop (entries near d z trail)
stops near d z [] = stops_here
stops near d z (r ∷ rs) = stops_after near z (turn_to d r.heading) _ (stops near r.heading (reach_in r.heading r) rs)

-- what goes on where the other ends has a stop among its turns
no_longer : (turns other : List Entry) (more : List Entry) → All (λ (e : Entry). e ≢ Stop) turns → All (λ (e : Entry). e ≢ Stop) other → other ++ Stop ∷ [] ≡ (turns ++ Stop ∷ []) ++ more → more ≡ []
no_longer [] [] more no_stop others e = cc
no_longer [] (x ∷ other) more no_stop others e = absurd (All-head (λ (e : Entry). e ≢ Stop) x other others (let first : x ≡ Stop = cc in first))
no_longer (t ∷ turns) [] more no_stop others e = absurd (All-head (λ (e : Entry). e ≢ Stop) t turns no_stop (let first : t ≡ Stop = cc in first))
no_longer (t ∷ turns) (x ∷ other) more no_stop others e =
    no_longer turns other more (All-tail (λ (e : Entry). e ≢ Stop) t turns no_stop) (All-tail (λ (e : Entry). e ≢ Stop) x other others)
    (let rest : other ++ Stop ∷ [] ≡ (turns ++ Stop ∷ []) ++ more = cc in rest)

pub no_prefix : (a b more : List Entry) → EndsAtOnlyStop a → EndsAtOnlyStop b → b ≡ a ++ more → more ≡ []
no_prefix a b more one other e = no_longer one.turns other.turns more one.no_stop other.no_stop (sym other.last ∙ e ∙ ap (λ es. es ++ more) one.last)
