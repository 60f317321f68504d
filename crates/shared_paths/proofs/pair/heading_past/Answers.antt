-- One who goes back reaches the run that stands last before this one.
use Rattle.std.proofs.Common.{◌≡◌, ◌∙◌, ◌-◌, false, Some, get_or, length, min, take, refl, sym, ap, subst}
use Rattle.std.specs.Prelude.{slice_get}
use Rattle.std.proofs.lemmas.List.{get_or_default, take_min}
use Rattle.plane_geom.specs.declared.point.Dir.{Dir}
use Rattle.plane_geom.specs.declared.point.Dir.TheVariants.{East, South, West, North}
use Rattle.plane_geom.specs.contracts.point.Dir.{the_type}
use denote.Enum.Bare.{sameb}
use Rattle.segment_order.specs.declared.run.Run.{Run}
use Rattle.segment_order.specs.Run.{no_run, run_at}
use Rattle.segment_order.specs.Ray.{is_heading}
use Rattle.shared_paths.specs.Views.{entry_towards}
use Rattle.shared_paths.proofs.Rays.Entries.{first_back}
use Rattle.shared_paths.proofs.pair.heading_past.Goals as goal

-- what the generated proof reads past the end
abbrev any_run : Run
any_run = record no_run { heading = East }

other_way : (d e : Dir) → sameb the_type d e ≡ false → is_heading d e ≡ false
other_way East East h = absurd (cc)
other_way South South h = absurd (cc)
other_way West West h = absurd (cc)
other_way North North h = absurd (cc)
other_way d e h = refl

pub returns-in_ok-next-2 : goal.returns-in_ok-next-2
returns-in_ok-next-2 c =
    let route = c.args.route.now in
    let d = c.args.dir in
    let x = c.in_ok-next-2.next.now in
    let r = run_at route c.args.index in
    let is : get_or route c.args.index any_run ≡ r = get_or_default route c.args.index any_run no_run c.requires in
    let away : is_heading r.heading d ≡ false = subst (λ (q : Run). is_heading q.heading d ≡ false) is (other_way (get_or route c.args.index any_run).heading d (sym c.eq.ensures ∙ c.if-eq.false)) in
    let before : take c.min.result route ≡ take (r.place - 1) route =
    ap (λ n. take n route) (c.min.ensures ∙ ap (λ n. min n (length route)) (c.saturating_sub.ensures ∙ ap (λ (q : Run). q.place - 1) is)) ∙ take_min (r.place - 1) route in
    let last : slice_get (take (r.place - 1) route) (length (take (r.place - 1) route) - 1) ≡ Some x = subst (λ rs. slice_get rs (length rs - 1) ≡ Some x) before (sym c.in_ok-next-2.ensures.value) in
    first_back route r d x away last ∙ ap (λ e. entry_towards r d (Some e)) (sym c.opposite.ensures)
