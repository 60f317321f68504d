-- `reroute_ready` writes into a room that there is no drawing.
use Rattle.std.proofs.Common.{None, [], ◌∷◌, refl, lit<}
use mir.Val.{vunit, vnil}
use types.Match.{live}
use base.Fraction.{full_share}
use base.Logic.{id⊢}
use base.Fml.{froom}
use prog.Wp.{WpFn}
use contract.Running.{tables}
use types.Kit.{‵, raw, prop, ◌$◌, ◌∵◌, !, qed, done, move, drop, use0, use1, use2, join, regoal, feq_i, suffices, group}
use types.Run.{stop, init, of_opd, lit, unit_lit, and_then, no_more, assigns, returns, enter}
use types.ByLocal.{alloc_all, pass_all, free_all, look_at, get, through, sets}
use types.Part.{agg}
use denote.Exit.{yes}
use denote.Param.{layout}
use denote.RawPtr.{Ptr, RawPtr, block_ptr, lies_at, in_a_block, rawptr_vals, rawptr_Tells}
use denote.Signature.{plain}
use denote.Steps.{nothing}
use denote.Triple.Entry.{on_entry}
use denote.Triple.Walked.{Stays, walk_of, stay_dropped, Goes-dropped, ends_at}
use borrow.Table.OneValue.{part_in}
use Rattle.std.proofs.option.Made.{none_of}
use Rattle.std.proofs.raw_atomic.Walks.{proved}
use Rattle.drawing.specs.contracts.drawing.Drawing as drawing
use Rattle.reroute_c.specs.Owned.{Held, room}
use Rattle.reroute_c.specs.contracts.handle.reroute_ready as f
use Rattle.reroute_c.proofs.handle.reroute_ready.Statement.{statement}
use Rattle.reroute_c.proofs.handle.reroute_ready.Code as code

abbrev stayed : Stays f.ended.signature.params f.ended.kept
stayed = (stay_dropped _ yes, tt)

pub reroute_ready_spec : {M : Type 1} → statement M
reroute_ready_spec 𝓤 𝓛 𝓜 𝓡 wired =
    let c = f.clauses 𝓛 𝓜.mem 𝓡.returns in let W = walk_of 𝓛 f.ended stayed c in let 𝓣 = tables 𝓤 𝓛.H 𝓜 𝓡 𝓡.env in
    proved 𝓛 f.ended stayed c 𝓜 𝓡 (Goes-dropped 𝓛 0 (plain (λ _. RawPtr)) yes (λ κs x w. refl), tt)
    f.Key.name code.function (code.unfolded 𝓤 𝓛.H 𝓜 𝓡 wired)
    (λ κs. (rawptr_vals, tt)) (λ κs. (rawptr_Tells, tt)) (λ κs qs bounds a n are.
    let y : Ptr → W.Ghost = λ p. ((κs, qs, bounds, (p, tt), (rawptr_vals p, tt)), n) in
    qed 𝓛 (raw (on_entry 𝓛 f.signature κs qs a (y a.0).0.4) ∷ ‵ (room a.0) ∷ []) ∵ drop ! $
    in_a_block ! a.0 room (id⊢ 𝓤 _) (λ b o e.
    regoal ! (λ p. prop (WpFn 𝓤 𝓛.H 𝓣.C 𝓣.Λ code.function (rawptr_vals p) (W.post (y p)))) e refl $
    use1 𝓛 (‵ (froom (layout Held) b o)) (id⊢ 𝓤 _) $
    enter ! _ _ _ _ _ $ alloc_all ! (λ l. pass_all ! refl ((tt, tt), tt) $
    -- [the room; the locals]
    sets ! (of_opd ! (get ! refl)) refl (tt, tt) $
    sets ! (agg ! (and_then ! (lit ! tt) (no_more !))) refl (tt, (record { fits = lit< tt }, tt)) $
    assigns ! (of_opd ! (get ! refl)) (through ! refl (stop !)) (init ! 0 refl (tt, (record { fits = lit< tt }, tt))) $
    sets ! (of_opd ! (unit_lit !)) refl (tt, tt) $
    returns ! (look_at ! 0 refl) $ free_all ! refl $
    use0 𝓛 (‵ (Held.own_val None (live 0 vnil ∷ []))) (none_of 𝓛 drawing.the_row) $
    move ! (1 ∷ 0 ∷ []) $ use2 𝓛 (‵ (lies_at Held full_share (block_ptr b o) None)) (part_in 𝓛 Held refl full_share None b o (live 0 vnil)) $
    suffices ! _ (ends_at 𝓛 f.ended stayed c (y (block_ptr b o)) vunit tt (tt, tt) (tt, tt)) $
    feq_i ! _ (vunit ∷ []) _ refl $ nothing ! $ nothing ! $ join ! $ nothing ! $ group ! 3 $ done !)))
