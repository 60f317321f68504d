-- `replace` moves a drawing out of its place and another in.
use Rattle.std.proofs.Common.{◌≡◌, None, Some, List, [], ◌∷◌, ◌++◌, refl, sym, ap, ◌∙◌}
use mir.Val.{Val, vptr}
use base.Fraction.{full_share}
use base.Logic.{id⊢}
use base.Fml.{ftrue, fat, flft}
use prog.Wp.{WpFn}
use contract.Running.{tables}
use types.Kit.{‵, ◌⊛◌, some, prop, at_ret, ◌$◌, ◌∵◌, !, qed, done, move, keep, use1}
use types.Kit.{use2, split, join, pick, rewrite, regoal, fsplit, fsplit3, fjoin, feq_l, feq_i, suffices, frame, group}
use types.Part.{whole, sub, look_in}
use types.Run.{stop, fld, load, look, store, of_opd, assigns, first, blocks, exec, returns, enter}
use types.ByLocal.{alloc_all, pass_all, free_all, look_at, get, through, sets, sets_last, env}
use denote.Exit.{yes, rest, Last, left}
use denote.RattleType.{RattleType, owns}
use denote.Laws.{Is, shows}
use denote.Memory.{cell_at}
use denote.Param.{layout}
use denote.RawPtr.{Ptr, block_ptr, lies_at, in_a_block}
use denote.Ref.{mut_vals}
use denote.Signature.{plain, types_at}
use denote.Steps.{nothing, opens, closes, peeks}
use denote.Triple.Walked.{Stays, walk_of, stay_dropped, stay_ref, Goes-ref, ends_at}
use borrow.Table.OneValue.{part_out, part_in}
use denote.Laws.{Typed}
use lib.Dec.{T}
use denote.Param.Mute.{blank}
use mir.Syntax.{Ty}
use mir.Val.{has_ty, WT}
use Rattle.std.proofs.VecSteps.Shapes.{after}
use Rattle.std.proofs.mem.Facts.{says_two}
use Rattle.std.proofs.alloc.Calls.{Goes-blank}
use Rattle.std.proofs.raw_atomic.Walks.{proved_at}
use Rattle.std.proofs.option.Option.TheLaws as option_laws
use Rattle.drawing.specs.contracts.drawing.Drawing as drawing
use Rattle.drawing.proofs.drawing.Drawing.TheLaws as drawing_laws
use Rattle.reroute_c.specs.Owned.{Held}
use Rattle.reroute_c.specs.contracts.handle.Handle.replace as f
use Rattle.reroute_c.proofs.handle.Handle.replace.Statement.{statement}
use Rattle.reroute_c.proofs.handle.Handle.replace.Code as code
use Rattle.reroute_c.specs.contracts.handle.Handle.{the_row as R}
use Rattle.reroute_c.proofs.handle.Handle.TheLaws.{lowers}

abbrev Good : Ty → Val → Type 0
Good τ v = T (has_ty τ v) × WT v

one : (τ : Ty) (vs : List Val) → Typed (τ ∷ []) vs → (v : Val) × (vs ≡ v ∷ []) × Good τ v
one τ [] t = absurd t
one τ (v ∷ []) t = (v, refl, t.0)
one τ (v ∷ w ∷ vs) t = absurd t.1

quiet : (x : Held.Denot) (f : Last (Held.exit yes) x) → T (blank (left (Held.exit yes) x f))
quiet None f = tt
quiet (Some s) f = tt

abbrev stayed : Stays f.ended.signature.params f.ended.kept
stayed = (stay_ref (0 ∷ []) tt (plain (λ _. R)), (stay_dropped (plain (λ _. Held)) yes, tt))

pub replace_spec : {M : Type 1} → statement M
replace_spec 𝓤 𝓛 𝓜 𝓡 wired =
    let c = f.clauses 𝓛 𝓜.mem 𝓡.returns in let W = walk_of 𝓛 f.ended stayed c in let 𝓣 = tables 𝓤 𝓛.H 𝓜 𝓡 𝓡.env in let X : RattleType = Held in
    proved_at 𝓛 f.ended stayed c 𝓜 𝓡 (Goes-ref 𝓛 1 0 tt (plain (λ _. R)), (Goes-blank 𝓛 1 (plain (λ _. X)) yes (λ κs. quiet), tt))
    f.Key.name code.function (code.unfolded 𝓤 𝓛.H 𝓜 𝓡 wired) (λ z are.
    let κ = z.0.0.0 in let q = z.0.1.0 in let a = z.0.3 in let vss = z.0.4 in let b = a.0.ref_ptr.0 in let o = a.0.ref_ptr.1 in let h = a.0.now in
    let new = a.1.0 in
    let lawful = (option_laws.the_row_laws drawing.the_row drawing_laws.the_row_laws).lawful 𝓛 in
    let got = one (layout X) vss.1.0 (lawful.typed new vss.1.0 are.1.0) in let w = got.0 in let good = got.2 in
    qed 𝓛 (((‵ (flft κ q) ⊛ ‵ ftrue) ⊛ ‵ (owns (types_at f.ended.signature.params z.0.0) a vss)) ∷ ‵ ftrue ∷ []) ∵
    split ! $ split ! $ move ! (2 ∷ []) $ fsplit ! $ fsplit3 ! $ feq_l ! (λ passed.
    -- [obs; the borrow; the new drawing; the token; ..]
    -- [obs; the borrow; ..]
    move ! (2 ∷ []) $ fsplit ! $ rewrite ! 0 (λ (us : List Val). ‵ (X.own_val new us)) got.1 refl $ keep ! (2 ∷ 3 ∷ 4 ∷ 0 ∷ []) $
    regoal ! (λ (us : List Val). prop (WpFn 𝓤 𝓛.H 𝓣.C 𝓣.Λ code.function us (W.post z))) (λ i. passed i ++ (got.1 i ++ [])) refl $
    enter ! 𝓣.C 𝓣.Λ code.function (vptr b o ∷ w ∷ []) (W.post z) $ alloc_all ! (λ l. pass_all ! refl ((tt, tt), (good, tt)) $
    opens ! tt R b o (λ us. move ! (1 ∷ []) $ peeks ! R _ (shows 𝓛 R) h us (λ is. fsplit ! $ move ! (1 ∷ []) $
    in_a_block ! h.held (λ p. lies_at X full_share p h.drawing) (id⊢ 𝓤 _) (λ b' o' e.
    use1 𝓛 (some (λ (v : Val). ‵ (fat full_share (layout X) b' o' v) ⊛ ‵ (X.own_val h.drawing (v ∷ [])))) (part_out 𝓛 X refl full_share h.drawing b' o') $
    pick ! (λ v. split ! $ move ! (1 ∷ []) $
    peeks ! X (Is X) (shows 𝓛 X) h.drawing (v ∷ []) (λ p. let was = (lawful.typed h.drawing (v ∷ []) p).0 in
    let word = lowers.val_is h us is ∙ ap (λ (at : Ptr). lowers.lowered (record h { held = at }) ∷ []) e in
    let Cell = λ (ws : List Val). ‵ (cell_at full_share R.mir ws b o) in rewrite ! 3 Cell word refl $
    -- [the old drawing; its cell; what the fields own; the handle's cell; the open borrow; the new drawing]
    sets ! (of_opd ! (load ! (through ! refl (fld ! refl (stop !))) (look_in ! 3 (sub ! 0 refl (whole !))))) refl (tt, tt) $
    sets ! (of_opd ! (get ! refl)) refl (tt, tt) $
    first ! $ blocks ! $
    sets ! (of_opd ! (load ! (through ! refl (stop !)) (look ! 1 refl))) refl was $
    sets ! (of_opd ! (get ! refl)) refl good $
    assigns ! (of_opd ! (get ! refl)) (through ! refl (stop !)) (store ! 1 refl good) $
    sets_last ! (of_opd ! (get ! refl)) refl was $
    exec ! 𝓣.C 𝓣.Λ (env code.Mir.locals l) (after 3 (code.function).body) (at_ret _ (W.post z)) $
    sets ! (of_opd ! (get ! refl)) refl was $
    -- the new drawing lies in the place
    move ! (1 ∷ 7 ∷ []) $ use2 𝓛 (‵ (lies_at X full_share (block_ptr b' o') new)) (part_in 𝓛 X refl full_share new b' o' w) $
    rewrite ! 0 (λ (at : Ptr). ‵ (lies_at X full_share at new)) (sym e) refl $ rewrite ! 3 Cell (sym word) refl $
    move ! (2 ∷ 0 ∷ []) $ fjoin ! $ move ! (2 ∷ 0 ∷ 3 ∷ 4 ∷ 5 ∷ []) $ closes ! tt R (record h { drawing = new }) us b o $
    -- [two parts of self; the token; the old drawing]
    returns ! (look_at ! 0 refl) $ free_all ! refl $ keep ! (0 ∷ 1 ∷ 2 ∷ 3 ∷ []) $
    feq_i ! (List Val) vss.0 (mut_vals a.0) passed $
    suffices ! _ (ends_at 𝓛 f.ended stayed c z v h.drawing (record h { drawing = new }, (rest (X.exit yes) new, tt)) (tt, (tt, tt))) $ says_two ! (refl, refl) $
    group ! 3 $ nothing ! $ nothing ! $ join ! $ move ! (1 ∷ 0 ∷ []) $ join ! $ nothing ! $ move ! (2 ∷ 0 ∷ []) $ join ! $ frame ! $ frame ! $ done !))))))))
