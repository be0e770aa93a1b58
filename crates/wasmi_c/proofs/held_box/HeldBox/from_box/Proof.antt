-- `of` takes the box apart, and the parts own what it owned.
use mathlib.Core.Path.{◌≡◌, refl, sym, subst, ap, ◌∙◌}
use Rattle.wasmi_c.proofs.Common.{Ura, Fn, Args, Dict, a_type, dcons, dnil, inst_fn, Val, vstruct, of_list, SProp, ent, id⊢, never, fst∗, ftrue, fsep, flft, ◌⊑◌, Memory, Routine, WpFn, Tables, Logic, sem, Fun, fact, tables, tables_of, Item, ‵, raw, ◌⊛◌, some, later, ◌$◌, ◌∵◌, !, qed, by, move, use1, join, split, split3, pick, rewrite, fsplit, fjoin, fpick, feq_l, suffices, await, done, whole, sub, agg, stop, fld, no_more, and_then, of_opd, returns, enter, alloc_all, pass_all, free_all, look_at, get, get_in, sets, lands_as, RattleType, no, Ptr, RawPtr, block_ptr, null_ptr, ptr_val, in_a_block, plain, heard, nothing, Ended, Clauses, triple_of, says, Stays, stay_dropped, walk_of, ends_at, proved_at, token, handle_tells, Goes-blank, Bx, D, τ, R, P, B, word, box_typed, box_out, box_in}
use Rattle.std.specs.Prelude.{Some}
use mathlib.Core.List.{List, [], ◌∷◌, ◌++◌}
use mir.Raw.{raw as bare}
use sound.WpLaws.{fm_of}
use types.Kit.{drop}
use denote.Param.{bounded}
use denote.Steps.{only}
use denote.Struct.Tuple.{Tuple}
use denote.Triple.Call.{calls_at}
use denote.Triple.Statement.{Triple, Contract}
use Rattle.std_alloc.specs.Box.Ownership.{box_owns}
use Rattle.wasmi_c.specs.contracts.held_box.HeldBox as held_box
use Rattle.std_alloc.specs.contracts.boxed.Box.into_raw_with_allocator as Ra
use Rattle.std_alloc.proofs.boxed.Box.into_raw_with_allocator.Symbol as raw_sym
use Rattle.std_alloc.proofs.boxed.Box.into_raw_with_allocator.Met as raw_met
use Rattle.wasmi_c.specs.contracts.held_box.HeldBox.from_box as F
use Rattle.wasmi_c.specs.contracts.held_box.HeldBox.from_box.Key.{name as #self}
use Rattle.wasmi_c.proofs.held_box.HeldBox.from_box.Statement as stated
use Rattle.wasmi_c.proofs.held_box.HeldBox.from_box.Code as code

module _ (E : Bx) (dx : Dict) where
  abbrev args : Args
  args = bounded (a_type ∷ a_type ∷ []) (E.row, (E.al.row, tt)) (dcons E.al.d (dcons E.al.drops (dcons dx dnil)))

  abbrev fn' : Fn
  fn' = inst_fn args code.function

  abbrev ended : Ended
  ended = F.ended E.row E.al.row E.al.g E.al.d E.al.drops dx

  abbrev stayed : Stays ended.signature.params ended.kept
  stayed = (stay_dropped (plain (λ _. B E)) no, tt)

  abbrev To : RattleType
  To = held_box.the_row (R E) (P E) E.al.g

  module _ {M : Type 1} {𝓤 : Ura M} (𝓛 : Logic 𝓤) (at_mem : Memory → SProp 𝓤) (run : Routine → Fun 𝓤)
      (𝓣 : Tables 𝓤 𝓛.H) where
    open 𝓛 use {H}

    abbrev held : Clauses 𝓤 ended
    held = F.clauses E.row E.al.row E.al.g E.al.d E.al.drops dx 𝓛 at_mem run

    abbrev Opens : Contract 𝓤
    Opens = triple_of 𝓛 (Ra.signature E.row E.al.row E.al.g E.al.d E.al.drops dx)
        (Ra.spec E.row E.al.row E.al.g E.al.d E.al.drops dx 𝓛 at_mem run)

    walk : Triple 𝓤 (𝓣.C (raw_sym.name args)) Opens → (z : (walk_of 𝓛 ended stayed held).Ghost)
        → ent 𝓤 ((walk_of 𝓛 ended stayed held).pre z)
        (WpFn 𝓤 H 𝓣.C 𝓣.Λ fn' (z.0.4.0 ++ []) ((walk_of 𝓛 ended stayed held).post z))
    walk kn z =
        let κs = z.0.0 in let qs = z.0.1 in let v = z.0.3.0 in let a = v.alloc in let Post =
        (walk_of 𝓛 ended stayed held).post z in
        let ts : Item 𝓤 = ‵ (flft κs.0 qs.0) ⊛ ‵ (flft κs.1.0 qs.1.0) ⊛ ‵ ftrue in
        let alive : Item 𝓤 = raw (fact 𝓤 (κs.0 ⊑ E.row.lives)) ⊛ raw (fact 𝓤 (κs.1.0 ⊑ E.al.row.lives)) ⊛ ‵ ftrue in
        qed 𝓛 ((ts ⊛ ‵ (fsep ((B E).own_val v z.0.4.0) ftrue)) ∷ alive ∷ []) ∵ split ! $ move ! (1 ∷ []) $ fsplit ! $
        box_out E ! v z.0.4.0 (λ b o hv e ws fa. box_in E ! v b o v.value e refl $
        let w = word E hv b o in
        let y : Opens.Ghost = ((κs, qs, tt, (v, tt), (w ∷ [], tt)), tt) in
        let Γ : List (Item 𝓤) = ‵ ((B E).own_val v (w ∷ [])) ∷ ‵ ftrue ∷ ts ∷ alive ∷ [] in
        by ! (subst (λ (us : List Val). ent 𝓤 (types.Kit.⋆ 𝓛 Γ) (WpFn 𝓤 H 𝓣.C 𝓣.Λ fn' (us ++ []) Post)) (sym ws)
        (qed 𝓛 Γ ∵ enter ! 𝓣.C 𝓣.Λ fn' (w ∷ []) _ $ alloc_all !
        (λ ls. pass_all ! refl (box_typed E hv b o fa, tt) $ sets ! (of_opd ! (get ! refl)) refl
        (box_typed E hv b o fa) $
        fjoin ! $ move ! (1 ∷ 0 ∷ []) $ join ! $ join ! $ use1 𝓛 (raw (Opens.pre y)) (id⊢ 𝓤 _) $
        calls_at ! (fm_of 𝓤 H 𝓛.laws 𝓣) Opens kn y (and_then ! (get ! refl) (no_more !)) (λ u.
        use1 𝓛 (later
        (some (λ (r : Ptr × E.al.row.Denot). (ts ⊛ ‵ ((Tuple (RawPtr ∷ P E ∷ [])).own_val r (u ∷ []))) ⊛ some
        (λ (_ : (Unit {0} × (Unit {0} × Unit {0})) × Unit {0}). ‵ (fsep (fsep ftrue (fsep ftrue ftrue)) ftrue) ⊛
        (raw (fact 𝓤 (r.1 ≡ a)) ⊛ ‵ (box_owns (token E.al a) (R E) r.0 v.value)))))) (id⊢ 𝓤 _) $
        await ! tt $ pick ! (λ r. split ! $ move ! (1 ∷ []) $ pick ! (λ _. split3 ! $ drop ! $ heard ! (r.1 ≡ a) (λ ea.
        in_a_block ! r.0 (λ p. box_owns (token E.al a) (R E) p v.value)
        (fst∗ 𝓤 (never 𝓤) (sem 𝓛 (token E.al a (bare (τ E)) null_ptr))) (λ b' o' e'.
        move ! (1 ∷ []) $ split ! $ move ! (1 ∷ []) $ fpick !
        (λ vss. fsplit ! $ feq_l !
        (λ eu. fsplit ! $ feq_l !
        (λ ep. fsplit ! $ rewrite ! 0
        (λ (s : E.al.row.Denot). ‵ (E.al.row.own_val s vss.1.0)) ea refl $ handle_tells E.al ! a vss.1.0
        (λ hw eh fw.
        let d : D E = record { ptr = block_ptr b' o'; alloc = a; value = v.value } in
        let made : To.Denot = record { at = block_ptr b' o'; alloc = a; held = Some v.value } in
        lands_as ! (ap only
        (eu ∙ (λ j. vstruct (of_list ((ep ∙ ap (λ (p : Ptr). ptr_val p ∷ []) e') j ++ (eh j ++ []))) ∷ []))) refl
        (box_typed E hw b' o' fw) $
        sets ! (of_opd ! (get_in ! (fld ! refl (stop !)) (sub ! 0 refl (whole !)))) refl (tt, tt) $ sets !
        (of_opd ! (get_in ! (fld ! refl (stop !)) (sub ! 1 refl (whole !)))) refl fw $ sets !
        (of_opd ! (get ! refl)) refl fw $
        sets ! (agg ! (and_then ! (get ! refl) (and_then ! (get ! refl) (no_more !)))) refl
        (box_typed E hw b' o' fw) $ returns ! (look_at ! 0 refl) $ free_all ! refl $
        -- [the handle; true; the tokens; the value with its token]
        move ! (3 ∷ []) $ fsplit ! $ box_in E ! d b' o' v.value refl refl $ use1 𝓛
        (‵ (To.own_val made (word E hw b' o' ∷ []))) (id⊢ 𝓤 _) $ move ! (1 ∷ []) $ drop ! $
        suffices ! _ (ends_at 𝓛 ended stayed held z (word E hw b' o') made ((tt, (tt, tt)), tt) (tt, tt)) $ says ! refl
        $
        nothing ! $ nothing ! $ fjoin ! $ join ! $ move ! (1 ∷ 0 ∷ []) $ join ! $ done !)))))))))))))

pub from_box_spec : {M : Type 1} → stated.statement M
unfolding tables_of
from_box_spec 𝓤 𝓛 𝓜 𝓡 wired X Z LX LZ g d dd dx allocator md glue =
    let E : Bx = record { row = X; laws = LX; al = record { row = Z; laws = LZ; g = g; d = d; drops = dd } } in
    let 𝓣 : Tables 𝓤 𝓛.H = tables_of 𝓤 𝓛.H 𝓜 (tables 𝓤 𝓛.H 𝓜 𝓡 𝓡.env) in
    proved_at 𝓛 (ended E dx) (stayed E dx) (held E dx 𝓛 𝓜.mem 𝓡.returns 𝓣) 𝓜 𝓡
    (Goes-blank 𝓛 2 (plain (λ _. B E)) no (λ κs x f. tt), tt) (#self (args E dx)) (fn' E dx)
    (code.unfolded 𝓤 𝓛.H 𝓜 𝓡 wired (X, (Z, tt)) d dd dx) (λ z are. walk E dx 𝓛 𝓜.mem 𝓡.returns 𝓣
    (raw_met.met 𝓤 𝓛 𝓜 𝓡
    (code.calls-std_alloc::boxed::Box::into_raw_with_allocator 𝓡.env wired) X Z LX LZ g d dd dx allocator md glue) z)
