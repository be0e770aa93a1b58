-- `into_box` hands what the parts own to `from_raw`.
use mathlib.Core.Path.{◌≡◌, ◌∙◌, refl, sym, subst, ap}
use Rattle.wasmi_c.proofs.Common.{IsSome, Ura, Fn, Body, place, copy, assign, rv_opd, seq, return, inst_fn, Val, vptr, has_ty, WT, SProp, ent, id⊢, ftrue, fsep, flft, ◌⊑◌, Memory, Routine, WpFn, Tables, Logic, Fun, fact, tables, tables_of, Item, at_ret, ‵, raw, ◌⊛◌, some, later, ◌$◌, ◌∵◌, !, qed, by, move, use1, join, split, split3, pick, rewrite, fsplit, fjoin, feq_i, suffices, await, done, whole, sub, stop, fld, no_more, and_then, of_opd, returns, enter, first, blocks, exec, alloc_all, pass_all, free_all, look_at, get, get_in, sets, lands_last, env, RattleType, no, block_ptr, plain, heard, nothing, Ended, Clauses, triple_of, says, Stays, stay_dropped, walk_of, ends_at, proved_at, token, Goes-blank, Bx, D, R, P, B, args, box_ty, word, box_typed, box_out, box_in}
use Rattle.std.specs.Prelude.{Option, Some}
use mathlib.Core.List.{List, [], ◌∷◌, ◌++◌}
use lib.Dec.{T}
use sound.WpLaws.{fm_of}
use types.Kit.{drop}
use denote.Steps.{only}
use denote.Triple.Call.{calls_at_last}
use denote.Triple.Statement.{Triple, Contract}
use Rattle.wasmi_c.proofs.HeldBoxLemmas.{found}
use Rattle.std_alloc.specs.Box.Ownership.{box_owns}
use Rattle.wasmi_c.specs.contracts.held_box.HeldBox as held_box
use Rattle.std_alloc.specs.contracts.boxed.Box.from_raw as Fr
use Rattle.std_alloc.proofs.boxed.Box.from_raw.Symbol as raw_sym
use Rattle.std_alloc.proofs.boxed.Box.from_raw.Met as raw_met
use Rattle.wasmi_c.specs.contracts.held_box.HeldBox.into_box as F
use Rattle.wasmi_c.specs.contracts.held_box.HeldBox.into_box.Key.{name as #self}
use Rattle.wasmi_c.proofs.held_box.HeldBox.into_box.Statement as stated
use Rattle.wasmi_c.proofs.held_box.HeldBox.into_box.Code as code

abbrev rest : Body
rest = seq (assign (place 0 []) (rv_opd (copy (place 4 [])))) return

module _ (E : Bx) where
  abbrev fn' : Fn
  fn' = inst_fn (args E) code.function

  abbrev ended : Ended
  ended = F.ended E.row E.al.row E.al.g E.al.d E.al.drops

  abbrev From : RattleType
  From = held_box.the_row (R E) (P E) E.al.g

  abbrev stayed : Stays ended.signature.params ended.kept
  stayed = (stay_dropped (plain (λ _. From)) no, tt)

  module _ {M : Type 1} {𝓤 : Ura M} (𝓛 : Logic 𝓤) (at_mem : Memory → SProp 𝓤) (run : Routine → Fun 𝓤)
      (𝓣 : Tables 𝓤 𝓛.H) where
    open 𝓛 use {H}

    abbrev held : Clauses 𝓤 ended
    held = F.clauses E.row E.al.row E.al.g E.al.d E.al.drops 𝓛 at_mem run

    abbrev Shuts : Contract 𝓤
    Shuts = triple_of 𝓛 (Fr.signature E.row E.al.row E.al.g E.al.d E.al.drops)
        (Fr.spec E.row E.al.row E.al.g E.al.d E.al.drops 𝓛 at_mem run)

    walk : Triple 𝓤 (𝓣.C (raw_sym.name (args E))) Shuts → (z : (walk_of 𝓛 ended stayed held).Ghost)
        → ent 𝓤 ((walk_of 𝓛 ended stayed held).pre z)
        (WpFn 𝓤 H 𝓣.C 𝓣.Λ fn' (z.0.4.0 ++ []) ((walk_of 𝓛 ended stayed held).post z))
    walk kn z =
        let κs = z.0.0 in let qs = z.0.1 in let s = z.0.3.0 in let a = s.alloc in let Post =
        (walk_of 𝓛 ended stayed held).post z in
        let ts : Item 𝓤 = ‵ (flft κs.0 qs.0) ⊛ ‵ (flft κs.1.0 qs.1.0) ⊛ ‵ ftrue in
        let in_x : Item 𝓤 = raw (fact 𝓤 (κs.0 ⊑ E.row.lives)) in let in_a : Item 𝓤 =
        raw (fact 𝓤 (κs.1.0 ⊑ E.al.row.lives)) in
        qed 𝓛 ((ts ⊛ ‵ (fsep (From.own_val s z.0.4.0) ftrue)) ∷ (in_x ⊛ in_a ⊛ raw (fact 𝓤 (IsSome s.held))) ∷ []) ∵
        move ! (1 ∷ []) $ split3 ! $ move ! (2 ∷ []) $ heard ! (IsSome s.held) (λ there.
        let value = found s.held there in let x = value.0 in
        let v : D E = record { ptr = s.at; alloc = a; value = x } in
        move ! (2 ∷ []) $ split ! $ move ! (1 ∷ []) $ fsplit ! $ rewrite ! 0
        (λ (held : Option E.row.Denot). ‵ (From.own_val (record { at = s.at; alloc = a; held = held }) z.0.4.0))
        value.1 refl $
        box_out E ! v z.0.4.0 (λ b o hv e ws fa. fjoin ! $
        let w = word E hv b o in
        let y : Shuts.Ghost = ((κs, qs, tt, (a, (block_ptr b o, tt)), (hv ∷ [], (vptr b o ∷ [], tt))), x) in
        let Γ : List (Item 𝓤) =
        ‵ (box_owns (token E.al a) (R E) (block_ptr b o) x) ∷ ‵ ((P E).own_val a (hv ∷ [])) ∷ ‵ ftrue ∷ ts ∷
        in_x ∷ in_a ∷ [] in
        by ! (subst (λ (us : List Val). ent 𝓤 (types.Kit.⋆ 𝓛 Γ) (WpFn 𝓤 H 𝓣.C 𝓣.Λ fn' (us ++ []) Post)) (sym ws)
        (qed 𝓛 Γ ∵ enter ! 𝓣.C 𝓣.Λ fn' (w ∷ []) _ $ alloc_all ! (λ ls. pass_all ! refl (box_typed E hv b o fa, tt) $
        sets ! (of_opd ! (get_in ! (fld ! refl (stop !)) (sub ! 0 refl (whole !)))) refl (tt, tt) $ sets !
        (of_opd ! (get_in ! (fld ! refl (stop !)) (sub ! 1 refl (whole !)))) refl fa $
        first ! $ blocks ! $ sets ! (of_opd ! (get ! refl)) refl fa $
        move ! (5 ∷ 0 ∷ []) $ join ! $ move ! (4 ∷ 0 ∷ []) $ join ! $
        -- [what it requires; the handle; true; the tokens]
        move ! (2 ∷ []) $ feq_i ! (List Val) (vptr b o ∷ []) (vptr b o ∷ []) refl $ fjoin ! $ move !
        (2 ∷ 0 ∷ []) $ fjoin ! $ move ! (2 ∷ 0 ∷ []) $ join ! $ join ! $ use1 𝓛 (raw (Shuts.pre y)) (id⊢ 𝓤 _) $
        calls_at_last ! (fm_of 𝓤 H 𝓛.laws 𝓣) Shuts kn y (and_then ! (get ! refl) (and_then ! (get ! refl) (no_more !)))
        (λ u.
        use1 𝓛 (later
        (some (λ (r : D E). (ts ⊛ ‵ ((B E).own_val r (u ∷ []))) ⊛ some
        (λ (_ : Unit {0} × (Unit {0} × Unit {0})). ‵ (fsep ftrue (fsep ftrue ftrue)) ⊛
        (raw (fact 𝓤 (r.value ≡ x)) ⊛ raw (fact 𝓤 (r.alloc ≡ a))))))) (id⊢ 𝓤 _) $
        await ! tt $ pick !
        (λ r. split ! $ move ! (1 ∷ []) $ pick !
        (λ _. split3 ! $ drop ! $ heard ! (r.value ≡ x) (λ same. drop ! $ split ! $ move ! (1 ∷ []) $
        box_out E ! r (u ∷ [])
        (λ b' o' hw e' wu fw. box_in E ! r b' o' r.value e' refl $ rewrite ! 0
        (λ (us : List Val). ‵ ((B E).own_val r us)) (sym wu) refl $
        let typed : T (has_ty (box_ty E) u) × WT u =
        subst (λ (s : Val). T (has_ty (box_ty E) s) × WT s) (sym (ap only wu)) (box_typed E hw b' o' fw) in
        lands_last ! refl typed $ exec ! 𝓣.C 𝓣.Λ (env fn'.locals ls) rest (at_ret (env fn'.locals ls) Post) $
        sets ! (of_opd ! (get ! refl)) refl typed $ returns ! (look_at ! 0 refl) $ free_all ! refl $
        suffices ! _ (ends_at 𝓛 ended stayed held z u r ((tt, (tt, tt)), tt) (tt, tt)) $ says !
        (ap (λ (y : E.row.Denot). Some y) same ∙ sym value.1) $
        nothing ! $ nothing ! $ fjoin ! $ join ! $ move ! (1 ∷ 0 ∷ []) $ join ! $ done !))))))))))

pub into_box_spec : {M : Type 1} → stated.statement M
unfolding tables_of
into_box_spec 𝓤 𝓛 𝓜 𝓡 wired X Z LX LZ g d dd allocator md =
    let E : Bx = record { row = X; laws = LX; al = record { row = Z; laws = LZ; g = g; d = d; drops = dd } } in
    let 𝓣 : Tables 𝓤 𝓛.H = tables_of 𝓤 𝓛.H 𝓜 (tables 𝓤 𝓛.H 𝓜 𝓡 𝓡.env) in
    proved_at 𝓛 (ended E) (stayed E) (held E 𝓛 𝓜.mem 𝓡.returns 𝓣) 𝓜 𝓡
    (Goes-blank 𝓛 2 (plain (λ _. From E)) no (λ κs x f. tt), tt) (#self (args E)) (fn' E)
    (code.unfolded 𝓤 𝓛.H 𝓜 𝓡 wired (X, (Z, tt)) d dd) (λ z are. walk E 𝓛 𝓜.mem 𝓡.returns 𝓣
    (raw_met.met 𝓤 𝓛 𝓜 𝓡 (code.calls-std_alloc::boxed::Box::from_raw 𝓡.env wired) X Z LX LZ g d dd allocator md) z)
