-- `empty` puts a null pointer beside the allocator, and owns nothing.
use mathlib.Core.Path.{refl, sym, subst}
use mathlib.Core.List.{List, [], ◌∷◌, ◌++◌}
use Rattle.wasmi_c.proofs.Common.{Ura, Fn, inst_fn, Val, SProp, ent, id⊢, ftrue, fsep, flft, ◌⊑◌, Memory, Routine, WpFn, Tables, Logic, Fun, fact, tables, tables_of, Item, ‵, raw, ◌⊛◌, ◌$◌, ◌∵◌, !, qed, move, join, split, fsplit, fjoin, use1, suffices, done, lit, of_opd, no_more, and_then, returns, enter, agg, alloc_all, pass_all, free_all, look_at, get, sets, RattleType, no, null_ptr, plain, nothing, Ended, Clauses, says, Stays, stay_dropped, walk_of, ends_at, proved_at, handle_tells, Goes-blank, Bx, R, P, args}
use Rattle.std.specs.Prelude.{None}
use types.Kit.{drop}
use Rattle.wasmi_c.proofs.HeldBoxLemmas.{pair, pair_in, pair_typed}
use Rattle.wasmi_c.specs.contracts.held_box.HeldBox as held_box
use Rattle.wasmi_c.specs.contracts.held_box.HeldBox.empty as F
use Rattle.wasmi_c.specs.contracts.held_box.HeldBox.empty.Key.{name as #self}
use Rattle.wasmi_c.proofs.held_box.HeldBox.empty.Statement as stated
use Rattle.wasmi_c.proofs.held_box.HeldBox.empty.Code as code

module _ (E : Bx) where
  abbrev fn' : Fn
  fn' = inst_fn (args E) code.function

  abbrev ended : Ended
  ended = F.ended E.row E.al.row E.al.g E.al.d E.al.drops

  abbrev To : RattleType
  To = held_box.the_row (R E) (P E) E.al.g

  abbrev stayed : Stays ended.signature.params ended.kept
  stayed = (stay_dropped (plain (λ _. P E)) no, tt)

  module _ {M : Type 1} {𝓤 : Ura M} (𝓛 : Logic 𝓤) (at_mem : Memory → SProp 𝓤) (run : Routine → Fun 𝓤)
      (𝓣 : Tables 𝓤 𝓛.H) where
    open 𝓛 use {H}

    abbrev held : Clauses 𝓤 ended
    held = F.clauses E.row E.al.row E.al.g E.al.d E.al.drops 𝓛 at_mem run

    walk : (z : (walk_of 𝓛 ended stayed held).Ghost)
        → ent 𝓤 ((walk_of 𝓛 ended stayed held).pre z)
        (WpFn 𝓤 H 𝓣.C 𝓣.Λ fn' (z.0.4.0 ++ []) ((walk_of 𝓛 ended stayed held).post z))
    walk z =
        let κs = z.0.0 in let qs = z.0.1 in let a = z.0.3.0 in let Post = (walk_of 𝓛 ended stayed held).post z in
        let Run : List Val → SProp 𝓤 = λ ws. WpFn 𝓤 H 𝓣.C 𝓣.Λ fn' ws Post in
        let ts : Item 𝓤 = ‵ (flft κs.0 qs.0) ⊛ ‵ (flft κs.1.0 qs.1.0) ⊛ ‵ ftrue in
        let alive : Item 𝓤 = raw (fact 𝓤 (κs.0 ⊑ E.row.lives)) ⊛ raw (fact 𝓤 (κs.1.0 ⊑ E.al.row.lives)) ⊛ ‵ ftrue in
        let made : To.Denot = record { at = null_ptr; alloc = a; held = None } in
        qed 𝓛 ((ts ⊛ ‵ (fsep ((P E).own_val a z.0.4.0) ftrue)) ∷ alive ∷ []) ∵ split ! $ move ! (1 ∷ []) $ fsplit ! $
        handle_tells E.al ! a z.0.4.0 (λ hv eh fa.
        let w = pair null_ptr hv in
        -- [the handle; true; the tokens; what lives]
        nothing ! $ pair_in E ! (null_ptr, a, None) hv $
        use1 𝓛 (‵ (To.own_val made (w ∷ []))) (id⊢ 𝓤 _) $ move ! (1 ∷ []) $ drop ! $ move ! (2 ∷ []) $ drop ! $
        suffices ! (Run (hv ∷ []))
        (subst (λ (us : List Val). ent 𝓤 (Run (hv ∷ [])) (Run us)) (sym (λ i. eh i ++ [])) (id⊢ 𝓤 (Run (hv ∷ [])))) $
        enter ! 𝓣.C 𝓣.Λ fn' (hv ∷ []) _ $ alloc_all ! (λ ls. pass_all ! refl (fa, tt) $
        sets ! (of_opd ! (get ! refl)) refl fa $
        sets ! (agg ! (and_then ! (lit ! tt) (and_then ! (get ! refl) (no_more !)))) refl (pair_typed E null_ptr hv fa) $ returns !
        (look_at ! 0 refl) $ free_all ! refl $
        suffices ! _ (ends_at 𝓛 ended stayed held z w made (tt, tt) (tt, tt)) $ says ! refl $
        nothing ! $ nothing ! $ fjoin ! $ join ! $ move ! (1 ∷ 0 ∷ []) $ join ! $ done !))

pub empty_spec : {M : Type 1} → stated.statement M
unfolding tables_of
empty_spec 𝓤 𝓛 𝓜 𝓡 wired X Z LX LZ g d dd allocator md =
    let E : Bx = record { row = X; laws = LX; al = record { row = Z; laws = LZ; g = g; d = d; drops = dd } } in
    let 𝓣 : Tables 𝓤 𝓛.H = tables_of 𝓤 𝓛.H 𝓜 (tables 𝓤 𝓛.H 𝓜 𝓡 𝓡.env) in
    proved_at 𝓛 (ended E) (stayed E) (held E 𝓛 𝓜.mem 𝓡.returns 𝓣) 𝓜 𝓡
    (Goes-blank 𝓛 2 (plain (λ _. P E)) no (λ κs x f. tt), tt) (#self (args E)) (fn' E)
    (code.unfolded 𝓤 𝓛.H 𝓜 𝓡 wired (X, (Z, tt)) d dd) (λ z are. walk E 𝓛 𝓜.mem 𝓡.returns 𝓣 z)
