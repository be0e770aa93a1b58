-- Values on the heap or none, for the proofs by hand: a box of a machine or a pool, how it is moved, and how its value
-- is lent.
use mathlib.Core.Path.{ap, subst}
use mathlib.Core.List.{List, [], ◌∷◌, ◌++◌}
use Rattle.wasmi_c.proofs.Common.{Ura, Callee, Fn, Local, Opd, Sym, Ty, addr_of, aggregate, assign, block, copy, deref, dnil, erased, field, impl, local, mut, named, place, return, rv_opd, seq, tcons, tnil, ty_named, ty_ptr, ty_ref, ty_struct, value_local, Val, vptr, vstruct, vcons, vnil, of_list, has_ty, WT, SProp, emp, ent, sep, Fml, GName, Lft, Share, fbor, fex, flft, fobs, fsep, ftrue, Closed, Env, WpFn, Tables, Logic, sem, fact, Running, tables, tables_of, Goal, Seq, Step, Item, ⋆, ‵, raw, ◌⊛◌, some, later, await, pick, at_ret, ◌$◌, ◌∵◌, !, qed, step, by, move, keep, use1, split, join, group, rewrite, fsplit, fsplit3, fjoin, fpick, fpack, feq_l, feq_i, suffices, frame, done, whole, sub, agg, look_in, stop, fld, load, no_more, and_then, of_opd, addr, first, blocks, exec, returns, enter, alloc_all, pass_all, free_all, look_at, get, get_in, through, sets, sets_last, env, Kept, Last, left, no, IsSend, RattleType, Valss, owns, Ptr, RawPtr, block_ptr, null_ptr, ptr_val, Slot, mut_ref_to, plain, nothing, opens, shape, within, Clauses, Ended, closing, Meets, says, needs, Goes-spent_ref, Stays, stay_dropped, walk_of, ends_at, α, Fits, Goes-blank, handle_tells, token, proved_at, IsSome, B, Bx, D, P, R, box_ty, handle, owning, word, τ, box_out, box_in, lies, box_or_none_owns, global_token}
use lib.Dec.{T}
use base.Fraction.{full_share}
use base.Shift.{Keyless}
use mir.Raw.{raw as raw_ty}
use prog.Model.{Model}
use types.Kit.{drop}
use types.SemTy.{Body as Borrowed}
use denote.Follow.{follows, Part, lends_Part}
use denote.Memory.{cell_at, lone, mem, part_at, part_of}
use denote.Param.Laws.{Laws}
use denote.Param.Mute.{blank}
use denote.Ref.{MutBor, MutRef}
use denote.Triple.Entry.{on_entry}
use Rattle.std.proofs.Common.{◌≡◌, ℕ, refl, sym, Some, None, true≢false, lit<}
use Rattle.std.proofs.Crossing.{frees}
use Rattle.std.proofs.VecSteps.Shapes.{after}
use Rattle.std.specs.Global.{Global}
use Rattle.std.specs.Prelude.{Option}
use Rattle.std_alloc.proofs.ResultValues.{and_tt}
use Rattle.std_heap.specs.contracts.Global as Heap
use Rattle.std_heap.specs.contracts.GlobalAllocator.TheImpl.{ghosts, dict}
use Rattle.std_heap.proofs.Global.TheLaws as heap
use Rattle.wasmi_c.specs.contracts.held_box.HeldBox as held_box
use Rattle.wasmi_c.specs.contracts.machine.limited_machine.LimitedMachine as machine_home
use Rattle.wasmi_c.proofs.machine.limited_machine.LimitedMachine.TheLaws as machine_laws
use Rattle.wasmi_c.specs.contracts.machine.machine_box.MachineBox as machine_box
use Rattle.wasmi_c.specs.contracts.pool.TenantPool as pool_home
use Rattle.wasmi_c.specs.contracts.pool.pool_box.PoolBox as pool_box
use Rattle.wasmi_c.proofs.pool.TenantPool.TheLaws as pool_laws

-- a value on the heap or none, where there is one: an option that isn't empty has a value
pub found : {X : Type 0} (o : Option X) → IsSome o → (x : X) × (o ≡ Some x)
found (Some x) there = (x, refl)
found None there = absurd (true≢false (sym there))

-- a box by the allocator of the system
abbrev pub system_box : (row : RattleType) → Laws row → Bx
system_box row laws = record {
  row = row;
  laws = laws;
  al = record {
    row = Heap.the_row;
    laws = heap.the_row_laws;
    g = ghosts;
    d = dict;
    drops = impl [] tnil dnil;
  };
}

-- a pointer beside an allocator's value
abbrev pub pair : Ptr → Val → Val
pair at hv = vstruct (vcons (ptr_val at) (vcons hv vnil))

-- a pointer has a pointer's type
ptr_typed : (at : Ptr) → T (has_ty ty_ptr (ptr_val at)) × WT (ptr_val at)
ptr_typed (block_ptr b o) = (tt, tt)
ptr_typed null_ptr = (tt, record { fits = lit< tt })

module _ (E : Bx) where
  -- the pair has the type of a box
  pub pair_typed : (at : Ptr) (hv : Val) → Fits E.al hv → T (has_ty (box_ty E) (pair at hv)) × WT (pair at hv)
  pair_typed (block_ptr b o) hv fa = (and_tt (has_ty (α E.al) hv) fa.0, (tt, (fa.1, tt)))
  pair_typed null_ptr hv fa = (and_tt (has_ty (α E.al) hv) fa.0, (record { fits = lit< tt }, (fa.1, tt)))

  -- a pointer, an allocator, and the value that the pointer leads to, if there is one
  abbrev pub Contents : Type 0
  Contents = Ptr × E.al.row.Denot × Option E.row.Denot

  -- a pointer and an allocator, and what is owned of the value
  abbrev pub Parts : Contents → List Val → Fml
  Parts c vs = fsep (fex (Valss (RawPtr ∷ P E ∷ [])) (within (shape (owning E)) (c.0, (c.1, tt)) vs))
      (box_or_none_owns (token E.al c.1) E.row c.0 c.2)

  module _ {M : Type 1} {𝓤 : Ura M} {𝓛 : Logic 𝓤} {K : Type 0} {Γ : List (Item 𝓤)} {G : Goal 𝓤 𝓛.H} where
    -- an allocator's value joins what is owned of the value
    pub pair_in : K → (c : Contents) (hv : Val) → Step K 𝓛 (‵ (Parts c (pair c.0 hv ∷ [])) ∷ Γ) G
        (‵ (box_or_none_owns (token E.al c.1) E.row c.0 c.2) ∷ ‵ (handle E c.1 hv) ∷ Γ) G
    pair_in t c hv = step (λ s.
        nothing t $ move t (2 ∷ 0 ∷ []) $ fjoin t $
        feq_i t (List Val) (ptr_val c.0 ∷ []) (ptr_val c.0 ∷ []) refl $ fjoin t $
        feq_i t (List Val) (pair c.0 hv ∷ []) (pair c.0 hv ∷ []) refl $ fjoin t $
        fpack t (Valss (RawPtr ∷ P E ∷ [])) (within (shape (owning E)) (c.0, (c.1, tt)) (pair c.0 hv ∷ []))
        (ptr_val c.0 ∷ [], (hv ∷ [], tt)) $ fjoin t $ s)

    -- what is owned of a value is of one pair
    paired : K → (c : Contents) (vs : List Val)
        → ((hv : Val) → vs ≡ pair c.0 hv ∷ [] → Fits E.al hv → Seq K 𝓛 (‵ (Parts c (pair c.0 hv ∷ [])) ∷ Γ) G)
        → Seq K 𝓛 (‵ (Parts c vs) ∷ Γ) G
    paired t c vs k =
        let at = c.0 in
        fsplit t $ fpick t (λ vss. fsplit t $ feq_l t (λ ev. fsplit t $ feq_l t (λ ep. fsplit t $
        handle_tells E.al t c.1 vss.1.0 (λ hv ea fa. move t (1 ∷ []) $ drop t $ move t (1 ∷ []) $
        pair_in t c hv $ k hv (subst (λ (ws : List Val). vs ≡ vstruct (of_list (ptr_val at ∷ (ws ++ []))) ∷ []) ea
        (subst (λ (ps : List Val). vs ≡ vstruct (of_list (ps ++ (vss.1.0 ++ []))) ∷ []) ep ev)) fa))))

  -- the type of a struct of a pointer and an allocator
  abbrev pair_ty : Sym → Ty
  pair_ty name = ty_struct name (tcons ty_ptr (tcons (α E.al) tnil))

  -- the function that takes the fields of such a struct and makes one of another name of them
  abbrev moving : Sym → Sym → Fn
  moving from to =
      let var : Ty → Local = λ ty. local ty value_local in
      let arg : ℕ → Opd = λ i. copy (place i []) in
      record {
        lifetimes = 0;
        outlives = [];
        ty_params = [];
        givens = 0;
        params = 1;
        locals = var (pair_ty to) ∷ var (pair_ty from) ∷ var ty_ptr ∷ var (α E.al) ∷ var ty_ptr ∷ [];
        body = seq (assign (place 2 []) (rv_opd (copy (place 1 (field 0 ∷ [])))))
            (seq (assign (place 3 []) (rv_opd (copy (place 1 (field 1 ∷ [])))))
            (seq (assign (place 4 []) (rv_opd (arg 2)))
            (seq (assign (place 0 []) (aggregate (arg 4 ∷ arg 3 ∷ []))) return)));
      }

  -- a function that moves a pair returns the pair that it takes, with what is owned with it
  moved : {M : Type 1} {𝓤 : Ura M} (𝓛 : Logic 𝓤) (𝓣 : Tables 𝓤 𝓛.H) (from to : Sym) (Post : Val → SProp 𝓤)
      (c : Contents) (vs : List Val) → ((w : Val) → ent 𝓤 (sem 𝓛 (Parts c (w ∷ []))) (Post w))
      → ent 𝓤 (sem 𝓛 (Parts c vs)) (WpFn 𝓤 𝓛.H 𝓣.C 𝓣.Λ (moving from to) (vs ++ []) Post)
  moved {𝓤 = 𝓤} 𝓛 𝓣 from to Post c vs ends =
      let at = c.0 in
      let Run : List Val → SProp 𝓤 = λ us. WpFn 𝓤 𝓛.H 𝓣.C 𝓣.Λ (moving from to) us Post in
      qed 𝓛 (‵ (Parts c vs) ∷ []) ∵ paired ! c vs (λ hv ws fa.
      let w = pair at hv in
      by ! (subst (λ (us : List Val). ent 𝓤 (sem 𝓛 (Parts c (w ∷ []))) (Run (us ++ []))) (sym ws)
      (qed 𝓛 (‵ (Parts c (w ∷ [])) ∷ []) ∵ enter ! 𝓣.C 𝓣.Λ (moving from to) (w ∷ []) _ $
      alloc_all ! (λ ls. pass_all ! refl (pair_typed at hv fa, tt) $
      sets ! (of_opd ! (get_in ! (fld ! refl (stop !)) (sub ! 0 refl (whole !)))) refl (ptr_typed at) $
      sets ! (of_opd ! (get_in ! (fld ! refl (stop !)) (sub ! 1 refl (whole !)))) refl fa $
      sets ! (of_opd ! (get ! refl)) refl (ptr_typed at) $
      sets ! (agg ! (and_then ! (get ! refl) (and_then ! (get ! refl) (no_more !)))) refl (pair_typed at hv fa) $
      returns ! (look_at ! 0 refl) $ free_all ! refl $ by ! (ends w)))))

-- a row of one type of the machine, that type written out
abbrev pub one : RattleType → RattleType
one row = record row { mir = lone row.mir ∷ [] }

-- a struct that holds a pointer, an allocator and the value
pub record Holder (E : Bx) : Type 1 where
  pub given : RattleType
  pub parts : given.Denot → Contents E
  pub make : Contents E → given.Denot
  pub made : (c : Contents E) → parts (make c) ≡ c

-- the row of a holder, what it owns written out
abbrev row_of : {E : Bx} → Holder E → RattleType
row_of {E = E} H = record H.given { own_val = λ d. Parts E (H.parts d) }

module _ {E : Bx} (From To : Holder E) (kept : Kept) where
  abbrev taken : Slot 0
  taken = plain (λ _. row_of From)

  -- a function that makes one such struct of another with the same value
  abbrev moving_ended : Ended
  moving_ended = record {
    signature = record { lifetimes = 0; outlives = []; params = taken ∷ []; result = plain (λ _. row_of To) };
    kept = (kept, tt);
  }

  abbrev moving_clauses : {M : Type 1} (𝓤 : Ura M) → Clauses 𝓤 moving_ended
  moving_clauses 𝓤 κs args = record {
    ghost = Unit {0};
    requires = λ _. emp 𝓤;
    ensures = λ _ result _. fact 𝓤 ((To.parts result).2 ≡ (From.parts args.0).2);
  }

  abbrev spent : Stays (moving_ended).signature.params (moving_ended).kept
  spent = (stay_dropped taken kept, tt)

  -- a function that makes one holder of another keeps the value
  pub moves : {M : Type 1} {𝓤 : Ura M} (𝓛 : Logic 𝓤) (𝓜 : Model 𝓤 𝓛.H) (𝓡 : Running 𝓤 𝓛.H 𝓜)
      → ((s : From.given.Denot) → Last (From.given.exit kept) s)
      → ((s : From.given.Denot) (last : Last (From.given.exit kept) s) → T (blank (left (From.given.exit kept) s last)))
      → (key : Callee) (from to : Sym) → let 𝓣 = tables 𝓤 𝓛.H 𝓜 𝓡 𝓡.env in
      Closed 𝓤 𝓛.H 𝓣.C 𝓣.Λ key (moving E from to)
      → Meets 𝓛 (moving_ended).signature (𝓣.C key) (closing 𝓛 moving_ended (moving_clauses 𝓤))
  unfolding tables_of
  moves {𝓤 = 𝓤} 𝓛 𝓜 𝓡 last silent key from to closed =
      let c = moving_clauses 𝓤 in
      proved_at 𝓛 moving_ended spent c 𝓜 𝓡 (Goes-blank 𝓛 0 taken kept (λ κs. silent), tt) key (moving E from to) closed
      (λ z are. let s = z.0.3.0 in let parts = From.parts s in
      qed 𝓛 ((‵ ftrue ⊛ ‵ (fsep (Parts E parts z.0.4.0) ftrue)) ∷ raw (emp 𝓤) ∷ []) ∵
      split ! $ drop ! $ fsplit ! $ keep ! (0 ∷ []) $
      by ! (moved E 𝓛 (tables_of 𝓤 𝓛.H 𝓜 (tables 𝓤 𝓛.H 𝓜 𝓡 𝓡.env)) from to _ parts z.0.4.0 (λ w.
      qed 𝓛 (‵ (Parts E parts (w ∷ [])) ∷ []) ∵
      rewrite ! 0 (λ (c : Contents E). ‵ (Parts E c (w ∷ []))) (sym (To.made parts)) refl $
      suffices ! _ (ends_at 𝓛 moving_ended spent c z w (To.make parts) (last s, tt) (tt, tt)) $
      says ! (ap (λ (c : Contents E). c.2) (To.made parts)) $
      nothing ! $ nothing ! $ fjoin ! $ join ! $ nothing ! $ join ! $ done !)))

module _ (home : RattleType) (laws : Laws (one home)) where
  abbrev Home : Bx
  Home = system_box (one home) laws

  module _ (H : Holder Home) (box name : Sym) where
    -- the row of a box
    abbrev Box : RattleType
    Box = record (row_of H) { mir = pair_ty Home box ∷ [] }

    -- the function that lends the value in its place
    abbrev lending : Fn
    lending =
        let var : Ty → Local = λ ty. local ty value_local in
        let to : Sym → Ty = λ name. ty_named (name, []) tnil in
        record {
          lifetimes = 1;
          outlives = [];
          ty_params = [];
          givens = 0;
          params = 1;
          locals = var (ty_ref (named 0) mut (to name)) ∷ var (ty_ref (named 0) mut (to box))
              ∷ var (ty_ref erased mut (to name)) ∷ var ty_ptr ∷ var ty_ptr ∷ [];
          body = seq (block (seq
              (assign (place 3 []) (rv_opd (copy (place 1 (deref (pair_ty Home box) ∷ field 0 ∷ [])))))
              (seq (assign (place 4 []) (rv_opd (copy (place 3 []))))
              (assign (place 2 []) (addr_of (place 4 (deref (lone home.mir) ∷ [])))))))
              (seq (assign (place 0 []) (rv_opd (copy (place 2 [])))) return);
        }

    -- the box with another value
    abbrev with : H.given.Denot → home.Denot → H.given.Denot
    with h w = H.make ((H.parts h).0, (H.parts h).1, Some w)

    abbrev lending_ended : Ended
    lending_ended = record {
      signature = record {
        lifetimes = 1;
        outlives = [];
        params = mut_ref_to (0 ∷ []) tt (plain (λ _. Box)) ∷ [];
        result = mut_ref_to (0 ∷ []) tt (plain (λ _. one home));
      };
      kept = (no, tt);
    }

    abbrev lending_clauses : {M : Type 1} {𝓤 : Ura M} (𝓛 : Logic 𝓤) → Clauses 𝓤 lending_ended
    lending_clauses {𝓤 = 𝓤} 𝓛 κs args = record {
      ghost = Unit {0};
      requires = λ _. fact 𝓤 (IsSome (H.parts args.0.now).2);
      ensures = λ _ result _. sep 𝓤
          (sem 𝓛 (follows Box (one home) args.0.ghost_name result.ghost_name (with args.0.now)))
          (fact 𝓤 (Some result.now ≡ (H.parts args.0.now).2));
    }

    abbrev stayed : Stays (lending_ended).signature.params (lending_ended).kept
    stayed = (stay_dropped (mut_ref_to (0 ∷ []) tt (plain (λ _. Box))) no, tt)

    module _ {M : Type 1} {𝓤 : Ura M} (𝓛 : Logic 𝓤) (𝓣 : Tables 𝓤 𝓛.H)
        (z : (walk_of 𝓛 lending_ended stayed (lending_clauses 𝓛)).Ghost) where
      abbrev κ : Lft
      κ = z.0.0.0

      abbrev q : Share
      q = z.0.1.0

      abbrev self : MutBor H.given.Denot
      self = z.0.3.0

      abbrev h : H.given.Denot
      h = self.now

      abbrev parts : Contents Home
      parts = H.parts h

      abbrev Post : Val → SProp 𝓤
      Post = (walk_of 𝓛 lending_ended stayed (lending_clauses 𝓛)).post z

      module _ (x : home.Denot) (is : parts.2 ≡ Some x) where
        abbrev boxed : home.Denot → D Home
        boxed w = record { ptr = parts.0; alloc = parts.1; value = w }

        -- what the box owns when it has a value
        owns_with : (w : home.Denot) → Box.own_val (with h w) ≡ (B Home).own_val (boxed w)
        owns_with w = ap (Parts Home) (H.made (parts.0, parts.1, Some w))

        module _ (b o : ℕ) (hv : Val) where
          -- all of the box but its value
          abbrev Rest : Fml
          Rest = fsep (fsep (token Home.al parts.1 (raw_ty (τ Home)) (block_ptr b o)) (handle Home parts.1 hv))
              (cell_at full_share Box.mir (word Home hv b o ∷ []) self.ref_ptr.0 self.ref_ptr.1)

          back : parts.0 ≡ block_ptr b o → (w : home.Denot)
              → ent 𝓤 (sep 𝓤 (sem 𝓛 ((mem (one home)).own_at w b o)) (sem 𝓛 Rest))
              (sem 𝓛 ((mem Box).own_at (with h w) self.ref_ptr.0 self.ref_ptr.1))
          unfolding part_of
          back at_b w =
              qed 𝓛 (‵ (part_at (R Home) full_share w b o) ∷ ‵ Rest ∷ []) ∵ move ! (1 ∷ []) $ fsplit ! $ fsplit ! $
              move ! (3 ∷ []) $ box_in Home ! (boxed w) b o w at_b refl $
              rewrite ! 0 (λ (own : List Val → Fml). ‵ (own (word Home hv b o ∷ []))) (sym (owns_with w)) refl $
              move ! (1 ∷ 0 ∷ []) $ fjoin ! $ fpack ! (List Val)
              (λ us. fsep (cell_at full_share Box.mir us self.ref_ptr.0 self.ref_ptr.1) (Box.own_val (with h w) us))
              (word Home hv b o ∷ []) $ done !

        abbrev lent : ℕ → ℕ → GName → MutBor home.Denot
        lent b o δ = record { ref_ptr = (b, o); ghost_name = δ; now = x }

        exits : (b o : ℕ) (δ : GName)
            → ent 𝓤 (sep 𝓤 (sem 𝓛 ((MutRef (named 0) κ (one home)).own_val (lent b o δ) (vptr b o ∷ [])))
            (sep 𝓤 (𝓛.A.lft κ q) (sem 𝓛 (follows Box (one home) self.ghost_name δ (with h))))) (Post (vptr b o))
        exits b o δ =
            qed 𝓛 (‵ ((MutRef (named 0) κ (one home)).own_val (lent b o δ) (vptr b o ∷ [])) ∷ ‵ (flft κ q) ∷
            ‵ (follows Box (one home) self.ghost_name δ (with h)) ∷ []) ∵ suffices ! _
            (ends_at 𝓛 lending_ended stayed (lending_clauses 𝓛) z (vptr b o) (lent b o δ) (tt, tt) (tt, tt)) $
            nothing ! $ nothing ! $ fjoin ! $ join ! $ nothing ! $ move ! (2 ∷ 0 ∷ []) $ join ! $ join ! $ frame ! $
            says ! (sym is) $ done !

        abbrev Had : List (Item 𝓤)
        Had = ‵ (fobs self.ghost_name (Box.coded.code h))
            ∷ ‵ (fbor κ (Borrowed (mem Box) self.ref_ptr.0 self.ref_ptr.1 self.ghost_name)) ∷ ‵ (flft κ q) ∷ []

        walk : ent 𝓤 (⋆ 𝓛 Had)
            (WpFn 𝓤 𝓛.H 𝓣.C 𝓣.Λ lending (vptr self.ref_ptr.0 self.ref_ptr.1 ∷ []) Post)
        walk =
            let rb = self.ref_ptr.0 in let ro = self.ref_ptr.1 in
            qed 𝓛 Had ∵ enter ! 𝓣.C 𝓣.Λ lending (vptr rb ro ∷ []) _ $ alloc_all !
            (λ l. pass_all ! refl ((tt, tt), tt) $
            let En : Env 𝓤 𝓛.H = env (lending).locals l in
            opens ! tt Box {h = h} rb ro (λ us. move ! (1 ∷ []) $
            rewrite ! 0 (λ (held : Option home.Denot). ‵ (Parts Home (parts.0, parts.1, held) us)) is refl $
            box_out Home ! (boxed x) us (λ b o hv at_b ws fa. move ! (1 ∷ 2 ∷ []) $ fjoin ! $ move ! (1 ∷ []) $ rewrite ! 2
            (λ (vs : List Val). ‵ (cell_at full_share Box.mir vs rb ro)) ws refl $
            -- [the value; the token with the handle; the box's cell; the open borrow; obs; auth]
            first ! $ blocks ! $
            sets ! (of_opd ! (load ! (through ! refl (fld ! refl (stop !))) (look_in ! 2 (sub ! 0 refl (whole !))))) refl
            (tt, tt) $
            sets ! (of_opd ! (get ! refl)) refl (tt, tt) $
            sets_last ! (addr ! (through ! refl (stop !))) refl (tt, tt) $
            exec ! 𝓣.C 𝓣.Λ En (after 1 (lending).body) (at_ret En Post) $
            sets ! (of_opd ! (get ! refl)) refl (tt, tt) $
            move ! (1 ∷ 2 ∷ []) $ fjoin ! $ move ! (2 ∷ 3 ∷ 4 ∷ 1 ∷ 0 ∷ []) $ group ! 5 $
            use1 𝓛 (later (some (λ (δ : GName). raw (Part 𝓛 Box (one home) (with h) (named 0) κ q rb ro b o self.ghost_name
            (sem 𝓛 (Rest b o hv)) (back b o hv at_b) x δ))))
            (lends_Part 𝓛 Box (one home) (with h) (named 0) κ q rb ro b o self.ghost_name (sem 𝓛 (Rest b o hv))
            (back b o hv at_b) (Box.coded.code h) (Box.coded.code h) x) $ await ! tt $ pick ! (λ δ.
            returns ! (look_at ! 0 refl) $ free_all ! refl $ keep ! (0 ∷ []) $ by ! (exits b o δ)))))

        entry : ent 𝓤 (on_entry 𝓛 (lending_ended).signature z.0.0 z.0.1 z.0.3 z.0.4)
            (WpFn 𝓤 𝓛.H 𝓣.C 𝓣.Λ lending (z.0.4.0 ++ []) Post)
        entry =
            qed 𝓛 ((‵ (flft κ q) ⊛ ‵ ftrue) ∷ ‵ (owns (MutRef (named 0) κ Box ∷ []) z.0.3 z.0.4) ∷ []) ∵ split ! $
            move ! (2 ∷ []) $ fsplit ! $ fsplit3 ! $ feq_l ! (λ e. keep ! (0 ∷ 1 ∷ 3 ∷ []) $
            by ! (subst (λ (us : List Val). ent 𝓤 (⋆ 𝓛 Had) (WpFn 𝓤 𝓛.H 𝓣.C 𝓣.Λ lending (us ++ []) Post)) (sym e) walk))

    -- lends the value, and the box follows it
    pub lends_value : {M : Type 1} {𝓤 : Ura M} (𝓛 : Logic 𝓤) (𝓜 : Model 𝓤 𝓛.H) (𝓡 : Running 𝓤 𝓛.H 𝓜)
        (key : Callee) → let 𝓣 = tables 𝓤 𝓛.H 𝓜 𝓡 𝓡.env in
        Closed 𝓤 𝓛.H 𝓣.C 𝓣.Λ key lending
        → Meets 𝓛 (lending_ended).signature (𝓣.C key) (closing 𝓛 lending_ended (lending_clauses 𝓛))
    unfolding tables_of
    lends_value {𝓤 = 𝓤} 𝓛 𝓜 𝓡 key closed =
        proved_at 𝓛 lending_ended stayed (lending_clauses 𝓛) 𝓜 𝓡
        (Goes-spent_ref 𝓛 1 (0 ∷ []) tt (plain (λ _. Box)), tt) key lending closed (λ z are.
        let held = (H.parts z.0.3.0.now).2 in needs 𝓤 (IsSome held) _ (λ there. let value = found held there in
        entry 𝓛 (tables_of 𝓤 𝓛.H 𝓜 (tables 𝓤 𝓛.H 𝓜 𝓡 𝓡.env)) z value.0 value.1))

-- what owns a value or none names nothing of a thread, if the value doesn't
pub owned_keyless : (row : RattleType) → IsSend row → (alloc : Global) (at : Ptr) (held : Option row.Denot)
    → Keyless (box_or_none_owns (global_token alloc) row at held)
owned_keyless row value alloc at (Some x) = (lies row value at x, frees.frees alloc (raw_ty (lone row.mir)) at)
owned_keyless row value alloc at None = tt

-- a box of a machine by the allocator of the system
abbrev pub machine_in_box : Bx
machine_in_box = system_box machine_home.the_row machine_laws.the_row_laws

-- a box of a pool by the allocator of the system
abbrev pub pool_in_box : Bx
pool_in_box = system_box pool_home.the_row pool_laws.the_row_laws

-- a box that Rattle has, as a holder
abbrev pub held_holder : (row : RattleType) (laws : Laws row) → Holder (system_box row laws)
held_holder row laws = record {
  given = held_box.the_row row Heap.the_row ghosts;
  parts = λ d. (d.at, d.alloc, d.held);
  make = λ c. record { at = c.0; alloc = c.1; held = c.2 };
  made = λ c. refl;
}

-- a box that C has with a machine, as a holder
abbrev pub machine_holder : Holder machine_in_box
machine_holder = record {
  given = machine_box.the_row;
  parts = λ d. (d.at, d.alloc, d.held);
  make = λ c. record { at = c.0; alloc = c.1; held = c.2 };
  made = λ c. refl;
}

-- a box that C has with a pool, as a holder
abbrev pub pool_holder : Holder pool_in_box
pool_holder = record {
  given = pool_box.the_row;
  parts = λ d. (d.at, d.alloc, d.held);
  make = λ c. record { at = c.0; alloc = c.1; held = c.2 };
  made = λ c. refl;
}
