-- The front of a region that a reference leads to is lent. The borrow checker shows no write-back clause for a part of
-- a slice, so this proof walks the code by hand.
use mathlib.Core.Path.{◌≡◌, refl}
use Prim.Native.Nat.{ℕ, ◌≤◌}
use native.Mathlib.Omega.{arith}
use mathlib.Core.List.{List, [], ◌∷◌}
use lib.ListN.{length, take}
use base.Fraction.{full_share}
use mir.Syntax.{Ty, named, erased, mut, ty_int, ty_ref, w8, w64}
use mir.Val.{Val, vint}
use mir.Raw.{raw as bare}
use base.Fml.{GName, ftrue, fat, flft}
use contract.Monad.{fact}
use types.Kit.{‵, raw, ◌⊛◌, some, later, ◌$◌, ◌∵◌, !, qed, move, keep, drop, split, split3, join, fsplit, fsplit3, fjoin, use1, use2, use3, await, pick, suffices, frame, rewrite, done}
use types.Part.{whole, sub, agg, look_in}
use types.Run.{stop, fld, hop, from, addr, load, of_opd, and_then, no_more, returns, enter}
use types.ByLocal.{alloc_all, pass_all, free_all, look_at, look_in_at, get, sets, through}
use denote.Array.{Array}
use denote.Builtin.{u8, usize}
use denote.Exit.{yes, no}
use denote.Follow.{follows, follows_then}
use denote.Laws.{shows, Is}
use denote.Memory.{cell_at}
use denote.Plain.{uint_vals, uint_Tells}
use denote.RattleType.{owns}
use denote.Ref.{MutRef, at_last, mut_vals, mut_Tells}
use denote.Signature.{plain, mut_slice_of, mut_ref_to}
use denote.Slice.{MutSlice, slice_ty, slice_val, mut_slice_vals}
use denote.Steps.{nothing, heard, opens, closes, peeks}
use denote.Through.{renamed, lends_inner_slice}
use denote.Triple.Walked.{says, Stays, stay_dropped, walk_of, ends_at, Goes-dropped, Goes-spent_ref}
use borrow.Table.Elements.{length-take-le}
use Rattle.std.proofs.raw_atomic.Walks.{proved}
use Rattle.wasmi_store.proofs.FrontLemmas.{front_lent, lends_front, refilled}
use Rattle.wasmi_store.specs.contracts.memory.buffer.RefMutSliceU8Region.front_mut as f
use Rattle.wasmi_store.proofs.memory.buffer.RefMutSliceU8Region.front_mut.Statement.{statement}
use Rattle.wasmi_store.proofs.memory.buffer.RefMutSliceU8Region.front_mut.Code as code

abbrev stayed : Stays f.ended.signature.params f.ended.kept
stayed = (
  stay_dropped (mut_ref_to (0 ∷ []) tt (mut_slice_of (1 ∷ []) tt (plain (λ _. u8)))) no,
  (stay_dropped (plain (λ _. usize)) yes, tt),
)

-- the region's type, where the code reads through the outer reference
abbrev written : Ty
written = slice_ty (ty_ref erased mut (ty_int w8))

pub front_mut_spec : {M : Type 1} → statement M
front_mut_spec 𝓤 𝓛 𝓜 𝓡 wired =
    let c = f.clauses 𝓛 𝓜.mem 𝓡.returns in let W = walk_of 𝓛 f.ended stayed c in
    proved 𝓛 f.ended stayed c 𝓜 𝓡 (
      Goes-spent_ref 𝓛 2 (0 ∷ []) tt (mut_slice_of (1 ∷ []) tt (plain (λ _. u8))),
      (Goes-dropped 𝓛 2 (plain (λ _. usize)) yes (λ κs x w. refl), tt),
    )
    f.Key.name code.function (code.unfolded 𝓤 𝓛.H 𝓜 𝓡 wired)
    (λ κs. (mut_vals, (uint_vals w64, tt)))
    (λ κs. (mut_Tells (named 0) κs.0 (MutSlice (named 1) κs.1.0 u8), (uint_Tells w64, tt))) (λ κs qs bounds a _ are.
    let κ = κs.0 in let κ' = κs.1.0 in let q = qs.0 in let q' = qs.1.0 in let x = a.0 in let m : ℕ = a.1.0 in
    let Inner = MutSlice (named 1) κ' u8 in
    let b = x.ref_ptr.0 in let o = x.ref_ptr.1 in let r = x.now in let pb = r.ref_ptr.0 in let po =
    r.ref_ptr.1 in let xs = r.now in
    let word = slice_val r.ref_ptr (length xs) in
    let y : W.Ghost = ((κs, qs, bounds, a, (mut_vals x, (vint w64 m ∷ [], tt))), tt) in
    qed 𝓛 (((‵ (flft κ q) ⊛ ‵ (flft κ' q') ⊛ ‵ ftrue) ⊛ ‵ (owns (MutRef (named 0) κ Inner ∷ usize ∷ []) a y.0.4)) ∷ raw
    (fact 𝓤 (m ≤ length xs)) ∷ []) ∵
    move ! (1 ∷ []) $ heard ! _ (λ le.
    let count : length (take m xs) ≡ m = length-take-le m xs le in
    split ! $ enter ! _ _ _ _ _ $
    alloc_all ! (λ l. pass_all ! refl ((tt, tt), ((tt, record { fits = are.1.0.1 }), tt)) $
    move ! (1 ∷ []) $ fsplit ! $ fsplit3 ! $ drop ! $ move ! (3 ∷ []) $ split3 ! $ move ! (3 ∷ 4 ∷ 0 ∷ []) $
    opens ! tt Inner {h = r} b o (λ vs. move ! (1 ∷ []) $
    peeks ! Inner (Is Inner) (shows 𝓛 Inner) r vs (λ told.
    let es : vs ≡ mut_slice_vals r = told.0.0 in let rm = told.0.1 in
    rewrite ! 0 (λ (us : List Val). ‵ (Inner.own_val r us)) es refl $ rewrite ! 1
    (λ (us : List Val). ‵ (cell_at full_share Inner.mir us b o)) es refl $ move ! (1 ∷ []) $
    use1 𝓛 (‵ (fat full_share written b o word)) (𝓛.laws.raw_at full_share written b o word) $
    -- [the region's cell; what it owns; the open borrow, in three entries; the region's token; true]
    sets ! (of_opd ! (load ! (through ! refl (fld ! refl (stop !))) (look_in ! 0 (sub ! 1 refl (whole !))))) refl
    (tt, record { fits = rm.0 }) $
    sets ! (addr ! (through ! refl (fld ! refl (hop ! (look_in ! 0 (sub ! 0 refl (whole !))) (stop !))))) refl
    (tt, tt) $
    sets ! (agg ! (and_then ! (get ! refl) (and_then ! (get ! refl) (no_more !)))) refl
    (tt, (tt, (record { fits = rm.0 }, tt))) $
    sets ! (addr ! (from ! (fld ! refl (hop ! (look_in_at ! 5 (sub ! 0 refl (whole !))) (stop !))))) refl (tt, tt) $
    sets ! (agg ! (and_then ! (get ! refl) (and_then ! (get ! refl) (no_more !)))) refl
    (tt, (tt, (record { fits = are.1.0.1 }, tt))) $
    use1 𝓛 (‵ (fat full_share (bare written) b o word)) (𝓛.laws.at_raw full_share written b o word) $
    closes ! tt Inner r (mut_slice_vals r) b o $
    use3 𝓛 (later
    (some (λ (δ : GName). ‵ ((MutSlice (named 0) κ u8).own_val (renamed r δ) (mut_slice_vals r)) ⊛ ‵ (flft κ q) ⊛ ‵
    (follows Inner (Array u8 0) x.ghost_name δ (at_last r)))))
    (lends_inner_slice 𝓛 u8 (named 0) (named 1) κ κ' x bounds.0 rm q) $ await ! tt $ pick ! (λ δ. split3 ! $
    use2 𝓛 (later (some (front_lent 𝓛 u8 (named 0) κ q (renamed r δ) m m)))
    (lends_front 𝓛 u8 (named 0) κ q (renamed r δ) m le (omega arith, omega arith) (mut_slice_vals r)) $ await ! tt $
    pick ! (λ δ'. split3 ! $
    move ! (3 ∷ 2 ∷ []) $
    use2 𝓛 (‵ (follows Inner (Array u8 0) x.ghost_name δ'
    (λ ws. at_last r (refilled 𝓛 u8 (named 0) κ q (renamed r δ) m ws))))
    (follows_then 𝓛 Inner (Array u8 0) (Array u8 0) (at_last r)
    (refilled 𝓛 u8 (named 0) κ q (renamed r δ) m) x.ghost_name δ δ') $
    -- [the region follows the front; the front; the tokens]
    returns ! (look_at ! 0 refl) $ free_all ! refl $ keep ! (3 ∷ 4 ∷ 2 ∷ 0 ∷ 1 ∷ []) $ join ! $ move !
    (1 ∷ 0 ∷ []) $ join ! $
    suffices ! _ (ends_at 𝓛 f.ended stayed c y (slice_val (pb, po) m)
    (record { ref_ptr = (pb, po); ghost_name = δ'; now = take m xs }) (tt, (tt, tt)) (tt, (tt, tt))) $
    nothing ! $ nothing ! $ fjoin ! $ nothing ! $ fjoin ! $ move ! (0 ∷ 3 ∷ []) $ join ! $ move !
    (1 ∷ 0 ∷ []) $ join ! $ frame ! $ says ! refl $ done !)))))))
