-- The front of a slice is lent as a slice, and the lender ends with it before the items that were left. Assumes
-- `Logic`.
use mathlib.Core.Path.{◌≡◌, refl, sym, ap, ◌∙◌}
use Prim.Native.Nat.{ℕ, ◌≤◌}
use native.Mathlib.Omega.{arith}
use mathlib.Core.List.{List, [], ◌∷◌, ◌++◌}
use lib.ListN.{length, take, drop as drop_list, take-append-drop, length-drop, length-append}
use seplogic.Ra.Ura.{Ura}
use mir.Syntax.{Lifetime}
use mir.Val.{Val}
use base.Logic.{SProp, ent, sep, ex}
use base.Stored.{coded_list}
use base.Fml.{Lft, GName, Share, flft, fobs, fbor}
use types.Logic.{Logic, sem}
use types.Kit.{Item, ‵, ◌⊛◌, later, some, ◌$◌, ◌∵◌, !, qed, move, drop, split, split3, fsplit, fsplit3, fjoin, feq_i, feq_l, use1, use2, updating, group, await, pick, now, show, rewrite, done}
use types.SemTy.{cells, Arr, Body}
use types.Follow.{takes_part}
use types.Mut.{open_ref}
use denote.RattleType.{RattleType}
use denote.Memory.{mem}
use denote.Array.{Array}
use denote.MutBor.{MutBor}
use denote.Slice.{MutSlice, Room, slice_val}
use denote.Follow.{follows}
use denote.FollowSlice.{heres_id, slice_of}
use Rattle.wasmi_store.proofs.Common.{take_at, refill}
use borrow.Table.Elements.{at, cut_app, join_app, length-take-le}

module _ {M : Type 1} {𝓤 : Ura M} (𝓛 : Logic 𝓤) (R : RattleType) (ℓ : Lifetime) (κ : Lft) (q : Share)
    (x : MutBor (List R.Denot)) (m : ℕ) where
  open 𝓛 use {H, A}

  -- the slice's block and its place there, its ghost name, and its items
  abbrev b : ℕ
  b = x.ref_ptr.0

  abbrev o : ℕ
  o = x.ref_ptr.1

  abbrev γ : GName
  γ = x.ghost_name

  abbrev xs : List R.Denot
  xs = x.now

  abbrev front : List R.Denot
  front = take m xs

  abbrev back : List R.Denot
  back = drop_list m xs

  abbrev past : ℕ → ℕ
  past = at o (mem R).size

  abbrev pub refilled : List R.Denot → List R.Denot
  refilled ws = refill (length front) front ws ++ back

  -- as many items as were lent stand in their place
  filled : (ws : List R.Denot) → length ws ≡ length front → refilled ws ≡ ws ++ back
  filled ws e = ap (λ (l : List R.Denot). l ++ back) (take_at ws (drop_list (length ws) front) (length front) e)

  -- the front, written over, and what follows it stand in one row
  put : m ≤ length xs → (ws : List R.Denot)
      → ent 𝓤 (sep 𝓤 (sem 𝓛 ((Arr (mem R) (length front)).own_at ws b o))
      (sem 𝓛 (cells (mem R) back b (past (length front)))))
      (sem 𝓛 ((Arr (mem R) (length xs)).own_at (refilled ws) b o))
  put le ws =
      let count : length front ≡ m = length-take-le m xs le in
      let both = length-append ws back in
      let rest = length-drop m xs in
      qed 𝓛 (‵ ((Arr (mem R) (length front)).own_at ws b o) ∷ ‵ (cells (mem R) back b (past (length front))) ∷ []) ∵
      fsplit ! $ feq_l ! (λ e.
      rewrite ! 1 (λ (k : ℕ). ‵ (cells (mem R) back b (past k))) (sym e) refl $
      use2 𝓛 (‵ (cells (mem R) (ws ++ back) b o)) (join_app 𝓛 (mem R) ws back b o) $
      rewrite ! 0 (λ (l : List R.Denot). ‵ (cells (mem R) l b o)) (sym (filled ws e)) refl $
      feq_i ! ℕ (length (refilled ws)) (length xs) (ap length (filled ws e) ∙ omega arith) $ fjoin ! $ done !)

  abbrev pub FrontLent : ℕ → GName → SProp 𝓤
  FrontLent k δ =
      sep 𝓤 (sem 𝓛 ((MutSlice ℓ κ R).own_val (record { ref_ptr = (b, o); ghost_name = δ; now = front })
      (slice_val (b, o) k ∷ []))) (sep 𝓤 (A.lft κ q) (sem 𝓛 (follows (Array R 0) (Array R 0) γ δ refilled)))

  abbrev pub front_lent : ℕ → GName → Item 𝓤
  front_lent k δ =
      ‵ ((MutSlice ℓ κ R).own_val (record { ref_ptr = (b, o); ghost_name = δ; now = front }) (slice_val (b, o) k ∷ []))
      ⊛ ‵ (flft κ q) ⊛ ‵ (follows (Array R 0) (Array R 0) γ δ refilled)

  -- the front of a mutable slice is lent, and the lender ends with what is written to it
  pub lends_front : m ≤ length xs → Room R (length front) → (vs : List Val)
      → ent 𝓤 (sep 𝓤 (sem 𝓛 ((MutSlice ℓ κ R).own_val x vs))
      (A.lft κ q)) (H.⇛ (ex 𝓤 (FrontLent m)))
  lends_front le rm vs =
      let count : length front ≡ m = length-take-le m xs le in
      qed 𝓛 (‵ ((MutSlice ℓ κ R).own_val x vs) ∷ ‵ (flft κ q) ∷
      []) ∵ updating ! $ fsplit3 ! $ drop ! $
      rewrite ! 0 (λ (l : List R.Denot). ‵ (fobs γ ((coded_list R.coded).code l))) (heres_id R xs) refl $ open_ref ! tt
      (Arr (mem R) (length xs)) {b = b} {o = o} $ fsplit ! $ drop ! $
      rewrite ! 0 (λ (l : List R.Denot). ‵ (cells (mem R) l b o)) (sym (take-append-drop m xs)) refl $
      use1 𝓛 (‵ (cells (mem R) front b o) ⊛ ‵ (cells (mem R) back b (past (length front))))
      (cut_app 𝓛 (mem R) front back b o) $ split ! $
      feq_i ! ℕ (length front) (length front) refl $ fjoin ! $ move ! (2 ∷ 3 ∷ 4 ∷ 0 ∷ 1 ∷ []) $ group ! 5 $
      use1 𝓛 (later
      (some (λ (δ : GName). ‵ (fobs δ ((coded_list R.coded).code front)) ⊛ ‵
      (fbor κ (Body (Arr (mem R) (length front)) b o δ)) ⊛ ‵ (flft κ q) ⊛ ‵
      (follows (Array R 0) (Array R 0) γ δ refilled))))
      (takes_part 𝓛 (Arr (mem R) (length xs)) (Arr (mem R) (length front)) refilled κ q b o b o γ
      (sem 𝓛 (cells (mem R) back b (past (length front)))) (put le) ((coded_list R.coded).code xs)
      ((coded_list R.coded).code xs) front) $ await ! tt $ pick ! (λ δ. split3 ! $
      use2 𝓛 (‵ ((MutSlice ℓ κ R).own_val (record { ref_ptr = (b, o); ghost_name = δ; now = front })
      (slice_val (b, o) (length front) ∷ []))) (slice_of 𝓛 R ℓ κ b o δ front rm) $
      rewrite ! 0 (λ (k : ℕ). ‵
      ((MutSlice ℓ κ R).own_val (record { ref_ptr = (b, o); ghost_name = δ; now = front })
      (slice_val (b, o) k ∷ []))) count refl $
      now ! $ show ! (FrontLent m) δ $ done !)
