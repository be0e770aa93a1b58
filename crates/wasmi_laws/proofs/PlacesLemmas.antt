-- A stored number is read back by a load, a store keeps the other bytes of its memory, and a memory or a table by
-- itself grows, is read and is written as the one at an index of a machine.
use Rattle.std.proofs.Common.{Err, List, Ok, Result, Some, ap, length, pos, refl, sym, ℕ, ◌%◌, ◌*◌, ◌+◌, ◌^◌, ◌∙◌, ◌≡◌, Option, None, inr}
use Rattle.std.proofs.Math.Nat.{mod-mod}
use Rattle.wasmi_laws.proofs.Common.{stored_count, same_Some, option_and_then, slice_get, MatchOption, slice_set, acts, alters, replies, on_live, reply_of, StoresMemory, State, live_at, live_value, World, RepliesWith, Read, Done, NoSuch, Trap, Memory, Live, live_slot, set_same, MemoryAt, NumberStore, StoresAreReadBack, StoresKeepOtherBytes, load_of, store_call, stored_part, stored_size, MemoriesGrowAlike, TablesGrowAlike, MemoriesReadAlike, MemoriesWriteAlike, Rules, RawVal, MemoryValue, TrapCode, at}
use Rattle.std.specs.Int.{Width, w32, w64}
use Rattle.wasmi_access.proofs.AccessLemmas.{loaded-stored, outside-stored}
use Rattle.wasmi_access.specs.LoadStore.{IsSameOutside, IsStore, loaded}
use Rattle.wasmi_machine.specs.declared.calls.Reply.TheVariants.{Bytes}
use Rattle.wasmi_laws.proofs.LocationLemmas.{others_stay_in_runs}
use Rattle.wasmi_ops.specs.LoadStoreOps.{as_raw, signed_raw, loaded_raw, stored_bytes}
use Rattle.wasmi_ops.specs.declared.load_store.StoreOp.{StoreOp}
use Rattle.wasmi_raw.specs.RawVal.{raw_of}
use Rattle.wasmi_types.specs.Numbers.{le_bytes}
use Rattle.wasmi_meter.specs.declared.error.MemoryError.TheVariants.{OutOfBoundsAccess}
use Rattle.wasmi_ops.specs.declared.load_store.StoreOp.TheVariants as store

module _ (value : RawVal) (a : ℕ) (old new : List ℕ) where
  -- what a load without a sign gives of the low bits of a value that were stored
  narrow_read : (w : Width) (k n : ℕ) → (is : IsStore old a (le_bytes k (value.lo % 2 ^ n)) new (Ok (tt {0})))
      → 8 * k ≡ n → as_raw (signed_raw w) (loaded k pos new a) ≡ Ok (raw_of (value.lo % 2 ^ n))
  narrow_read w k n is bits =
      rw (loaded-stored k (value.lo % 2 ^ n) a old new pos is, bits, mod-mod value.lo (2 ^ n)) refl

  -- the load of as many bytes gives what a store has written
  read_back : (op : StoreOp) → IsStore old a (stored_bytes op value) new (Ok (tt {0}))
      → loaded_raw (load_of op) new a ≡ Ok (stored_part op value)
  read_back store.I32Store8 is = narrow_read w32 1 8 is refl
  read_back store.I32Store16 is = narrow_read w32 2 16 is refl
  read_back store.I64Store8 is = narrow_read w64 1 8 is refl
  read_back store.I64Store16 is = narrow_read w64 2 16 is refl
  read_back store.I64Store32 is = narrow_read w64 4 32 is refl
  read_back store.Store32 is =
      rw (loaded-stored 4 (value.lo % 2 ^ 32) a old new (λ n. n) is, mod-mod value.lo (2 ^ 32)) refl
  read_back store.Store64 is = rw (loaded-stored 8 value.lo a old new (λ n. n) is) refl

  -- a store keeps the bytes outside of those that it writes
  outside : (op : StoreOp) → IsStore old a (stored_bytes op value) new (Ok (tt {0}))
      → IsSameOutside old new a (stored_size op)
  outside store.I32Store8 is = outside-stored _ _ a old new is
  outside op is = outside-stored _ _ a old new is

-- an accepted store to the memory of an index: the memory before it and after it
record Stored (k a : ℕ) (stored : List ℕ) (s s' : State) : Type 0 where
  before : MemoryValue
  after : MemoryValue
  was : live_at s.memories k ≡ Some before
  here : slice_get s'.memories k ≡ Some (Live after)
  store : StoresMemory before a stored (Ok tt) after

-- the result of a store whose reply is that it is done
accepted : (x x' : MemoryValue) (a : ℕ) (stored : List ℕ) (result : Result (Unit {0}) TrapCode)
    → Done ≡ reply_of (λ _. Done) Trap result → StoresMemory x a stored result x' → StoresMemory x a stored (Ok tt) x'
accepted x x' a stored (Ok done) is stores = stores
accepted x x' a stored (Err trap) is stores = absurd cc

module _ {S : Type 0} (rules : Rules S) (it : NumberStore) where
  -- the address of a store
  abbrev address : ℕ
  address = it.ptr + it.offset

  -- the bytes that a store writes
  abbrev bytes : List ℕ
  bytes = stored_bytes it.op it.value

  -- an accepted store to a memory, by its step
  stored_by : (t u : World S) → RepliesWith rules (store_call it) t Done u
      → Stored it.memory address bytes t.state u.state
  stored_by t u (charge, written, step) = on_live (live_at t.state.memories it.memory) _ _ step.effect.effect
      (λ missing. let is : Done ≡ NoSuch = missing.0 in absurd cc)
      (λ x found h. record {
        before = x;
        after = h.0;
        was = found;
        here = rw (step.after, step.effect.after, h.2) (set_same t.state.memories it.memory (Live h.0) (Live x)
            (live_slot (slice_get t.state.memories it.memory) x found));
        store = accepted x h.0 address bytes h.1.0 h.1.2 h.1.1;
      })

-- what is loaded after a store is what was stored
pub stores_are_read_back : {S : Type 0} (rules : Rules S) → StoresAreReadBack rules
stores_are_read_back rules it t u v w turns reply stores ran leaves (charge, written, step) =
    let stored = stored_by rules it t u stores in
    let there = others_stay_in_runs rules u turns v ran (MemoryAt it.memory) leaves (Live stored.after) stored.here in
    let back = read_back it.value (it.ptr + it.offset) stored.before.bytes stored.after.bytes it.op stored.store.0 in
    (rw (step.effect, there, back) refl, step.after)

-- a store keeps the other bytes of its memory
pub stores_keep_other_bytes : {S : Type 0} (rules : Rules S) → StoresKeepOtherBytes rules
stores_keep_other_bytes rules it t u stores x x' found found' =
    let a = it.ptr + it.offset in
    let stored = stored_by rules it t u stores in
    let before : stored.before ≡ x = same_Some stored.before x (sym stored.was ∙ found) in
    let after : stored.after ≡ x' =
    same_Some stored.after x' (sym (ap (option_and_then live_value) stored.here) ∙ found') in
    let left : IsSameOutside stored.before.bytes stored.after.bytes a (stored_size it.op)
    × (length stored.after.bytes ≡ length stored.before.bytes) = (
      outside it.value a stored.before.bytes stored.after.bytes it.op stored.store.0,
      stored_count stored.before stored.after a (stored_bytes it.op it.value) (Ok tt) stored.store,
    ) in rw (before, after) at left

module _ {S : Type 0} (rules : Rules S) where
  -- a memory by itself grows as the one at an index
  pub memories_grow : MemoriesGrowAlike rules
  memories_grow w k pages x x' result m' l' found (charge, grows) =
      acts (slice_set w.state.memories k (Live x')) (charge, rw found (result, x', grows, refl, refl))

  -- a table by itself grows as the one at an index
  pub tables_grow : TablesGrowAlike rules
  tables_grow w k n init x x' result m' l' found (charge, grows) =
      acts (slice_set w.state.tables k (Live x')) (charge, rw found (result, x', grows, refl, refl))

  -- a memory by itself is read as the one at an index, by what is found
  read_by : (w : World S) (k offset len : ℕ) (x : MemoryValue) → live_at w.state.memories k ≡ Some x
      → (found : Option (List ℕ)) → at x.bytes offset len ≡ found
      → MatchOption found (RepliesWith rules (Read k offset len) w (Memory OutOfBoundsAccess) w)
      (λ bytes. RepliesWith rules (Read k offset len) w (Bytes bytes) w)
  read_by w k offset len x live None is = replies (rw (live, is) refl)
  read_by w k offset len x live (Some bytes) is = replies (rw (live, is) (inr refl))

  -- a memory by itself is read as the one at an index
  pub memories_read : MemoriesReadAlike rules
  memories_read w k offset len x live = read_by w k offset len x live (at x.bytes offset len) refl

  -- a memory by itself is written as the one at an index
  pub memories_write : MemoriesWriteAlike rules
  memories_write w k offset bytes x x' result found writes =
      alters (slice_set w.state.memories k (Live x')) (rw found (x', (result, writes, refl), refl))

-- memories and tables by themselves do as those of a machine
pub ruleset done_alike = (memories_grow, tables_grow, memories_read, memories_write)
