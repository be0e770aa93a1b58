-- Scalar loads as values, whatever each of them loads: from the front of the bytes at an address, and past the end.
use Rattle.std.proofs.Common.{◌≡◌, ℕ, ◌≤◌, ◌<◌, ◌^◌, List, length, drop, ap, arith, Err, pos, length-drop}
use Rattle.std.specs.Int.{w8, w16, w32, w64, cast_signed}
use Rattle.std.proofs.lemmas.Grind.{common_steps}
use Rattle.wasmi_types.specs.declared.trap.TrapCode.TheVariants.{MemoryOutOfBounds}
use Rattle.wasmi_raw.specs.declared.raw.RawVal.{RawVal}
use Rattle.wasmi_raw.specs.RawVal.{raw_of}
use Rattle.wasmi_access.specs.LoadStore.{loaded}
use Rattle.wasmi_ops.specs.LoadStoreOps.{as_raw, signed_raw, RawLoad, loaded_raw}
use Rattle.wasmi_ops.specs.declared.load_store.LoadOp.{LoadOp}
use Rattle.wasmi_ops.specs.declared.load_store.LoadOp.TheVariants as load

-- a load has what the load of any number of bytes has, whatever value they stand for
each_load : (P : RawLoad → Type 0)
    → ((V : Type 0) (n : ℕ) (value : ℕ → V) (raw : V → RawVal) → P (λ bytes a. as_raw raw (loaded n value bytes a)))
    → (op : LoadOp) → P (loaded_raw op)
each_load P given load.I32Load8S = given _ 1 (cast_signed w8) (signed_raw w32)
each_load P given load.I32Load8U = given _ 1 pos (signed_raw w32)
each_load P given load.I32Load16S = given _ 2 (cast_signed w16) (signed_raw w32)
each_load P given load.I32Load16U = given _ 2 pos (signed_raw w32)
each_load P given load.I64Load8S = given _ 1 (cast_signed w8) (signed_raw w64)
each_load P given load.I64Load8U = given _ 1 pos (signed_raw w64)
each_load P given load.I64Load16S = given _ 2 (cast_signed w16) (signed_raw w64)
each_load P given load.I64Load16U = given _ 2 pos (signed_raw w64)
each_load P given load.I64Load32S = given _ 4 (cast_signed w32) (signed_raw w64)
each_load P given load.I64Load32U = given _ 4 pos (signed_raw w64)
each_load P given load.LoadU32 = given _ 4 (λ number. number) raw_of
each_load P given load.LoadU64 = given _ 8 (λ number. number) raw_of

-- what stands at the front of the bytes from an address on is what stands at the address
loaded_front : {V : Type 0} (n : ℕ) (value : ℕ → V) (memory : List ℕ) (a : ℕ) → a ≤ length memory → a < 2 ^ 64
    → loaded n value (drop a memory) 0 ≡ loaded n value memory a
loaded_front n value memory a within fits = grind (arith, common_steps, length-drop a memory, within, fits)

-- nothing stands past the end
loaded_past : {V : Type 0} (n : ℕ) (value : ℕ → V) (memory : List ℕ) (a : ℕ) → length memory < a
    → loaded n value memory a ≡ Err MemoryOutOfBounds
loaded_past n value memory a past = grind (arith, common_steps, past)

-- a load from an address is one from the front of the bytes there
pub raw_front : (op : LoadOp) (memory : List ℕ) (a : ℕ) → a ≤ length memory → a < 2 ^ 64
    → loaded_raw op (drop a memory) 0 ≡ loaded_raw op memory a
raw_front op memory a within fits = each_load (λ load. load (drop a memory) 0 ≡ load memory a)
    (λ V n value raw. ap (as_raw raw) (loaded_front n value memory a within fits)) op

-- a load from past the end traps
pub raw_past : (op : LoadOp) (memory : List ℕ) (a : ℕ) → length memory < a
    → loaded_raw op memory a ≡ Err MemoryOutOfBounds
raw_past op memory a past = each_load (λ load. load memory a ≡ Err MemoryOutOfBounds)
    (λ V n value raw. ap (as_raw raw) (loaded_past n value memory a past)) op
