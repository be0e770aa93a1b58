-- The scalar loads and stores: a row for each, its name and what it gives or writes, as raw values.
use Rattle.std.specs.Prelude.{ℤ, Result, Ok, Err, ℕ, List, codes, ◌/◌, ◌%◌, ◌^◌, pos}
use Rattle.std.specs.Int.{Width, cast_unsigned, w8, w16, w32, w64, cast_signed}
use Rattle.wasmi_types.specs.declared.trap.TrapCode.{TrapCode}
use Rattle.wasmi_raw.specs.declared.raw.RawVal.{RawVal}
use Rattle.wasmi_raw.specs.RawVal.{raw_of}
use mir.Val.{bits}
use Rattle.wasmi_types.specs.Numbers.{le_bytes}
use Rattle.wasmi_access.specs.LoadStore.{loaded}
use Rattle.wasmi_ops.specs.declared.{load_store.LoadOp.LoadOp, load_store.StoreOp.StoreOp}
use Rattle.wasmi_ops.specs.declared.load_store.LoadOp.TheVariants as load
use Rattle.wasmi_ops.specs.declared.load_store.StoreOp.TheVariants as store

-- the raw value of a signed number of a width, as a load or another instruction gives it
abbrev pub signed_raw : Width → ℤ → RawVal
signed_raw w z = raw_of (cast_unsigned w z)

-- what a load, or another instruction, answers as a raw value; a trap stays
abbrev pub as_raw : {A : Type 0} → (A → RawVal) → Result A TrapCode → Result RawVal TrapCode
as_raw raw (Ok value) = Ok (raw value)
as_raw raw (Err trap) = Err trap

-- what a load from an address in a memory of these bytes gives, or its trap
abbrev pub RawLoad : Type 0
RawLoad = List ℕ → ℕ → Result RawVal TrapCode

-- the load of a number of a narrow width, sign-extended to a width
abbrev pub sign_extended : Width → Width → RawLoad
sign_extended w narrow bytes a = as_raw (signed_raw w) (loaded (bits narrow / 8) (cast_signed narrow) bytes a)

-- the load of a number of a narrow width, zero-extended to a width
abbrev pub zero_extended : Width → Width → RawLoad
zero_extended w narrow bytes a = as_raw (signed_raw w) (loaded (bits narrow / 8) pos bytes a)

-- the load of a value of a width
abbrev pub unextended : Width → RawLoad
unextended w bytes a = as_raw raw_of (loaded (bits w / 8) (λ number. number) bytes a)

-- the row of a load: its name, and the load
abbrev pub load_row : LoadOp → List ℕ × RawLoad
load_row load.I32Load8S = (codes "i32_load8_s", sign_extended w32 w8)
load_row load.I32Load8U = (codes "i32_load8_u", zero_extended w32 w8)
load_row load.I32Load16S = (codes "i32_load16_s", sign_extended w32 w16)
load_row load.I32Load16U = (codes "i32_load16_u", zero_extended w32 w16)
load_row load.I64Load8S = (codes "i64_load8_s", sign_extended w64 w8)
load_row load.I64Load8U = (codes "i64_load8_u", zero_extended w64 w8)
load_row load.I64Load16S = (codes "i64_load16_s", sign_extended w64 w16)
load_row load.I64Load16U = (codes "i64_load16_u", zero_extended w64 w16)
load_row load.I64Load32S = (codes "i64_load32_s", sign_extended w64 w32)
load_row load.I64Load32U = (codes "i64_load32_u", zero_extended w64 w32)
load_row load.LoadU32 = (codes "load_u32", unextended w32)
load_row load.LoadU64 = (codes "load_u64", unextended w64)

-- the load of each instruction
abbrev pub loaded_raw : LoadOp → RawLoad
loaded_raw op = (load_row op).1

-- the name of a scalar load
abbrev pub load_name : LoadOp → List ℕ
load_name op = (load_row op).0

-- the row of a store: its name, and the bytes that it writes, the low ones of the value
abbrev pub store_row : StoreOp → List ℕ × (RawVal → List ℕ)
store_row store.I32Store8 = (codes "i32_store8", λ value. le_bytes 1 (value.lo % 2 ^ 8))
store_row store.I32Store16 = (codes "i32_store16", λ value. le_bytes 2 (value.lo % 2 ^ 16))
store_row store.I64Store8 = (codes "i64_store8", λ value. le_bytes 1 (value.lo % 2 ^ 8))
store_row store.I64Store16 = (codes "i64_store16", λ value. le_bytes 2 (value.lo % 2 ^ 16))
store_row store.I64Store32 = (codes "i64_store32", λ value. le_bytes 4 (value.lo % 2 ^ 32))
store_row store.Store32 = (codes "store32", λ value. le_bytes 4 (value.lo % 2 ^ 32))
store_row store.Store64 = (codes "store64", λ value. le_bytes 8 value.lo)

-- the bytes that a store writes: the low ones of the value
abbrev pub stored_bytes : StoreOp → RawVal → List ℕ
stored_bytes op = (store_row op).1

-- the name of a scalar store
abbrev pub store_name : StoreOp → List ℕ
store_name op = (store_row op).0
