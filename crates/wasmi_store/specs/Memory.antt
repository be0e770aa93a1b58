-- Linear memories: their types and what builds one, subtypes, validity, making one, growing it, reading and writing it,
-- and what a bulk instruction writes over a range of one (core specification, memory types and memory instances; the
-- memory64 and custom-page-sizes proposals).
use Rattle.std.specs.Prelude.{◌≤◌, ℕ, Option, Some, None, ◌≡◌, ◌*◌, ◌/◌, ◌-◌, ◌^◌, Bool, true, ◌&&◌, nat_le, nat_lt, nat_eq, min, if◌then◌else◌, ◌+◌, ◌%◌, List, length, Result, Ok, Err}
use Rattle.std.specs.Option.{option_map, option_map_or, ForSome}
use Rattle.wasmi_types.specs.declared.index_ty.IndexType.{IndexType}
use Rattle.wasmi_types.specs.declared.index_ty.IndexType.TheVariants.{I32}
use Rattle.wasmi_types.specs.Value.{address_bits}
use Rattle.wasmi_store.specs.declared.{memory.ty.MemoryTypeBuilder.MemoryTypeBuilder, memory.ty.PageSize.PageSize}
use Rattle.wasmi_store.specs.declared.memory.ty.PageSize.TheVariants.{Byte, Wasm}
use Rattle.wasmi_types.specs.Access.{overwrite}
use Rattle.wasmi_meter.specs.declared.error.MemoryError.{MemoryError}
use Rattle.wasmi_meter.specs.declared.error.MemoryError.TheVariants.{OutOfBoundsGrowth, OutOfBoundsAccess, ResourceLimiterDeniedAllocation, MinimumSizeOverflow, InvalidStaticBufferSize, OutOfFuel}
use Rattle.wasmi_meter.specs.declared.limiter.Kind.TheVariants.{Bytes}
use Rattle.wasmi_meter.specs.Limiter.{MemoryFailure, Question, Rules}
use Rattle.wasmi_meter.specs.Meter.{copy_cost}
use Rattle.wasmi_meter.specs.Attempt.{MeteredValue, Request}
use Rattle.wasmi_store.specs.Buffer.{BufferValue, Room, Owned, fits_room, LacksMemory, zeros_in, with_zeros}
use Rattle.wasmi_store.specs.Growth.{WithCharge, Makes, Growth, Grows}
use Rattle.wasmi_store.specs.Write.{filled, copied, item_price, MeteredWrite, WritesCharging}

-- an optional maximum is no looser than another
abbrev pub IsNoLooser : Option ℕ → Option ℕ → Type 0
IsNoLooser own None = Unit {0}
IsNoLooser None (Some most) = ⊥
IsNoLooser (Some maximum) (Some most) = maximum ≤ most

-- a memory type: its address type, its page size, and its limits in pages
pub record MemoryTypeValue : Type 0 where
  pub index : IndexType
  pub page : PageSize
  pub minimum : ℕ
  pub maximum : Option ℕ

-- how many bytes a page has
abbrev pub page_bytes : PageSize → ℕ
page_bytes Byte = 1
page_bytes Wasm = 65536

-- the logarithm of the page size in bytes
abbrev pub page_log2 : PageSize → ℕ
page_log2 Byte = 0
page_log2 Wasm = 16

-- the page size of so many bytes as this power of two, if there is one
abbrev pub page_of_log2 : ℕ → Option PageSize
page_of_log2 log2 = if nat_eq log2 0 then Some Byte else (if nat_eq log2 16 then Some Wasm else None)

-- the greatest number of pages of any memory of an address type and a page size
abbrev pub greatest_pages : MemoryTypeValue → ℕ
greatest_pages ty = 2 ^ address_bits ty.index / page_bytes ty.page

-- the minimum in bytes
abbrev pub minimum_bytes : MemoryTypeValue → ℕ
minimum_bytes ty = ty.minimum * page_bytes ty.page

-- the maximum in bytes, at most 2^64 - 1
abbrev pub maximum_bytes : MemoryTypeValue → Option ℕ
maximum_bytes ty = option_map (λ pages. min (pages * page_bytes ty.page) (2 ^ 64 - 1)) ty.maximum

-- the limits are within what the address type reaches, the minimum not above the maximum
pub record IsValid (ty : MemoryTypeValue) : Type 0 where
  pub minimum : ty.minimum ≤ greatest_pages ty
  pub maximum : ForSome ty.maximum (λ maximum. (ty.minimum ≤ maximum) × (maximum ≤ greatest_pages ty))

-- whether a memory of the type may have so many pages: by its addresses and its maximum, and less than 2 ^ 64 bytes
abbrev pub in_bounds : MemoryTypeValue → ℕ → Bool
in_bounds ty pages =
    nat_le pages (greatest_pages ty) && option_map_or (λ maximum. nat_le pages maximum) ty.maximum true && nat_lt
    (pages * page_bytes ty.page) (2 ^ 64)

-- a memory of type a may be given where one of type b is asked for (core specification, import matching)
pub record IsSubtype (a b : MemoryTypeValue) : Type 0 where
  pub index : a.index ≡ b.index
  pub page : a.page ≡ b.page
  pub minimum : b.minimum ≤ a.minimum
  pub maximum : IsNoLooser a.maximum b.maximum

-- what a builder was told: as a memory type, with the page size as a power of two
abbrev pub Settings : Type 0
Settings = MemoryTypeBuilder

-- what a builder begins with
abbrev pub default_settings : Settings
default_settings = record { index = I32; page_size_log2 = 16; minimum = 0; maximum = None }

-- the type that the settings name, if there is a page of that size
abbrev pub named_type : Settings → Option MemoryTypeValue
named_type s = option_map (λ page. record { index = s.index; page = page; minimum = s.minimum; maximum = s.maximum })
    (page_of_log2 s.page_size_log2)

-- a memory: its type, its bytes, and the room that these may grow into
pub record MemoryValue : Type 0 where
  pub ty : MemoryTypeValue
  pub bytes : List ℕ
  pub room : Room

-- the size of a memory in pages
abbrev pub pages_of : MemoryValue → ℕ
pages_of x = length x.bytes / page_bytes x.ty.page

-- the memory of a type whose bytes are a buffer's
abbrev pub memory_of : MemoryTypeValue → BufferValue → MemoryValue
memory_of ty b = record { ty = ty; bytes = b.bytes; room = b.room }

-- the buffer of a memory's bytes
abbrev pub buffer_of : MemoryValue → BufferValue
buffer_of x = record { bytes = x.bytes; room = x.room }

-- a new memory of zeros in a room, at the minimum of its type
abbrev pub new_memory : Room → MemoryTypeValue → MemoryValue
new_memory room ty = memory_of ty (zeros_in room (minimum_bytes ty))

-- a size in bytes is whole pages, as many as the type allows
pub record IsSized (ty : MemoryTypeValue) (size : ℕ) : Type 0 where
  pub whole : size % page_bytes ty.page ≡ 0
  pub minimum : ty.minimum ≤ size / page_bytes ty.page
  pub within : in_bounds ty (size / page_bytes ty.page) ≡ true

-- a memory of a valid type has as many whole pages as that allows (core specification, validity of memory instances)
pub record IsValidMemory (x : MemoryValue) : Type 0 where
  pub type : IsValid x.ty
  pub sized : IsSized x.ty (length x.bytes)

-- a memory's type with the present size as the minimum
abbrev pub dynamic_type : MemoryValue → MemoryTypeValue
dynamic_type x = record x.ty { minimum = pages_of x }

-- may a memory get from so many bytes to so many, where its type allows at most so many?
abbrev pub size_question : ℕ → ℕ → Option ℕ → Question
size_question current desired maximum = record { kind = Bytes; current = current; desired = desired; maximum = maximum }

-- what is asked where a memory of a type is made in a room, and the causes of a refusal; it costs no fuel
abbrev pub creation_of : Room → MemoryTypeValue → Request (Unit {0}) MemoryError
creation_of room ty = record {
  early = if nat_lt (minimum_bytes ty) (2 ^ 64) then None else Some MinimumSizeOverflow;
  question = size_question 0 (minimum_bytes ty) (maximum_bytes ty);
  denial = ResourceLimiterDeniedAllocation;
  refusal = ResourceLimiterDeniedAllocation;
  notice = MemoryFailure;
  late = if fits_room room (minimum_bytes ty) then None else Some InvalidStaticBufferSize;
  price = None;
  unpaid = OutOfFuel;
  refuses = LacksMemory room;
  grown = tt;
}

-- what a growth of a memory by so many pages asks and pays, and its causes: a short region before want of fuel
abbrev pub growth_of : MemoryValue → ℕ → Request MemoryValue MemoryError
growth_of x pages = let added = pages * page_bytes x.ty.page in record {
  early = if in_bounds x.ty (pages_of x + pages) then None else Some OutOfBoundsGrowth;
  question = size_question (length x.bytes) (length x.bytes + added) (maximum_bytes x.ty);
  denial = OutOfBoundsGrowth;
  refusal = ResourceLimiterDeniedAllocation;
  notice = MemoryFailure;
  late = if fits_room x.room added then None else Some InvalidStaticBufferSize;
  price = Some (λ costs. copy_cost costs added 1);
  unpaid = OutOfFuel;
  refuses = LacksMemory x.room;
  grown = memory_of x.ty (with_zeros (buffer_of x) added);
}

-- a memory of a type is made in a room
abbrev pub MakesMemory : {S : Type 0} → Rules S → Room → MemoryTypeValue → S → Result MemoryValue MemoryError → S
    → Type 0
MakesMemory rules room ty l result l' = Makes rules (creation_of room ty) (new_memory room ty) l result l'

-- the minimum of a type is permitted in bytes, or an error ends the making of a memory, whatever its room
abbrev pub PermitsMinimum : {S : Type 0} → Rules S → MemoryTypeValue → S → Result ℕ MemoryError → S → Type 0
PermitsMinimum rules ty l (Ok size) l' = (size ≡ minimum_bytes ty) × (nat_lt (minimum_bytes ty) (2 ^ 64) ≡ true)
    × rules.asked l (creation_of Owned ty).question (Ok true) l'
PermitsMinimum rules ty l (Err error) l' = (room : Room) → MakesMemory rules room ty l (Err error) l'

-- the growth of a memory by so many pages
abbrev pub memory_growth : ℕ → MemoryValue → Growth MemoryValue MemoryError
memory_growth pages x = record { amount = pages; size = pages_of x; request = growth_of x pages }

-- a memory grows by so many pages, with this charge; it returns the old size in pages
abbrev pub GrowsMemoryCharging : {S : Type 0} → Rules S → ℕ → MeteredValue MemoryValue S → Result ℕ MemoryError → ℕ
    → MeteredValue MemoryValue S → Type 0
GrowsMemoryCharging rules pages s result charge s' = Grows rules (memory_growth pages s.value) s result charge s'

-- a memory grows by so many pages; it returns the old size in pages
abbrev pub GrowsMemory : {S : Type 0} → Rules S → ℕ → MeteredValue MemoryValue S → Result ℕ MemoryError
    → MeteredValue MemoryValue S → Type 0
GrowsMemory rules pages = WithCharge (GrowsMemoryCharging rules pages)

-- bytes are written over those from an offset on where they end within the memory, and otherwise nothing is written
abbrev pub WritesMemory : MemoryValue → ℕ → List ℕ → Result (Unit {0}) MemoryError → MemoryValue → Type 0
WritesMemory x offset source (Ok _) x' =
    (overwrite x.bytes offset source ≡ Some x'.bytes) × (x'.ty ≡ x.ty) × (x'.room ≡ x.room)
WritesMemory x offset source (Err error) x' =
    (error ≡ OutOfBoundsAccess) × (overwrite x.bytes offset source ≡ None) × (x' ≡ x)

-- a write over a range of a memory
abbrev pub MemoryWrite : Type 0
MemoryWrite = MeteredWrite MemoryValue MemoryError

-- the bytes of a memory are written over: the error of what stands before it, if anything does; what they become, or
-- none where a range ends past its list; and how many of them are paid for
abbrev pub bytes_write : MemoryValue → Option MemoryError → Option (List ℕ) → ℕ → MemoryWrite
bytes_write x early written paid = record {
  early = early;
  written = option_map (λ bytes. record x { bytes = bytes }) written;
  outside = OutOfBoundsAccess;
  price = Some (item_price 1 paid);
  unpaid = OutOfFuel;
}

-- len bytes of a memory from dst on are filled with a value
abbrev pub byte_filling_of : ℕ → ℕ → ℕ → MemoryValue → MemoryWrite
byte_filling_of dst value len x = bytes_write x None (filled x.bytes dst value len) len

-- len bytes of a source from src on, perhaps those of the memory itself, are copied over the bytes from dst on
abbrev pub byte_copy_of : ℕ → ℕ → ℕ → List ℕ → MemoryValue → MemoryWrite
byte_copy_of dst src len source x = bytes_write x None (copied x.bytes dst source src len) len

-- a range of a memory is written over, and its type and its room stay
abbrev pub WritesMemoryRange : (MemoryValue → MemoryWrite) → MeteredValue MemoryValue (Unit {0})
    → Result (Unit {0}) MemoryError → MeteredValue MemoryValue (Unit {0}) → Type 0
WritesMemoryRange write = WithCharge (WritesCharging write)
