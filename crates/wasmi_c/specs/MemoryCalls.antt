-- What the calls on a memory do to what lies with C.
use Rattle.std.specs.Prelude.{◌≡◌, ◌+◌, ◌/◌, ◌⊎◌, ℕ, List, take, length, nat_eq, if◌then◌else◌, Option, Some, None}
use Rattle.wasmi_types.specs.Access.{at, overwrite}
use Rattle.wasmi_meter.specs.declared.{error.MemoryError.MemoryError, quota.Quota.Quota}
use Rattle.wasmi_meter.specs.declared.error.MemoryError.TheVariants as error
use Rattle.wasmi_meter.specs.Limiter.{optional_rules}
use Rattle.wasmi_meter.specs.Capped.{quota_rules}
use Rattle.wasmi_store.specs.Buffer.{Lent}
use Rattle.wasmi_store.specs.Growth.{Growth, metered}
use Rattle.wasmi_store.specs.Write.{filled, copied, BulkWrites}
use Rattle.wasmi_store.specs.Memory.{MemoryValue, MakesMemory, growth_of, pages_of, MemoryTypeValue, IsValid, named_type, page_bytes, in_bounds, memory_growth}
use Rattle.wasmi_region.specs.Memory.{memory_in, made_in, zeroed}
use Rattle.wasmi_c.specs.Numbers.{settings_of, IsState, MeteredRegion, Placed, placed, SameRest}
use Rattle.wasmi_c.specs.Placement.{Placement, AsksAs, ByType, ByTypes, EndsBy, MakesAs, WritesAs}
use Rattle.wasmi_meter.specs.declared.limiter.Kind.TheVariants.{Bytes}
use Rattle.wasmi_c.specs.Status.{memory_status}
use Rattle.wasmi_c.specs.declared.status.TheConstants.{DONE, MEMORY_GROWTH, MEMORY_ACCESS, INVALID_STATE}
use Rattle.wasmi_c.specs.declared.{host.Question.Question, numbers.MemoryNumbers.MemoryNumbers, numbers.Range.Range}

-- the fuel that a call on a memory needs, after an error; else the number stays
abbrev pub memory_fuel_needed : MemoryError → ℕ → ℕ
memory_fuel_needed (error.OutOfFuel required) before = required
memory_fuel_needed other before = before

-- no call makes the memory: its numbers have no valid type
abbrev pub IsNoType : MemoryNumbers → Type 0
IsNoType h = (ty : MemoryTypeValue) → named_type (settings_of h) ≡ Some ty → IsValid ty → ⊥

-- a memory as the calls on it have it: its numbers stand for it
abbrev pub of_memory : Placement MemoryNumbers MemoryTypeValue MemoryValue MemoryError
of_memory = record {
  IsAt = IsState;
  value = memory_in;
  made = made_in;
  size = λ h. h.size;
  resized = λ h size. record h { size = size };
  status = memory_status;
  fuel_needed = memory_fuel_needed;
}

-- a growth by so many pages
abbrev pub by_pages : ℕ → List ℕ → MemoryValue → Growth MemoryValue MemoryError
by_pages pages region x = memory_growth pages x

-- what a growth of a memory asks, by a call
abbrev pub AsksEmbedded : MemoryNumbers → List ℕ → ℕ → ℕ → Question → Question → Type 0
AsksEmbedded h region pages status q q' = ByType of_memory h region status (q' ≡ q) (λ ty.
    let x = memory_in ty region h.size in
    AsksAs pages (in_bounds ty (pages_of x + pages)) MEMORY_GROWTH (growth_of x pages).question status q q')

-- a memory is made by a call, or the numbers have no type, and then nothing is written
abbrev pub MakesEmbedded : Placed MemoryNumbers → Option Quota → ℕ → Placed MemoryNumbers → Option Quota → Type 0
MakesEmbedded a l status a' l' =
    (IsNoType a.numbers × (status ≡ INVALID_STATE) × (a' ≡ a) × (l' ≡ l))
    ⊎ ((ty : MemoryTypeValue) × (named_type (settings_of a.numbers) ≡ Some ty) × IsValid ty
    × MakesAs of_memory (λ made. MakesMemory (optional_rules quota_rules) (Lent a.region) ty l made l') ty a status a')

-- a region with zeros in front where a memory of such a size was made, by the status of the call; else as it was
abbrev pub made_over : List ℕ → ℕ → ℕ → List ℕ
made_over region size status = if nat_eq status DONE then zeroed region 0 size else region

-- numbers that stand for no memory on any region: no page has the size 2^255, and there are no bytes
abbrev pub ended_memory : MemoryNumbers → MemoryNumbers
ended_memory h = record h { size = 0; page_size_log2 = 255 }

-- a memory ends by a call, and a quota gives up its bytes
abbrev pub EndsMemory : Placed MemoryNumbers → Option Quota → ℕ → MemoryNumbers → Option Quota → Type 0
EndsMemory = EndsBy of_memory Bytes ended_memory

-- the size of a memory in pages, by a call
abbrev pub CountsEmbedded : MemoryNumbers → List ℕ → ℕ → ℕ → ℕ → Type 0
CountsEmbedded h region number status number' = ByType of_memory h region status (number' ≡ number) (λ ty.
    (status ≡ DONE) × (number' ≡ h.size / page_bytes ty.page))

-- bytes of a memory from an offset on are read by a call where they end within it, and otherwise nothing is read
abbrev pub ReadsEmbedded : Placed MemoryNumbers → ℕ → List ℕ → ℕ → List ℕ → Type 0
ReadsEmbedded a offset old status new = ByType of_memory a.numbers a.region status (new ≡ old) (λ ty.
    ((at (take a.numbers.size a.region) offset (length old) ≡ Some new) × (status ≡ DONE))
    ⊎ ((at (take a.numbers.size a.region) offset (length old) ≡ None) × (status ≡ MEMORY_ACCESS) × (new ≡ old)))

-- bytes are written by a call over those of a memory from an offset on where they end within it, and nothing is written
-- else; the rest of the region stays
abbrev pub WritesEmbedded : Placed MemoryNumbers → ℕ → List ℕ → ℕ → List ℕ → Type 0
WritesEmbedded a offset source status region' =
    ByType of_memory a.numbers a.region status (region' ≡ a.region) (λ ty.
    ((overwrite (take a.numbers.size a.region) offset source ≡ Some (take a.numbers.size region'))
    × SameRest a.numbers.size a.region region' × (status ≡ DONE))
    ⊎ ((overwrite (take a.numbers.size a.region) offset source ≡ None) × (status ≡ MEMORY_ACCESS)
    × (region' ≡ a.region)))

-- bytes of which those of a range are filled with a value
abbrev pub filled_range : ℕ → Range → List ℕ → Option (List ℕ)
filled_range value range bytes = filled bytes range.to value range.count

-- bytes to which a range of others is copied
abbrev pub copied_range : List ℕ → Range → List ℕ → Option (List ℕ)
copied_range source range bytes = copied bytes range.to source range.from range.count

-- a range of bytes of a memory is written over, as of a memory of the library
abbrev pub WritesBytesAs : (Range → List ℕ → Option (List ℕ)) → Range → ℕ → MeteredRegion → ℕ → MeteredRegion → Type 0
WritesBytesAs written range = WritesAs of_memory (λ bytes m result bytes' m'.
    BulkWrites (written range bytes) range.count (metered bytes (Some m)) result (metered bytes' (Some m')))

-- a range of bytes of a memory is written over by a call
abbrev pub WritesBytesEmbedded : (Range → List ℕ → Option (List ℕ)) → Range → MemoryNumbers → MeteredRegion → ℕ
    → MeteredRegion → Type 0
WritesBytesEmbedded written range h s status s' =
    ByType of_memory h s.region status (s' ≡ s) (λ ty. WritesBytesAs written range h.size s status s')

-- a copy from another memory by a call
abbrev pub CopiesBytesEmbedded : Placed MemoryNumbers → Range → MemoryNumbers → MeteredRegion → ℕ → MeteredRegion
    → Type 0
CopiesBytesEmbedded source range h s status s' = ByTypes of_memory source (placed h s.region) status (s' ≡ s)
    (λ ty source_ty. WritesBytesAs (copied_range (take source.numbers.size source.region)) range h.size s status s')
