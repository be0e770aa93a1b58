-- What the words of a command mean, the limits and the type of a memory or a table that they name, and its first word.
use Rattle.std.specs.Prelude.{◌≡◌, ◌⊎◌, ℕ, List, Option, ◌≤◌, length, codes, drop}
use Rattle.wasmi_types.specs.declared.index_ty.IndexType.{IndexType}
use Rattle.wasmi_operands.specs.LineWords.{WritesNumber, WritesLimit, LineWords, WritesEach, word_at}
use Rattle.wasmi_operands.specs.Names.{width_word, reference_word, value_word, mutability_word, WritesReference, IsName, NamesLane, WritesLanes}
use Rattle.wasmi_store.specs.Memory.{MemoryTypeValue, page_log2}
use Rattle.wasmi_store.specs.Table.{TableTypeValue}
use Rattle.wasmi_raw.specs.RawVal.{raw_of}
use Rattle.wasmi_ops.specs.LoadStoreOps.{load_name, store_name}
use Rattle.wasmi_ops.specs.VectorOps.{make_name, unary_name, binary_name, ternary_name, shift_name, test_name, vector_load_name}
use Rattle.wasmi_ops.specs.LaneOps.{extract_name, extract_op, replace_name, replace_op, load_lane_name, load_lane_op, store_lane_name, store_lane_op}
use Rattle.wasmi_machine.specs.declared.calls.Call.{Call}
use Rattle.wasmi_store.specs.Memory as memory_type
use Rattle.wasmi_store.specs.Table as table_type
use Rattle.wasmi_machine.specs.declared.calls.Call.TheVariants as call

-- the limits of a memory or of a table: the type of its indices, its minimum and its maximum, if it has one
pub record Limits : Type 0 where
  pub index : IndexType
  pub minimum : ℕ
  pub maximum : Option ℕ

-- three words write these limits: the minimum, the maximum and the width of the indices
pub record WritesLimits (minimum maximum width : List ℕ) (limits : Limits) : Type 0 where
  pub minimum_word : WritesNumber 64 minimum limits.minimum
  pub maximum_word : WritesLimit maximum limits.maximum
  pub width_text : width ≡ width_word limits.index

-- the limits of a memory type
abbrev pub memory_limits : MemoryTypeValue → Limits
memory_limits ty = record { index = ty.index; minimum = ty.minimum; maximum = ty.maximum }

-- four words name this memory type, which there is: its minimum, its maximum, its page size, its addresses' width
pub record NamesType (minimum maximum log2 width : List ℕ) (ty : MemoryTypeValue) : Type 0 where
  pub limits_words : WritesLimits minimum maximum width (memory_limits ty)
  pub log2_word : WritesNumber 8 log2 (page_log2 ty.page)
  pub valid : memory_type.IsValid ty

-- the limits of a table type
abbrev pub table_limits : TableTypeValue → Limits
table_limits ty = record { index = ty.index; minimum = ty.minimum; maximum = ty.maximum }

-- four words name this table type, which there is: its element type, its minimum, its maximum, its indices' width
pub record NamesTableType (element minimum maximum width : List ℕ) (ty : TableTypeValue) : Type 0 where
  pub element_text : element ≡ reference_word ty.element
  pub limits_words : WritesLimits minimum maximum width (table_limits ty)
  pub valid : table_type.IsValid ty

-- What tools/generate writes begins.
-- the word that a command begins with
abbrev pub command_word : Call → List ℕ
command_word (call.SetFuel fuel) = codes "fuel"
command_word call.GetFuel = codes "left"
command_word (call.NewMemory ty) = codes "memory"
command_word (call.NewLentMemory ty) = codes "lent"
command_word (call.GrowMemory memory pages) = codes "grow"
command_word (call.DropMemory memory) = codes "drop"
command_word (call.Read memory offset len) = codes "read"
command_word (call.Write memory offset bytes) = codes "write"
command_word (call.Load op memory ptr offset) = codes "load"
command_word (call.Store op memory ptr offset value) = codes "store"
command_word (call.FillMemory memory dst value len) = codes "mfill"
command_word (call.CopyMemory dst_memory dst src_memory src len) = codes "mcopy"
command_word (call.InitMemory memory segment dst src len) = codes "minit"
command_word (call.NewTable ty init) = codes "table"
command_word (call.GrowTable table delta init) = codes "tgrow"
command_word (call.DropTable table) = codes "drop"
command_word (call.GetElement table index) = codes "get"
command_word (call.SetElement table index value) = codes "tset"
command_word (call.InitTable table segment dst src len) = codes "init"
command_word (call.CopyTable dst_table dst src_table src len) = codes "copy"
command_word (call.FillTable table dst value len) = codes "fill"
command_word (call.NewSegment ty items) = codes "segment"
command_word (call.DropItems segment) = codes "empty"
command_word (call.NewData bytes) = codes "data"
command_word (call.DropData segment) = codes "dempty"
command_word (call.NewGlobal value ty) = codes "global"
command_word (call.SetGlobal global value) = codes "gset"
command_word (call.GetGlobal global) = codes "gget"
command_word (call.SetRegister dst value) = codes "set"
command_word (call.GetRegister a) = codes "show"
command_word (call.Make op dst a) = codes "make"
command_word (call.Unary op dst a) = codes "unary"
command_word (call.Binary op dst a b) = codes "binary"
command_word (call.Ternary op dst a b c) = codes "ternary"
command_word (call.Shift op dst a amount) = codes "shift"
command_word (call.Test op a) = codes "test"
command_word (call.Extract op a) = codes "extract"
command_word (call.Replace op dst a item) = codes "replace"
command_word (call.Shuffle dst a b lanes) = codes "shuffle"
command_word (call.VectorLoad op dst memory ptr offset) = codes "vload"
command_word (call.LoadLane op dst a memory ptr offset) = codes "vloadlane"
command_word (call.VectorStore a memory ptr offset) = codes "vstore"
command_word (call.StoreLane op a memory ptr offset) = codes "vstorelane"

-- as many operands, the k-th of which is the text `word k`, write what the call is given, but for a list at their end
abbrev pub OperandsWrite : ℕ → (ℕ → List ℕ) → Call → Type 0
OperandsWrite count word (call.SetFuel fuel) = (count ≡ 1) × WritesNumber 64 (word 0) fuel
OperandsWrite count word call.GetFuel = count ≡ 0
OperandsWrite count word (call.NewMemory ty) = (count ≡ 4) × NamesType (word 0) (word 1) (word 2) (word 3) ty
OperandsWrite count word (call.NewLentMemory ty) = (count ≡ 4) × NamesType (word 0) (word 1) (word 2) (word 3) ty
OperandsWrite count word (call.GrowMemory memory pages) = (count ≡ 2) × WritesNumber 64 (word 0) memory
    × WritesNumber 64 (word 1) pages
OperandsWrite count word (call.DropMemory memory) = (count ≡ 2) × (word 0 ≡ codes "memory")
    × WritesNumber 64 (word 1) memory
OperandsWrite count word (call.Read memory offset len) = (count ≡ 3) × WritesNumber 64 (word 0) memory
    × WritesNumber 64 (word 1) offset × WritesNumber 64 (word 2) len
OperandsWrite count word (call.Write memory offset bytes) = (2 ≤ count) × WritesNumber 64 (word 0) memory
    × WritesNumber 64 (word 1) offset
OperandsWrite count word (call.Load op memory ptr offset) = (count ≡ 4) × IsName load_name (word 0) op
    × WritesNumber 64 (word 1) memory × WritesNumber 64 (word 2) ptr × WritesNumber 64 (word 3) offset
OperandsWrite count word (call.Store op memory ptr offset value) = (count ≡ 5) × IsName store_name (word 0) op
    × WritesNumber 64 (word 1) memory × WritesNumber 64 (word 2) ptr × WritesNumber 64 (word 3) offset × (lo : ℕ)
    × WritesNumber 64 (word 4) lo × (value ≡ raw_of lo)
OperandsWrite count word (call.FillMemory memory dst value len) = (count ≡ 4) × WritesNumber 64 (word 0) memory
    × WritesNumber 64 (word 1) dst × WritesNumber 8 (word 2) value × WritesNumber 64 (word 3) len
OperandsWrite count word (call.CopyMemory dst_memory dst src_memory src len) = (count ≡ 5)
    × WritesNumber 64 (word 0) dst_memory × WritesNumber 64 (word 1) dst × WritesNumber 64 (word 2) src_memory
    × WritesNumber 64 (word 3) src × WritesNumber 64 (word 4) len
OperandsWrite count word (call.InitMemory memory segment dst src len) = (count ≡ 5) × WritesNumber 64 (word 0) memory
    × WritesNumber 64 (word 1) segment × WritesNumber 64 (word 2) dst × WritesNumber 32 (word 3) src
    × WritesNumber 32 (word 4) len
OperandsWrite count word (call.NewTable ty init) = (count ≡ 6) × NamesTableType (word 0) (word 1) (word 2) (word 3) ty
    × WritesReference (word 4) (word 5) init
OperandsWrite count word (call.GrowTable table delta init) = (count ≡ 4) × WritesNumber 64 (word 0) table
    × WritesNumber 64 (word 1) delta × WritesReference (word 2) (word 3) init
OperandsWrite count word (call.DropTable table) = (count ≡ 2) × (word 0 ≡ codes "table")
    × WritesNumber 64 (word 1) table
OperandsWrite count word (call.GetElement table index) = (count ≡ 2) × WritesNumber 64 (word 0) table
    × WritesNumber 64 (word 1) index
OperandsWrite count word (call.SetElement table index value) = (count ≡ 4) × WritesNumber 64 (word 0) table
    × WritesNumber 64 (word 1) index × WritesReference (word 2) (word 3) value
OperandsWrite count word (call.InitTable table segment dst src len) = (count ≡ 5) × WritesNumber 64 (word 0) table
    × WritesNumber 64 (word 1) segment × WritesNumber 64 (word 2) dst × WritesNumber 32 (word 3) src
    × WritesNumber 32 (word 4) len
OperandsWrite count word (call.CopyTable dst_table dst src_table src len) = (count ≡ 5)
    × WritesNumber 64 (word 0) dst_table × WritesNumber 64 (word 1) dst × WritesNumber 64 (word 2) src_table
    × WritesNumber 64 (word 3) src × WritesNumber 64 (word 4) len
OperandsWrite count word (call.FillTable table dst value len) = (count ≡ 5) × WritesNumber 64 (word 0) table
    × WritesNumber 64 (word 1) dst × WritesReference (word 2) (word 3) value × WritesNumber 64 (word 4) len
OperandsWrite count word (call.NewSegment ty items) = (1 ≤ count) × (word 0 ≡ reference_word ty)
OperandsWrite count word (call.DropItems segment) = (count ≡ 1) × WritesNumber 64 (word 0) segment
OperandsWrite count word (call.NewData bytes) = Unit {0}
OperandsWrite count word (call.DropData segment) = (count ≡ 1) × WritesNumber 64 (word 0) segment
OperandsWrite count word (call.NewGlobal value ty) = (count ≡ 4) × (word 0 ≡ value_word ty.content)
    × (word 1 ≡ mutability_word ty.mutability) × WritesNumber 64 (word 2) value.lo × WritesNumber 64 (word 3) value.hi
OperandsWrite count word (call.SetGlobal global value) = (count ≡ 4) × WritesNumber 64 (word 0) global
    × (word 1 ≡ value_word value.ty) × WritesNumber 64 (word 2) value.raw.lo × WritesNumber 64 (word 3) value.raw.hi
OperandsWrite count word (call.GetGlobal global) = (count ≡ 1) × WritesNumber 64 (word 0) global
OperandsWrite count word (call.SetRegister dst value) = (count ≡ 3) × WritesNumber 8 (word 0) dst
    × WritesNumber 64 (word 1) value.lo × WritesNumber 64 (word 2) value.hi
OperandsWrite count word (call.GetRegister a) = (count ≡ 1) × WritesNumber 8 (word 0) a
OperandsWrite count word (call.Make op dst a) = (count ≡ 3) × IsName make_name (word 0) op × WritesNumber 8 (word 1) dst
    × WritesNumber 8 (word 2) a
OperandsWrite count word (call.Unary op dst a) = (count ≡ 3) × IsName unary_name (word 0) op
    × WritesNumber 8 (word 1) dst × WritesNumber 8 (word 2) a
OperandsWrite count word (call.Binary op dst a b) = (count ≡ 4) × IsName binary_name (word 0) op
    × WritesNumber 8 (word 1) dst × WritesNumber 8 (word 2) a × WritesNumber 8 (word 3) b
OperandsWrite count word (call.Ternary op dst a b c) = (count ≡ 5) × IsName ternary_name (word 0) op
    × WritesNumber 8 (word 1) dst × WritesNumber 8 (word 2) a × WritesNumber 8 (word 3) b × WritesNumber 8 (word 4) c
OperandsWrite count word (call.Shift op dst a amount) = (count ≡ 4) × IsName shift_name (word 0) op
    × WritesNumber 8 (word 1) dst × WritesNumber 8 (word 2) a × WritesNumber 32 (word 3) amount
OperandsWrite count word (call.Test op a) = (count ≡ 2) × IsName test_name (word 0) op × WritesNumber 8 (word 1) a
OperandsWrite count word (call.Extract op a) = (count ≡ 3) × NamesLane extract_name extract_op (word 0) (word 2) op
    × WritesNumber 8 (word 1) a
OperandsWrite count word (call.Replace op dst a item) = (count ≡ 5)
    × NamesLane replace_name replace_op (word 0) (word 3) op × WritesNumber 8 (word 1) dst × WritesNumber 8 (word 2) a
    × WritesNumber 8 (word 4) item
OperandsWrite count word (call.Shuffle dst a b lanes) = (3 ≤ count) × WritesNumber 8 (word 0) dst
    × WritesNumber 8 (word 1) a × WritesNumber 8 (word 2) b
OperandsWrite count word (call.VectorLoad op dst memory ptr offset) = (count ≡ 5) × IsName vector_load_name (word 0) op
    × WritesNumber 8 (word 1) dst × WritesNumber 64 (word 2) memory × WritesNumber 64 (word 3) ptr
    × WritesNumber 64 (word 4) offset
OperandsWrite count word (call.LoadLane op dst a memory ptr offset) = (count ≡ 7)
    × NamesLane load_lane_name load_lane_op (word 0) (word 3) op × WritesNumber 8 (word 1) dst
    × WritesNumber 8 (word 2) a × WritesNumber 64 (word 4) memory × WritesNumber 64 (word 5) ptr
    × WritesNumber 64 (word 6) offset
OperandsWrite count word (call.VectorStore a memory ptr offset) = (count ≡ 4) × WritesNumber 8 (word 0) a
    × WritesNumber 64 (word 1) memory × WritesNumber 64 (word 2) ptr × WritesNumber 64 (word 3) offset
OperandsWrite count word (call.StoreLane op a memory ptr offset) = (count ≡ 6)
    × NamesLane store_lane_name store_lane_op (word 0) (word 2) op × WritesNumber 8 (word 1) a
    × WritesNumber 64 (word 3) memory × WritesNumber 64 (word 4) ptr × WritesNumber 64 (word 5) offset

-- What tools/generate writes ends.

-- the words after the first write what the call is given: its list, if it has one, is what the last of them write
abbrev pub WritesOperands : LineWords → Call → Type 0
WritesOperands words (call.Write memory offset bytes) =
    OperandsWrite (length words) (word_at words) (call.Write memory offset bytes)
    × WritesEach (WritesNumber 8) (drop 2 words) bytes.items
WritesOperands words (call.NewSegment ty items) =
    OperandsWrite (length words) (word_at words) (call.NewSegment ty items)
    × WritesEach (WritesNumber 32) (drop 1 words) items.items
WritesOperands words (call.NewData bytes) = WritesEach (WritesNumber 8) words bytes.items
WritesOperands words (call.Shuffle dst a b lanes) =
    OperandsWrite (length words) (word_at words) (call.Shuffle dst a b lanes) × WritesLanes (drop 3 words) lanes
WritesOperands words call = OperandsWrite (length words) (word_at words) call

-- the word that a command begins with, and the words after it, name this call
abbrev pub NamesAfter : List ℕ → LineWords → Call → Type 0
NamesAfter name operands call = (command_word call ≡ name) × WritesOperands operands call

-- What tools/generate writes begins.
-- a word that a command of the meter, of a global or of a register begins with
abbrev pub IsValueWord : List ℕ → Type 0
IsValueWord name = (name ≡ codes "fuel") ⊎ (name ≡ codes "left") ⊎ (name ≡ codes "global") ⊎ (name ≡ codes "gset")
    ⊎ (name ≡ codes "gget") ⊎ (name ≡ codes "set") ⊎ (name ≡ codes "show")

-- a word that a command of a memory begins with, or one that drops a memory or a table
abbrev pub IsMemoryWord : List ℕ → Type 0
IsMemoryWord name = (name ≡ codes "memory") ⊎ (name ≡ codes "lent") ⊎ (name ≡ codes "grow") ⊎ (name ≡ codes "drop")
    ⊎ (name ≡ codes "read") ⊎ (name ≡ codes "mfill") ⊎ (name ≡ codes "mcopy") ⊎ (name ≡ codes "minit")

-- a word that a command begins with which loads or stores
abbrev pub IsAccessWord : List ℕ → Type 0
IsAccessWord name = (name ≡ codes "load") ⊎ (name ≡ codes "store") ⊎ (name ≡ codes "vload") ⊎ (name ≡ codes "vloadlane")
    ⊎ (name ≡ codes "vstore") ⊎ (name ≡ codes "vstorelane")

-- a word that a command of a table begins with, or one that empties a segment
abbrev pub IsTableWord : List ℕ → Type 0
IsTableWord name = (name ≡ codes "table") ⊎ (name ≡ codes "tgrow") ⊎ (name ≡ codes "get") ⊎ (name ≡ codes "tset")
    ⊎ (name ≡ codes "init") ⊎ (name ≡ codes "copy") ⊎ (name ≡ codes "fill") ⊎ (name ≡ codes "empty")
    ⊎ (name ≡ codes "dempty")

-- a word that a command of a vector instruction begins with
abbrev pub IsVectorWord : List ℕ → Type 0
IsVectorWord name = (name ≡ codes "make") ⊎ (name ≡ codes "unary") ⊎ (name ≡ codes "binary") ⊎ (name ≡ codes "ternary")
    ⊎ (name ≡ codes "shift") ⊎ (name ≡ codes "test") ⊎ (name ≡ codes "extract") ⊎ (name ≡ codes "replace")
    ⊎ (name ≡ codes "shuffle")

-- What tools/generate writes ends.
