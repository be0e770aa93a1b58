-- The forms of commands: the values that the operands of a command write, by the word that it begins with, and when a
-- command is refused.
use Rattle.std.proofs.Common.{ℕ, ◌≡◌, ◌∙◌, List, [], ◌∷◌, Result, Err, bytes_eq, cond, codes, length}
use Rattle.std.specs.Bool.{⊤}
use Rattle.wasmi_types.specs.declared.{value.RefType.RefType, value.ValType.ValType}
use Rattle.wasmi_grammar.proofs.Common.{MemoryTypeValue, Call, LineError, Accepts, LineWords, WritesNumber, word_at, reference_word, command_word, WritesOperands, NamesAfter, refused_through}
use Rattle.wasmi_store.specs.Table.{TableTypeValue}
use Rattle.wasmi_typed.specs.declared.{typed_ref.TypedRawRef.TypedRawRef, global.Mutability.Mutability}
use Rattle.wasmi_raw.specs.declared.raw.RawVal.{RawVal}
use Rattle.wasmi_ops.specs.declared.{load_store.LoadOp.LoadOp, load_store.StoreOp.StoreOp, vector.VectorLoadOp.VectorLoadOp, vector.LoadLaneOp.LoadLaneOp, vector.StoreLaneOp.StoreLaneOp, vector.BinaryOp.BinaryOp, vector.MakeOp.MakeOp, vector.ShiftOp.ShiftOp, vector.TernaryOp.TernaryOp, vector.TestOp.TestOp, vector.UnaryOp.UnaryOp}
use Rattle.wasmi_machine.specs.declared.calls.Call.TheVariants as call

-- a form: the type of the values that operands write, and how they write them
abbrev pub Form : Type 1
Form = (A : Type 0) × (LineWords → A → Type 0)

-- the form of operands that write what a call is made of
abbrev made : (A : Type 0) → (A → Call) → Form
made A make = (A, λ words a. WritesOperands words (make a))

-- the form beside a word; beside others a call is made of itself
abbrev form_in : List (List ℕ × Form) → List ℕ → Form
form_in [] word = made Call (λ call. call)
form_in (entry ∷ entries) word = cond (bytes_eq entry.0 word) entry.1 (form_in entries word)

-- the form of a table, a number of 64 bits and a reference
abbrev element_form : Form
element_form = (
  ℕ × ℕ × RefType × ℕ,
  λ words a. (length words ≡ 4) × WritesNumber 64 (word_at words 0) a.0 × WritesNumber 64 (word_at words 1) a.1
      × (word_at words 2 ≡ reference_word a.2) × WritesNumber 32 (word_at words 3) a.3,
)

-- the form of these and of how many elements
abbrev elements_form : Form
elements_form = (
  ℕ × ℕ × RefType × ℕ × ℕ,
  λ words a. (length words ≡ 5) × WritesNumber 64 (word_at words 0) a.0 × WritesNumber 64 (word_at words 1) a.1
      × (word_at words 2 ≡ reference_word a.2) × WritesNumber 32 (word_at words 3) a.3
      × WritesNumber 64 (word_at words 4) a.4,
)

-- What tools/generate writes begins.
-- the forms of commands whose operands are read at once
abbrev forms : List (List ℕ × Form)
forms =
    (codes "fuel", made ℕ (λ a. call.SetFuel a)) ∷
    (codes "left", made ⊤ (λ a. call.GetFuel)) ∷
    (codes "memory", made MemoryTypeValue (λ a. call.NewMemory a)) ∷
    (codes "lent", made MemoryTypeValue (λ a. call.NewLentMemory a)) ∷
    (codes "grow", made (ℕ × ℕ) (λ a. call.GrowMemory a.0 a.1)) ∷
    (codes "read", made (ℕ × ℕ × ℕ) (λ a. call.Read a.0 a.1 a.2)) ∷
    (codes "load", made (LoadOp × ℕ × ℕ × ℕ) (λ a. call.Load a.0 a.1 a.2 a.3)) ∷
    (codes "store", made (StoreOp × ℕ × ℕ × ℕ × RawVal) (λ a. call.Store a.0 a.1 a.2 a.3 a.4)) ∷
    (codes "mfill", made (ℕ × ℕ × ℕ × ℕ) (λ a. call.FillMemory a.0 a.1 a.2 a.3)) ∷
    (codes "mcopy", made (ℕ × ℕ × ℕ × ℕ × ℕ) (λ a. call.CopyMemory a.0 a.1 a.2 a.3 a.4)) ∷
    (codes "minit", made (ℕ × ℕ × ℕ × ℕ × ℕ) (λ a. call.InitMemory a.0 a.1 a.2 a.3 a.4)) ∷
    (codes "table", made (TableTypeValue × TypedRawRef) (λ a. call.NewTable a.0 a.1)) ∷
    (codes "tgrow", element_form) ∷
    (codes "get", made (ℕ × ℕ) (λ a. call.GetElement a.0 a.1)) ∷
    (codes "tset", element_form) ∷
    (codes "init", made (ℕ × ℕ × ℕ × ℕ × ℕ) (λ a. call.InitTable a.0 a.1 a.2 a.3 a.4)) ∷
    (codes "copy", made (ℕ × ℕ × ℕ × ℕ × ℕ) (λ a. call.CopyTable a.0 a.1 a.2 a.3 a.4)) ∷
    (codes "fill", elements_form) ∷
    (codes "empty", made ℕ (λ a. call.DropItems a)) ∷
    (codes "dempty", made ℕ (λ a. call.DropData a)) ∷ (
      codes "global",
      made (ValType × Mutability × ℕ × ℕ) (λ a. call.NewGlobal (record { lo = a.2; hi = a.3 })
          (record { content = a.0; mutability = a.1 })),
    ) ∷ (
      codes "gset",
      made (ℕ × ValType × ℕ × ℕ) (λ a. call.SetGlobal a.0 (record { ty = a.1; raw = record { lo = a.2; hi = a.3 } })),
    ) ∷
    (codes "gget", made ℕ (λ a. call.GetGlobal a)) ∷
    (codes "set", made (ℕ × ℕ × ℕ) (λ a. call.SetRegister a.0 (record { lo = a.1; hi = a.2 }))) ∷
    (codes "show", made ℕ (λ a. call.GetRegister a)) ∷
    (codes "make", made (MakeOp × ℕ × ℕ) (λ a. call.Make a.0 a.1 a.2)) ∷
    (codes "unary", made (UnaryOp × ℕ × ℕ) (λ a. call.Unary a.0 a.1 a.2)) ∷
    (codes "binary", made (BinaryOp × ℕ × ℕ × ℕ) (λ a. call.Binary a.0 a.1 a.2 a.3)) ∷
    (codes "ternary", made (TernaryOp × ℕ × ℕ × ℕ × ℕ) (λ a. call.Ternary a.0 a.1 a.2 a.3 a.4)) ∷
    (codes "shift", made (ShiftOp × ℕ × ℕ × ℕ) (λ a. call.Shift a.0 a.1 a.2 a.3)) ∷
    (codes "test", made (TestOp × ℕ) (λ a. call.Test a.0 a.1)) ∷
    (codes "vload", made (VectorLoadOp × ℕ × ℕ × ℕ × ℕ) (λ a. call.VectorLoad a.0 a.1 a.2 a.3 a.4)) ∷
    (codes "vloadlane", made (LoadLaneOp × ℕ × ℕ × ℕ × ℕ × ℕ) (λ a. call.LoadLane a.0 a.1 a.2 a.3 a.4 a.5)) ∷
    (codes "vstore", made (ℕ × ℕ × ℕ × ℕ) (λ a. call.VectorStore a.0 a.1 a.2 a.3)) ∷
    (codes "vstorelane", made (StoreLaneOp × ℕ × ℕ × ℕ × ℕ) (λ a. call.StoreLane a.0 a.1 a.2 a.3 a.4)) ∷
    []

-- a call whose operands are written is of the form of its word
form : (words : LineWords) (call : Call) → WritesOperands words call → (a : (form_in forms (command_word call)).0) ×
    (form_in forms (command_word call)).1 words a
form words (call.SetFuel fuel) w = (fuel, w)
form words call.GetFuel w = (tt, w)
form words (call.NewMemory ty) w = (ty, w)
form words (call.NewLentMemory ty) w = (ty, w)
form words (call.GrowMemory memory pages) w = ((memory, pages), w)
form words (call.Read memory offset len) w = ((memory, offset, len), w)
form words (call.Load op memory ptr offset) w = ((op, memory, ptr, offset), w)
form words (call.Store op memory ptr offset value) w = ((op, memory, ptr, offset, value), w)
form words (call.FillMemory memory dst value len) w = ((memory, dst, value, len), w)
form words (call.CopyMemory dst_memory dst src_memory src len) w = ((dst_memory, dst, src_memory, src, len), w)
form words (call.InitMemory memory segment dst src len) w = ((memory, segment, dst, src, len), w)
form words (call.NewTable ty init) w = ((ty, init), w)
form words (call.GrowTable table delta init) w = ((table, delta, init.ty, init.raw), (w.0, w.1, w.2, w.3.0, w.3.1))
form words (call.GetElement table index) w = ((table, index), w)
form words (call.SetElement table index value) w = ((table, index, value.ty, value.raw), (w.0, w.1, w.2, w.3.0, w.3.1))
form words (call.InitTable table segment dst src len) w = ((table, segment, dst, src, len), w)
form words (call.CopyTable dst_table dst src_table src len) w = ((dst_table, dst, src_table, src, len), w)
form words (call.FillTable table dst value len) w = (
  (table, dst, value.ty, value.raw, len),
  (w.0, w.1, w.2, w.3.0, w.3.1, w.4),
)
form words (call.DropItems segment) w = (segment, w)
form words (call.DropData segment) w = (segment, w)
form words (call.NewGlobal value ty) w = ((ty.content, ty.mutability, value.lo, value.hi), w)
form words (call.SetGlobal global value) w = ((global, value.ty, value.raw.lo, value.raw.hi), w)
form words (call.GetGlobal global) w = (global, w)
form words (call.SetRegister dst value) w = ((dst, value.lo, value.hi), w)
form words (call.GetRegister a) w = (a, w)
form words (call.Make op dst a) w = ((op, dst, a), w)
form words (call.Unary op dst a) w = ((op, dst, a), w)
form words (call.Binary op dst a b) w = ((op, dst, a, b), w)
form words (call.Ternary op dst a b c) w = ((op, dst, a, b, c), w)
form words (call.Shift op dst a amount) w = ((op, dst, a, amount), w)
form words (call.Test op a) w = ((op, a), w)
form words (call.VectorLoad op dst memory ptr offset) w = ((op, dst, memory, ptr, offset), w)
form words (call.LoadLane op dst a memory ptr offset) w = ((op, dst, a, memory, ptr, offset), w)
form words (call.VectorStore a memory ptr offset) w = ((a, memory, ptr, offset), w)
form words (call.StoreLane op a memory ptr offset) w = ((op, a, memory, ptr, offset), w)
form words call w = (call, w)

-- What tools/generate writes ends.

-- a command is refused since the values of its form are
pub refused_named : {name word : List ℕ} (words : LineWords) {error : LineError} {result : Result Call LineError}
    → result ≡ Err error → name ≡ word
    → Accepts {A = (form_in forms word).0} (Err error) ((form_in forms word).1 words)
    → Accepts result (NamesAfter name words)
refused_named words {error} {result} is same =
    refused_through error result is (λ call names. rw (names.0 ∙ same) at (form words call names.1))
