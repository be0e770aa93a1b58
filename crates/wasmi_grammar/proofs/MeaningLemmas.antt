-- The meaning of a line, as a function of its words, and of the lines of a script: what is said after a line is a
-- function of its words and of what was said before.
use Rattle.std.proofs.Common.{ℕ, ◌≡◌, ◌∙◌, ◌++◌, List, [], ◌∷◌, Option, Some, None, bytes_eq, cond, codes, map, drop, inl, inr, refl, sym, ap}
use Rattle.wasmi_grammar.proofs.Common.{option_map, option_map_or, option_and_then, map-append, Call, Line, Meter, Limiter, Region, Reserve, As, NamesLine, AddsLine, AddsWords, TenantRun, PartsValue, Script, Quota, Answers, Tenants, RegionLine, LineWords, WritesEach, word_at, WritesNumber, decimal_value, IsName, reference_word, value_word, mutability_word, command_word, WritesOperands, named, named_is, reference_named, reference_is, lane_named, lane_is, each_named}
use Rattle.wasmi_raw.specs.RawVal.{raw_of}
use Rattle.wasmi_types.specs.contracts.value.RefType as reference_type
use Rattle.wasmi_types.specs.contracts.value.ValType as value_type
use Rattle.wasmi_typed.specs.contracts.global.Mutability as mutability
use Rattle.wasmi_ops.specs.contracts.load_store.LoadOp as load
use Rattle.wasmi_ops.specs.contracts.load_store.StoreOp as store
use Rattle.wasmi_ops.specs.contracts.vector.MakeOp as make
use Rattle.wasmi_ops.specs.contracts.vector.UnaryOp as unary
use Rattle.wasmi_ops.specs.contracts.vector.BinaryOp as binary
use Rattle.wasmi_ops.specs.contracts.vector.TernaryOp as ternary
use Rattle.wasmi_ops.specs.contracts.vector.ShiftOp as shift
use Rattle.wasmi_ops.specs.contracts.vector.TestOp as test
use Rattle.wasmi_ops.specs.contracts.vector.VectorLoadOp as vector_load
use Rattle.wasmi_ops.specs.contracts.vector.ExtractKind as extract
use Rattle.wasmi_ops.specs.contracts.vector.ReplaceKind as replace
use Rattle.wasmi_ops.specs.contracts.vector.LoadLaneKind as load_lane
use Rattle.wasmi_ops.specs.contracts.vector.StoreLaneKind as store_lane
use Rattle.wasmi_ops.specs.LoadStoreOps.{load_name, store_name}
use Rattle.wasmi_ops.specs.VectorOps.{make_name, unary_name, binary_name, ternary_name, shift_name, test_name, vector_load_name}
use Rattle.wasmi_ops.specs.LaneOps.{extract_name, extract_op, replace_name, replace_op, load_lane_name, load_lane_op, store_lane_name, store_lane_op}
use Rattle.wasmi_machine.specs.declared.slots.SlotCounts.{SlotCounts}
use Rattle.wasmi_machine.specs.declared.calls.Call.TheVariants as call
use Rattle.wasmi_grammar.specs.declared.script.Line.TheVariants.{Call as Command}
use Rattle.wasmi_grammar.specs.declared.{header.Header.Header, header.MeterLine.MeterLine}
use Rattle.wasmi_grammar.specs.declared.header.MeterLine.TheVariants.{Off, On}
use Rattle.wasmi_grammar.specs.Meanings.{CallMeaning, WriteMeaning, SegmentMeaning, DataMeaning, OtherCall as Other, call_meaning, LimiterMeaning, AnswersMeaning, OtherLimiter, limiter_meaning, PartMeaning, part_meaning}
use Rattle.wasmi_grammar.proofs.LimitWordsLemmas.{memory_named, memory_is, table_named, table_is}
use Rattle.wasmi_grammar.proofs.HeadersLemmas.{answers_named, answers_is}

-- the meaning that a list has beside a word, or another one
abbrev found_or : {A : Type 0} → List (List ℕ × A) → List ℕ → A → A
found_or [] word other = other
found_or (entry ∷ entries) word other = cond (bytes_eq entry.0 word) entry.1 (found_or entries word other)

-- the meaning that a list has beside a word, if it has one
abbrev beside : {A : Type 0} → List (List ℕ × Option A) → List ℕ → Option A
beside entries word = found_or entries word None

-- the meaning of a call of what words name, if they name something
abbrev made : {A : Type 0} → Option A → (A → Call) → Option CallMeaning
made named make = option_map (λ it. Other (make it)) named

-- what a line says, with its lists as lists
pub data LineMeaning : Type 0 where
  MeterMeaning : MeterLine → LineMeaning
  LimiterTold : LimiterMeaning → LineMeaning
  RegionMeaning : RegionLine → LineMeaning
  ReserveMeaning : SlotCounts → LineMeaning
  TenantMeaning : ℕ → LineMeaning
  CallTold : CallMeaning → LineMeaning

-- what a line says
abbrev pub line_meaning : Line → LineMeaning
line_meaning (Meter line) = MeterMeaning line
line_meaning (Limiter line) = LimiterTold (limiter_meaning line)
line_meaning (Region line) = RegionMeaning line
line_meaning (Reserve slots) = ReserveMeaning slots
line_meaning (As tenant) = TenantMeaning tenant
line_meaning (Command call) = CallTold (call_meaning call)

-- the numbers that words write, as the meaning of their line has them
abbrev numbers_in : LineWords → List ℕ
numbers_in words = map decimal_value (map (λ word. word.now) words)

-- words that write numbers give those numbers to the meaning of their line
numbers_is : (bits : ℕ) (words : LineWords) (numbers : List ℕ) → WritesEach (WritesNumber bits) words numbers
    → numbers_in words ≡ numbers
numbers_is bits = each_named (WritesNumber bits) decimal_value (λ word number writes. sym writes.1)

-- what words write
module _ (words : LineWords) where
  -- the text of the word at a place
  abbrev word : ℕ → List ℕ
  word k = word_at words k

  -- the number that the word at a place writes
  abbrev n : ℕ → ℕ
  n k = decimal_value (word_at words k)

  -- what is dropped, by the word after
  abbrev drops_named : List (List ℕ × Option CallMeaning)
  drops_named =
      (codes "memory", Some (Other (call.DropMemory (n 1)))) ∷ (codes "table", Some (Other (call.DropTable (n 1)))) ∷ []

  -- What tools/generate writes begins.
  -- the call that operands write, by the word before them
  abbrev calls_named : List (List ℕ × Option CallMeaning)
  calls_named =
      (codes "fuel", Some (Other (call.SetFuel (n 0)))) ∷
      (codes "left", Some (Other call.GetFuel)) ∷
      (codes "memory", made (memory_named (word 0) (word 1) (word 2) (word 3)) (λ ty. call.NewMemory ty)) ∷
      (codes "lent", made (memory_named (word 0) (word 1) (word 2) (word 3)) (λ ty. call.NewLentMemory ty)) ∷
      (codes "grow", Some (Other (call.GrowMemory (n 0) (n 1)))) ∷
      (codes "drop", beside drops_named (word 0)) ∷
      (codes "read", Some (Other (call.Read (n 0) (n 1) (n 2)))) ∷
      (codes "write", Some (WriteMeaning (n 0) (n 1) (numbers_in (drop 2 words)))) ∷
      (codes "load", made (named load.enum tt load_name (word 0)) (λ op. call.Load op (n 1) (n 2) (n 3))) ∷ (
        codes "store",
        made (named store.enum tt store_name (word 0)) (λ op. call.Store op (n 1) (n 2) (n 3) (raw_of (n 4))),
      ) ∷
      (codes "mfill", Some (Other (call.FillMemory (n 0) (n 1) (n 2) (n 3)))) ∷
      (codes "mcopy", Some (Other (call.CopyMemory (n 0) (n 1) (n 2) (n 3) (n 4)))) ∷
      (codes "minit", Some (Other (call.InitMemory (n 0) (n 1) (n 2) (n 3) (n 4)))) ∷ (
        codes "table",
        option_and_then (λ ty. option_map (λ init. Other (call.NewTable ty init)) (reference_named (word 4) (word 5)))
            (table_named (word 0) (word 1) (word 2) (word 3)),
      ) ∷
      (codes "tgrow", made (reference_named (word 2) (word 3)) (λ init. call.GrowTable (n 0) (n 1) init)) ∷
      (codes "get", Some (Other (call.GetElement (n 0) (n 1)))) ∷
      (codes "tset", made (reference_named (word 2) (word 3)) (λ value. call.SetElement (n 0) (n 1) value)) ∷
      (codes "init", Some (Other (call.InitTable (n 0) (n 1) (n 2) (n 3) (n 4)))) ∷
      (codes "copy", Some (Other (call.CopyTable (n 0) (n 1) (n 2) (n 3) (n 4)))) ∷
      (codes "fill", made (reference_named (word 2) (word 3)) (λ value. call.FillTable (n 0) (n 1) value (n 4))) ∷ (
        codes "segment",
        option_map (λ ty. SegmentMeaning ty (numbers_in (drop 1 words)))
            (named reference_type.enum tt reference_word (word 0)),
      ) ∷
      (codes "empty", Some (Other (call.DropItems (n 0)))) ∷
      (codes "data", Some (DataMeaning (numbers_in words))) ∷
      (codes "dempty", Some (Other (call.DropData (n 0)))) ∷ (
        codes "global",
        option_and_then (λ content. option_map (λ mutability. Other (call.NewGlobal (record { lo = n 2; hi = n 3 })
            (record { content = content; mutability = mutability })))
            (named mutability.enum tt mutability_word (word 1))) (named value_type.enum tt value_word (word 0)),
      ) ∷ (
        codes "gset",
        made (named value_type.enum tt value_word (word 1)) (λ ty. call.SetGlobal (n 0)
            (record { ty = ty; raw = record { lo = n 2; hi = n 3 } })),
      ) ∷
      (codes "gget", Some (Other (call.GetGlobal (n 0)))) ∷
      (codes "set", Some (Other (call.SetRegister (n 0) (record { lo = n 1; hi = n 2 })))) ∷
      (codes "show", Some (Other (call.GetRegister (n 0)))) ∷
      (codes "make", made (named make.enum tt make_name (word 0)) (λ op. call.Make op (n 1) (n 2))) ∷
      (codes "unary", made (named unary.enum tt unary_name (word 0)) (λ op. call.Unary op (n 1) (n 2))) ∷
      (codes "binary", made (named binary.enum tt binary_name (word 0)) (λ op. call.Binary op (n 1) (n 2) (n 3))) ∷ (
        codes "ternary",
        made (named ternary.enum tt ternary_name (word 0)) (λ op. call.Ternary op (n 1) (n 2) (n 3) (n 4)),
      ) ∷
      (codes "shift", made (named shift.enum tt shift_name (word 0)) (λ op. call.Shift op (n 1) (n 2) (n 3))) ∷
      (codes "test", made (named test.enum tt test_name (word 0)) (λ op. call.Test op (n 1))) ∷ (
        codes "extract",
        made (lane_named extract.enum tt extract_name extract_op (word 0) (word 2)) (λ op. call.Extract op (n 1)),
      ) ∷ (
        codes "replace",
        made (lane_named replace.enum tt replace_name replace_op (word 0) (word 3))
            (λ op. call.Replace op (n 1) (n 2) (n 4)),
      ) ∷
      (codes "shuffle", Some (Other (call.Shuffle (n 0) (n 1) (n 2) (numbers_in (drop 3 words))))) ∷ (
        codes "vload",
        made (named vector_load.enum tt vector_load_name (word 0)) (λ op. call.VectorLoad op (n 1) (n 2) (n 3) (n 4)),
      ) ∷ (
        codes "vloadlane",
        made (lane_named load_lane.enum tt load_lane_name load_lane_op (word 0) (word 3))
            (λ op. call.LoadLane op (n 1) (n 2) (n 4) (n 5) (n 6)),
      ) ∷
      (codes "vstore", Some (Other (call.VectorStore (n 0) (n 1) (n 2) (n 3)))) ∷ (
        codes "vstorelane",
        made (lane_named store_lane.enum tt store_lane_name store_lane_op (word 0) (word 2))
            (λ op. call.StoreLane op (n 1) (n 3) (n 4) (n 5)),
      ) ∷
      []

  -- operands that write a call give what the call says, beside its word
  call_is : (call : Call) → WritesOperands words call → beside calls_named (command_word call) ≡ Some
      (call_meaning call)
  unfolding IsName
  call_is (call.SetFuel fuel) w = rw (← w.1.1)
  call_is call.GetFuel w = refl
  call_is (call.NewMemory ty) w = rw (memory_is (word 0) (word 1) (word 2) (word 3) ty w.1)
  call_is (call.NewLentMemory ty) w = rw (memory_is (word 0) (word 1) (word 2) (word 3) ty w.1)
  call_is (call.GrowMemory memory pages) w = rw (← w.1.1, ← w.2.1)
  call_is (call.DropMemory memory) w = rw (w.1, ← w.2.1)
  call_is (call.Read memory offset len) w = rw (← w.1.1, ← w.2.1, ← w.3.1)
  call_is (call.Write memory offset bytes) w = rw (numbers_is 8 (drop 2 words) bytes.items w.1, ← w.0.1.1, ← w.0.2.1)
  call_is (call.Load op memory ptr offset) w =
      rw (named_is load.enum tt load_name refl (word 0) op w.1) (rw (← w.2.1, ← w.3.1, ← w.4.1))
  call_is (call.Store op memory ptr offset value) w =
      rw (named_is store.enum tt store_name refl (word 0) op w.1) (rw (← w.2.1, ← w.3.1, ← w.4.1, ← w.6.1, ← w.7))
  call_is (call.FillMemory memory dst value len) w = rw (← w.1.1, ← w.2.1, ← w.3.1, ← w.4.1)
  call_is (call.CopyMemory dst_memory dst src_memory src len) w = rw (← w.1.1, ← w.2.1, ← w.3.1, ← w.4.1, ← w.5.1)
  call_is (call.InitMemory memory segment dst src len) w = rw (← w.1.1, ← w.2.1, ← w.3.1, ← w.4.1, ← w.5.1)
  call_is (call.NewTable ty init) w =
      rw (table_is (word 0) (word 1) (word 2) (word 3) ty w.1) (rw (reference_is (word 4) (word 5) init w.2))
  call_is (call.GrowTable table delta init) w = rw (reference_is (word 2) (word 3) init w.3, ← w.1.1, ← w.2.1)
  call_is (call.DropTable table) w = rw (w.1, ← w.2.1)
  call_is (call.GetElement table index) w = rw (← w.1.1, ← w.2.1)
  call_is (call.SetElement table index value) w = rw (reference_is (word 2) (word 3) value w.3, ← w.1.1, ← w.2.1)
  call_is (call.InitTable table segment dst src len) w = rw (← w.1.1, ← w.2.1, ← w.3.1, ← w.4.1, ← w.5.1)
  call_is (call.CopyTable dst_table dst src_table src len) w = rw (← w.1.1, ← w.2.1, ← w.3.1, ← w.4.1, ← w.5.1)
  call_is (call.FillTable table dst value len) w =
      rw (reference_is (word 2) (word 3) value w.3) (rw (← w.1.1, ← w.2.1, ← w.4.1))
  call_is (call.NewSegment ty items) w =
      rw (named_is reference_type.enum tt reference_word refl (word 0) ty w.0.1)
      (rw (numbers_is 32 (drop 1 words) items.items w.1))
  call_is (call.DropItems segment) w = rw (← w.1.1)
  call_is (call.NewData bytes) w = rw (numbers_is 8 words bytes.items w)
  call_is (call.DropData segment) w = rw (← w.1.1)
  call_is (call.NewGlobal value ty) w =
      rw (named_is value_type.enum tt value_word refl (word 0) ty.content w.1)
      (rw (named_is mutability.enum tt mutability_word refl (word 1) ty.mutability w.2)
      (rw (← w.3.1, ← w.4.1)))
  call_is (call.SetGlobal global value) w =
      rw (named_is value_type.enum tt value_word refl (word 1) value.ty w.2) (rw (← w.1.1, ← w.3.1, ← w.4.1))
  call_is (call.GetGlobal global) w = rw (← w.1.1)
  call_is (call.SetRegister dst value) w = rw (← w.1.1, ← w.2.1, ← w.3.1)
  call_is (call.GetRegister a) w = rw (← w.1.1)
  call_is (call.Make op dst a) w = rw (named_is make.enum tt make_name refl (word 0) op w.1, ← w.2.1, ← w.3.1)
  call_is (call.Unary op dst a) w = rw (named_is unary.enum tt unary_name refl (word 0) op w.1, ← w.2.1, ← w.3.1)
  call_is (call.Binary op dst a b) w =
      rw (named_is binary.enum tt binary_name refl (word 0) op w.1) (rw (← w.2.1, ← w.3.1, ← w.4.1))
  call_is (call.Ternary op dst a b c) w =
      rw (named_is ternary.enum tt ternary_name refl (word 0) op w.1) (rw (← w.2.1, ← w.3.1, ← w.4.1, ← w.5.1))
  call_is (call.Shift op dst a amount) w =
      rw (named_is shift.enum tt shift_name refl (word 0) op w.1) (rw (← w.2.1, ← w.3.1, ← w.4.1))
  call_is (call.Test op a) w = rw (named_is test.enum tt test_name refl (word 0) op w.1, ← w.2.1)
  call_is (call.Extract op a) w =
      rw (lane_is extract.enum tt extract_name extract_op (word 0) (word 2) refl op w.1) (rw (← w.2.1))
  call_is (call.Replace op dst a item) w =
      rw (lane_is replace.enum tt replace_name replace_op (word 0) (word 3) refl op w.1)
      (rw (← w.2.1, ← w.3.1, ← w.4.1))
  call_is (call.Shuffle dst a b lanes) w =
      rw (numbers_is 5 (drop 3 words) lanes w.1.written) (rw (← w.0.1.1, ← w.0.2.1, ← w.0.3.1))
  call_is (call.VectorLoad op dst memory ptr offset) w =
      rw (named_is vector_load.enum tt vector_load_name refl (word 0) op w.1) (rw (← w.2.1, ← w.3.1, ← w.4.1, ← w.5.1))
  call_is (call.LoadLane op dst a memory ptr offset) w =
      rw (lane_is load_lane.enum tt load_lane_name load_lane_op (word 0) (word 3) refl op w.1)
      (rw (← w.2.1, ← w.3.1, ← w.4.1, ← w.5.1, ← w.6.1))
  call_is (call.VectorStore a memory ptr offset) w = rw (← w.1.1, ← w.2.1, ← w.3.1, ← w.4.1)
  call_is (call.StoreLane op a memory ptr offset) w =
      rw (lane_is store_lane.enum tt store_lane_name store_lane_op (word 0) (word 2) refl op w.1)
      (rw (← w.2.1, ← w.3.1, ← w.4.1, ← w.5.1))

  -- What tools/generate writes ends.

  -- the line that operands write, by the word before them
  abbrev lines_named : List (List ℕ × Option LineMeaning)
  lines_named =
      (codes "meter", Some (MeterMeaning (cond (bytes_eq (word 0) (codes "off")) Off (On (n 1))))) ∷
      (codes "quota", Some (LimiterTold (OtherLimiter (Quota (record { bytes = n 0; elements = n 1 }))))) ∷
      (codes "answers", Some (LimiterTold (AnswersMeaning (answers_named words)))) ∷ (
        codes "tenants",
        Some (LimiterTold (OtherLimiter
            (Tenants (record { count = n 0; caps = record { bytes = n 1; elements = n 2 } })))),
      ) ∷
      (codes "region", Some (RegionMeaning (record { len = n 0; byte = n 1 }))) ∷ (
        codes "reserve",
        Some (ReserveMeaning (record {
          memories = n 0;
          tables = n 1;
          segments = n 2;
          data_segments = n 3;
          globals = n 4;
        })),
      ) ∷
      (codes "as", Some (TenantMeaning (n 0))) ∷
      []

  -- what a line says, by its first word
  abbrev line_named : List ℕ → Option LineMeaning
  line_named name = found_or lines_named name (option_map CallTold (beside calls_named name))

  -- a command's word is the word of no other line
  told_by_call : (call : Call) (other : Option LineMeaning) → found_or lines_named (command_word call) other ≡ other
  told_by_call call.GetFuel other = refl
  told_by_call call other = refl

  -- a first word and operands that say a line give what it says
  pub line_is : (name : List ℕ) (line : Line) → NamesLine name words line → line_named name ≡ Some (line_meaning line)
  line_is name (Meter Off) (is, (many, off)) = rw (is, off)
  line_is name (Meter (On bytes)) (is, (many, on, fuel)) = rw (is, on, ← fuel.1)
  line_is name (Limiter (Quota line)) (is, (many, bytes, elements)) = rw (← is, ← bytes.1, ← elements.1)
  line_is name (Limiter (Answers answers)) w = rw (← w.0, answers_is words answers.items w.1)
  line_is name (Limiter (Tenants line)) (is, (many, count, some, most, bytes, elements)) =
      rw (← is, ← count.1, ← bytes.1, ← elements.1)
  line_is name (Region line) (is, (many, len, byte)) = rw (is, ← len.1, ← byte.1)
  line_is name (Reserve slots) (is, (many, a, b, c, d, e)) = rw (is, ← a.1, ← b.1, ← c.1, ← d.1, ← e.1)
  line_is name (As tenant) (is, (many, index)) = rw (is, ← index.1)
  line_is name (Command call) w =
      ap line_named (sym w.0) ∙ told_by_call call (option_map CallTold (beside calls_named (command_word call)))
      ∙ ap (option_map CallTold) (call_is call w.1)

-- what lines say: the header lines, the parts before the last `as` line, the last tenant and its calls
pub record LinesMeaning : Type 0 where
  pub meter : Option MeterLine
  pub limiter : Option LimiterMeaning
  pub region : Option RegionLine
  pub reserve : Option SlotCounts
  pub earlier : List PartMeaning
  pub tenant : ℕ
  pub calls : List CallMeaning

-- what a header and parts say
abbrev pub meaning_of : Header → PartsValue → LinesMeaning
meaning_of header parts = record {
  meter = header.meter;
  limiter = option_map limiter_meaning header.limiter_line;
  region = header.region;
  reserve = header.reserve;
  earlier = map part_meaning parts.earlier;
  tenant = parts.tenant;
  calls = map call_meaning parts.calls;
}

-- what the lines of a script say
abbrev pub lines_meaning : Script → LinesMeaning
lines_meaning script = meaning_of script.header script.parts

-- the lines of two scripts have the same meaning
abbrev pub LinesHaveSameMeaning : Script → Script → Type 0
LinesHaveSameMeaning script script' = lines_meaning script ≡ lines_meaning script'

-- what is said after a line
abbrev meaning_with : LinesMeaning → LineMeaning → LinesMeaning
meaning_with said (MeterMeaning line) = record said { meter = Some line }
meaning_with said (LimiterTold line) = record said { limiter = Some line }
meaning_with said (RegionMeaning line) = record said { region = Some line }
meaning_with said (ReserveMeaning slots) = record said { reserve = Some slots }
meaning_with said (TenantMeaning tenant) = record said {
  earlier = said.earlier ++ (record { tenant = said.tenant; calls = said.calls }) ∷ [];
  tenant = tenant;
  calls = [];
}
meaning_with said (CallTold call) = record said { calls = said.calls ++ call ∷ [] }

-- what is said after words
pub meaning_after : LineWords → LinesMeaning → LinesMeaning
meaning_after words said = option_map_or (meaning_with said) (line_named (drop 1 words) (word_at words 0)) said

-- a line leads from what is said before it to what is said after it
line_added : (old : Script) (line : Line) (new : Script) → AddsLine old line new
    → lines_meaning new ≡ meaning_with (lines_meaning old) (line_meaning line)
line_added old (As tenant) new a =
    let part : TenantRun = record { tenant = old.parts.tenant; calls = old.parts.calls } in
    let said = meaning_of old.header (record { earlier = []; tenant = tenant; calls = [] }) in
    (λ i. meaning_of (a.header i) (a.parts i))
    ∙ ap (λ parts. record said { earlier = parts }) (map-append part_meaning old.parts.earlier (part ∷ []))
line_added old (Command call) new a =
    (λ i. meaning_of (a.header i) (a.parts i))
    ∙ ap (λ calls. record (lines_meaning old) { calls = calls }) (map-append call_meaning old.parts.calls (call ∷ []))
line_added old line new a = λ i. meaning_of (a.header i) (a.parts i)

-- words lead from what is said before them to what is said after them
pub added : (old : Script) (words : LineWords) (new : Script) → AddsWords old words new
    → lines_meaning new ≡ meaning_after words (lines_meaning old)
unfolding meaning_after
added old words new (inl a) = rw (a.0, a.1)
added old words new (inr (line, names, adds)) =
    rw (line_is (drop 1 words) (word_at words 0) line names) (line_added old line new adds)
