-- The text of a reply, of its head and of its bytes, the text of a wording and its numbers, and the text of an error.
use Rattle.std.specs.Prelude.{ℕ, List, [], ◌++◌, codes, flat_map, Option, None, Some, decimal}
use Rattle.wasmi_types.specs.Trap.{code_message}
use Rattle.wasmi_meter.specs.Texts.{fuel_error_text, memory_error_text, table_error_text}
use Rattle.wasmi_typed.specs.Global.{global_error_text}
use Rattle.wasmi_typed.specs.declared.typed_ref.TypedRawRef.{TypedRawRef}
use Rattle.wasmi_store.specs.Segment.{segment_error_text}
use Rattle.wasmi_machine.specs.declared.{calls.Call.Call, calls.Reply.Reply}
use Rattle.wasmi_machine.specs.declared.calls.Call.TheVariants.{NewMemory, NewLentMemory, NewTable, NewData, NewSegment, NewGlobal}
use Rattle.wasmi_script.specs.declared.{error.ReplayError.ReplayError, printing.Wording.Wording}
use Rattle.wasmi_script.specs.declared.error.ReplayError.TheVariants.{Parse, TooLong, ReadFault}
use Rattle.wasmi_grammar.specs.declared.error.ParseError.TheVariants.{BadCommand, OutOfMemory}
use Rattle.wasmi_operands.specs.Names.{reference_word}
use Rattle.wasmi_machine.specs.declared.calls.Reply.TheVariants as reply

-- the word for what a call makes; only creations make anything
abbrev pub kind_text : Call → List ℕ
kind_text (NewMemory ty) = codes "memory"
kind_text (NewLentMemory ty) = codes "memory"
kind_text (NewTable ty init) = codes "table"
kind_text (NewSegment ty items) = codes "segment"
kind_text (NewData bytes) = codes "data"
kind_text (NewGlobal value ty) = codes "global"
kind_text call = codes "nothing"

-- a space and a number for each byte
abbrev pub bytes_text : List ℕ → List ℕ
bytes_text bytes = flat_map (λ byte. codes " " ++ decimal byte) bytes

-- an element of a table, or that there is none
abbrev pub element_text : Option TypedRawRef → List ℕ
element_text None = codes "none"
element_text (Some reference) = reference_word reference.ty ++ (codes " " ++ decimal reference.raw)

-- the reply to a call, but for the numbers of its bytes
abbrev pub head_text : Call → Reply → List ℕ
head_text call reply.Done = codes "done"
head_text call (reply.Made index) = kind_text call ++ (codes " " ++ decimal index)
head_text call (reply.Value value) = codes "raw " ++ (decimal value.lo ++ (codes " " ++ decimal value.hi))
head_text call (reply.Number number) = codes "value " ++ decimal number
head_text call (reply.Bytes bytes) = codes "bytes"
head_text call (reply.Reference element) = element_text element
head_text call (reply.Memory error) = codes "error " ++ memory_error_text error
head_text call (reply.Table error) = codes "error " ++ table_error_text error
head_text call (reply.Fuel error) = codes "error " ++ fuel_error_text error
head_text call (reply.Global error) = codes "error " ++ global_error_text error
head_text call (reply.Segment error) = codes "error " ++ segment_error_text error
head_text call (reply.Trap code) = codes "error " ++ code_message code
head_text call reply.NoSuch = codes "no such"
head_text call reply.NoRegion = codes "no region"
head_text call reply.NoRoom = codes "no room"

-- the bytes that a reply tells
abbrev pub bytes_in : Reply → List ℕ
bytes_in (reply.Bytes bytes) = bytes
bytes_in reply = []

-- the reply to a call: its head, and a number for each byte that it tells
abbrev pub reply_text : Call → Reply → List ℕ
reply_text call reply = head_text call reply ++ bytes_text (bytes_in reply)

-- why a script isn't run
abbrev pub error_text : ReplayError → List ℕ
error_text (Parse (BadCommand line)) = codes "line " ++ (decimal line ++ codes ": bad command")
error_text (Parse OutOfMemory) = codes "out of memory"
error_text TooLong = codes "script too long"
error_text ReadFault = codes "read fault"

-- the text of a number of a wording, if there is one, after what stands before it
abbrev pub number_text : List ℕ → Option ℕ → List ℕ
number_text before None = []
number_text before (Some number) = before ++ decimal number

-- the words of a wording, and then its numbers, the second after a space
abbrev pub wording_text : Wording → List ℕ
wording_text wording =
    wording.start.now ++ (wording.words.now ++ (number_text [] wording.first ++ number_text (codes " ") wording.second))
