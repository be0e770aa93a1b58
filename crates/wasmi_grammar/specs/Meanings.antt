-- What a script says, however its lists are held, and the laws of texts: the script that a text writes says one thing,
-- and a text has one first bad line or none.
use Rattle.std.specs.Prelude.{◌≡◌, ℕ, List, Option, map, option_map}
use Rattle.wasmi_types.specs.declared.value.RefType.{RefType}
use Rattle.wasmi_machine.specs.declared.{calls.Call.Call, slots.SlotCounts.SlotCounts}
use Rattle.wasmi_machine.specs.declared.calls.Call.TheVariants.{Write, NewData, NewSegment}
use Rattle.wasmi_grammar.specs.declared.{script.Script.Script, header.MeterLine.MeterLine, header.RegionLine.RegionLine, header.LimiterLine.LimiterLine}
use Rattle.wasmi_grammar.specs.declared.header.LimiterLine.TheVariants.{Answers}
use Rattle.wasmi_meter.specs.declared.answer_list.LimiterAnswer.{LimiterAnswer}
use Rattle.wasmi_grammar.specs.Lines.{WritesScript, IsFirstBadLine}
use Rattle.wasmi_grammar.specs.Parts.{TenantRun, parts_in}

-- a call, with its bytes or its items as a list
pub data CallMeaning : Type 0 where
  WriteMeaning : ℕ → ℕ → List ℕ → CallMeaning
  SegmentMeaning : RefType → List ℕ → CallMeaning
  DataMeaning : List ℕ → CallMeaning
  OtherCall : Call → CallMeaning

-- what a call says
abbrev pub call_meaning : Call → CallMeaning
call_meaning (Write memory offset bytes) = WriteMeaning memory offset bytes.items
call_meaning (NewSegment ty items) = SegmentMeaning ty items.items
call_meaning (NewData bytes) = DataMeaning bytes.items
call_meaning call = OtherCall call

-- a limiter line, with its answers as a list
pub data LimiterMeaning : Type 0 where
  AnswersMeaning : List LimiterAnswer → LimiterMeaning
  OtherLimiter : LimiterLine → LimiterMeaning

-- what a limiter line says
abbrev pub limiter_meaning : LimiterLine → LimiterMeaning
limiter_meaning (Answers answers) = AnswersMeaning answers.items
limiter_meaning line = OtherLimiter line

-- a part: its tenant and its calls
pub record PartMeaning : Type 0 where
  pub tenant : ℕ
  pub calls : List CallMeaning

-- what a part says
abbrev pub part_meaning : TenantRun → PartMeaning
part_meaning part = record { tenant = part.tenant; calls = map call_meaning part.calls }

-- a script: its header lines and its parts
pub record ScriptMeaning : Type 0 where
  pub meter : Option MeterLine
  pub limiter : Option LimiterMeaning
  pub region : Option RegionLine
  pub reserve : Option SlotCounts
  pub parts : List PartMeaning

-- what a script says
abbrev pub script_meaning : Script → ScriptMeaning
script_meaning script = record {
  meter = script.header.meter;
  limiter = option_map limiter_meaning script.header.limiter_line;
  region = script.header.region;
  reserve = script.header.reserve;
  parts = map part_meaning (parts_in script.parts);
}

-- two scripts say the same
abbrev pub HaveSameMeaning : Script → Script → Type 0
HaveSameMeaning script script' = script_meaning script ≡ script_meaning script'

-- two scripts that one text writes say the same
abbrev pub TextsWriteOneScript : Type 0
TextsWriteOneScript = (text : List ℕ) (script script' : Script) → WritesScript text script → WritesScript text script'
    → HaveSameMeaning script script'

-- the first bad line of a text is one number
abbrev pub FirstBadLinesAreOne : Type 0
FirstBadLinesAreOne = (text : List ℕ) (number number' : ℕ) → IsFirstBadLine text number → IsFirstBadLine text number'
    → number ≡ number'

-- a text that writes a script has no bad line
abbrev pub WrittenTextsHaveNoBadLine : Type 0
WrittenTextsHaveNoBadLine =
    (text : List ℕ) (script : Script) (number : ℕ) → WritesScript text script → ¬ (IsFirstBadLine text number)
