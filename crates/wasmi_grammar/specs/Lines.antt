-- What a line says and adds to a script, the script that the lines of a text lead to, with the list of all its calls,
-- and the bad lines by which a text isn't parsed.
use Rattle.std.specs.Prelude.{◌≡◌, ◌<◌, ℕ, ◌⊎◌, List, [], ◌∷◌, ◌++◌, Some, None, ◌==◌, codes, drop, map, ◌+◌, ⊤, length, IsUtf8}
use Rattle.std.specs.List.{slice_split}
use Rattle.wasmi_machine.specs.declared.calls.Call.{Call}
use Rattle.wasmi_grammar.specs.declared.{header.Header.Header, script.Line.Line, script.Script.Script, error.ParseError.ParseError}
use Rattle.wasmi_grammar.specs.declared.script.Line.TheVariants.{Meter, Limiter, Region, Reserve, As, Call as Command}
use Rattle.wasmi_operands.specs.LineWords.{LineWords, word_at, words_in}
use Rattle.wasmi_grammar.specs.Parts.{parts_in, calls_in}
use Rattle.wasmi_grammar.specs.Commands.{NamesAfter}
use Rattle.wasmi_grammar.specs.Headers.{WritesMeter, NamesLimiterAfter, WritesRegion, WritesReserve, WritesTenant, AreApart, tenants_of}
use Rattle.wasmi_grammar.specs.declared.error.ParseError.TheVariants.{BadCommand, OutOfMemory}

-- the first word of a line and the words after it say this
abbrev pub NamesLine : List ℕ → LineWords → Line → Type 0
NamesLine name operands (Meter line) = (name ≡ codes "meter") × WritesMeter operands line
NamesLine name operands (Limiter line) = NamesLimiterAfter name operands line
NamesLine name operands (Region line) = (name ≡ codes "region") × WritesRegion operands line
NamesLine name operands (Reserve slots) = (name ≡ codes "reserve") × WritesReserve operands slots
NamesLine name operands (As tenant) = (name ≡ codes "as") × WritesTenant operands tenant
NamesLine name operands (Command call) = NamesAfter name operands call

-- no command was taken yet
pub record HasNoCommands (script : Script) : Type 0 where
  pub no_calls : script.parts.calls ≡ []
  pub no_parts : script.parts.earlier ≡ []

-- a header line, before all commands: the lines before it allow it, and the header has it from then on
pub record AddsHeader (old : Script) (Allowed : Type 0) (header' : Header) (new : Script) : Type 0 where
  pub before_commands : HasNoCommands old
  pub allowed : Allowed
  pub header : new.header ≡ header'
  pub parts : new.parts ≡ old.parts

-- a command, whose call comes after those of the lines before
pub record AddsCall (old : Script) (call : Call) (new : Script) : Type 0 where
  pub parts : new.parts ≡ record old.parts { calls = old.parts.calls ++ call ∷ [] }
  pub header : new.header ≡ old.header

-- an `as` line: the calls before it are a part, and those after it are another tenant's, of whom there is one
pub record AddsPart (old : Script) (named : ℕ) (new : Script) : Type 0 where
  pub there : named < tenants_of old.header.limiter_line
  pub parts : new.parts ≡ record { earlier = parts_in old.parts; tenant = named; calls = [] }
  pub header : new.header ≡ old.header

-- what a line says, added to the lines before: there is one `meter`, one `region` and one `reserve` line at most, one
-- limiter line of any kind, and no region beside a pool
abbrev pub AddsLine : Script → Line → Script → Type 0
AddsLine old (Meter line) new = AddsHeader old (old.header.meter ≡ None) (record old.header { meter = Some line }) new
AddsLine old (Limiter line) new =
    AddsHeader old ((old.header.limiter_line ≡ None) × AreApart (Some line) old.header.region)
    (record old.header { limiter_line = Some line }) new
AddsLine old (Region line) new =
    AddsHeader old ((old.header.region ≡ None) × AreApart old.header.limiter_line (Some line))
    (record old.header { region = Some line }) new
AddsLine old (Reserve slots) new =
    AddsHeader old (old.header.reserve ≡ None) (record old.header { reserve = Some slots }) new
AddsLine old (As tenant) new = AddsPart old tenant new
AddsLine old (Command call) new = AddsCall old call new

-- the words of a line add what they say, and no words add nothing
abbrev pub AddsWords : Script → LineWords → Script → Type 0
AddsWords old words new =
    ((words ≡ []) × (new ≡ old))
    ⊎ ((line : Line) × NamesLine (word_at words 0) (drop 1 words) line × AddsLine old line new)

-- a line of a script: a text, by its words
abbrev pub AcceptsLine : Script → List ℕ → Script → Type 0
AcceptsLine old line new =
    IsUtf8 line × (words : LineWords) × (map (λ word. word.now) words ≡ words_in line) × AddsWords old words new

-- lines taken one after the other
abbrev pub AcceptsLines : List (List ℕ) → Script → Script → Type 0
AcceptsLines [] old new = new ≡ old
AcceptsLines (line ∷ lines) old new = (middle : Script) × AcceptsLine old line middle × AcceptsLines lines middle new

-- the lines of a text, which line feeds separate
unfoldable pub lines_in : List ℕ → List (List ℕ)
lines_in text = slice_split (λ byte. byte == 10) text

-- no line was taken yet
pub record IsNewScript (script : Script) : Type 0 where
  pub no_header : script.header ≡ record { meter = None; limiter_line = None; region = None; reserve = None }
  pub no_commands : script.parts ≡ record { earlier = []; tenant = 0; calls = [] }

-- the lines, taken one after the other from none on, lead to this script
pub record AreTaken (texts : List (List ℕ)) (script : Script) : Type 0 where
  pub empty : Script
  pub is_new : IsNewScript empty
  pub lines : AcceptsLines texts empty script

-- the script that a text writes: what its lines make
abbrev pub WritesScript : List ℕ → Script → Type 0
WritesScript text script = AreTaken (lines_in text) script

-- all calls of a script, in order
abbrev pub calls_of : Script → List Call
calls_of script = calls_in (parts_in script.parts)

-- a line that can't be taken after those before: it is no text, or its words, however they are held, add nothing
abbrev pub IsBadLine : Script → List ℕ → Type 0
IsBadLine script line = (new : Script) → ¬ (AcceptsLine script line new)

-- the lines before this one, counted from 1, are taken, and this one adds nothing to them
pub record IsFirstBadLine (text : List ℕ) (number : ℕ) : Type 0 where
  pub before : List (List ℕ)
  pub bad : List ℕ
  pub after : List (List ℕ)
  pub lines : lines_in text ≡ before ++ bad ∷ after
  pub counted : number ≡ length before + 1
  pub script : Script
  pub taken : AreTaken before script
  pub is_bad : IsBadLine script bad

-- why a text isn't parsed
abbrev pub IsParseError : List ℕ → ParseError → Type 0
IsParseError text (BadCommand number) = IsFirstBadLine text number
IsParseError text OutOfMemory = ⊤
