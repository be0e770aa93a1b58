-- A text as a line, and what of a text reaches a writer by a printer, or the front of bytes.
use Rattle.std.specs.Prelude.{◌≡◌, ◌<◌, ℕ, List, ◌++◌, codes, length, IfSome, OnOk, OnErr, Result, Ok, Err, Option, ◌-◌, ◌^◌, take, drop, min}
use Rattle.std.specs.Io.KnownBytes.{Appends}
use Rattle.wasmi_script.specs.declared.printing.Printer.{Printer}
use Rattle.wasmi_script.specs.declared.printing.TheConstants.{LONGEST}

-- a text as a line
abbrev pub line : List ℕ → List ℕ
line text = text ++ codes "\n"

-- a text, where it is known, that may be printed at once
abbrev pub IsShort : Option (List ℕ) → Type 0
IsShort output = IfSome output (λ text. length text < LONGEST)

-- known bytes grow by the front of a text, up to some place in it
abbrev pub AppendsFront : Option (List ℕ) → Option (List ℕ) → List ℕ → Type 0
AppendsFront old new text = (front : List ℕ) × (rest : List ℕ) × (text ≡ front ++ rest) × Appends old new front

-- a text comes after what waits: known bytes grow by the front of both, and the rest waits
abbrev pub AddsText : Option (List ℕ) → Option (List ℕ) → List ℕ → List ℕ → List ℕ → Type 0
AddsText old new waiting waiting' text =
    (front : List ℕ) × (waiting ++ text ≡ front ++ waiting') × Appends old new front

-- A printer before and after a text is printed, by the bytes that its writer is known to have: it keeps its writer,
-- and the text comes after what waits.
pub record Prints {W : Type 0} (contents : W → Option (List ℕ)) (old new : Printer W) (text : List ℕ) : Type 0 where
  pub writer : new.writer.ghost_name ≡ old.writer.ghost_name
  pub passed : AddsText (contents old.writer.now) (contents new.writer.now) old.chunk.bytes new.chunk.bytes text

-- a text is printed in part: the writer gets the front of what waits and of the text
pub record PrintsFront {W : Type 0} (contents : W → Option (List ℕ)) (old new : Printer W)
    (text : List ℕ) : Type 0 where
  pub writer : new.writer.ghost_name ≡ old.writer.ghost_name
  pub sent : AppendsFront (contents old.writer.now) (contents new.writer.now) (old.chunk.bytes ++ text)

-- a text is printed, or in part where the writer fails
abbrev pub PrintsText : {W E : Type 0} → (W → Option (List ℕ)) → List ℕ → Printer W → Result (Unit {0}) E → Printer W
    → Type 0
PrintsText contents text old result new =
    OnOk result (Prints contents old new text) × OnErr result (PrintsFront contents old new text)

-- what waits is out
pub record Sends {W : Type 0} (contents : W → Option (List ℕ)) (old new : Printer W) : Type 0 where
  pub writer : new.writer.ghost_name ≡ old.writer.ghost_name
  pub sent : Appends (contents old.writer.now) (contents new.writer.now) old.chunk.bytes

-- a front of what waits is out
pub record SendsFront {W : Type 0} (contents : W → Option (List ℕ)) (old new : Printer W) : Type 0 where
  pub writer : new.writer.ghost_name ≡ old.writer.ghost_name
  pub sent : AppendsFront (contents old.writer.now) (contents new.writer.now) old.chunk.bytes

-- what waits is out if all texts were printed, or a front of it where the writer fails; else nothing more goes out
abbrev pub Flushes : {W E : Type 0} → (W → Option (List ℕ)) → Result (Unit {0}) E → Printer W → Result (Unit {0}) E
    → Printer W → Type 0
Flushes contents (Ok x) old (Ok y) new = Sends contents old new
Flushes contents (Ok x) old (Err e) new = SendsFront contents old new
Flushes contents (Err e) old (Ok y) new = ⊥
Flushes contents (Err e) old (Err e') new = new ≡ old

-- as much of a text as fits stands at the front of bytes, and those after it stay
abbrev pub FillsFront : List ℕ → List ℕ → List ℕ → Type 0
FillsFront text old new = new ≡ take (length old) text ++ drop (length text) old

-- as much of a text as fits stands at the front of bytes, which are else as they were at the start, and a number is the
-- text's length, or 2^64 - 1 if it is longer
pub record HasFront (text start bytes : List ℕ) (written : ℕ) : Type 0 where
  pub front : FillsFront text start bytes
  pub count : written ≡ min (length text) (2 ^ 64 - 1)

-- One text more is written to the front of bytes: whatever text was there before and whatever the bytes were at the
-- start, that text followed by this one is there afterwards.
abbrev pub AddsToFront : List ℕ → List ℕ → ℕ → List ℕ → ℕ → Type 0
AddsToFront text bytes written bytes' written' = (before start : List ℕ) → HasFront before start bytes written
    → HasFront (before ++ text) start bytes' written'
