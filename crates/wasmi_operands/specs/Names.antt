-- Lists of names and what a name stands for; the words of types, mutability, references, a limiter's answers, and
-- instructions, also those on a lane; and the words of the lanes of a shuffle.
use Rattle.std.specs.Prelude.{◌≡◌, ℕ, List, [], ◌∷◌, Option, None, Some, cond, bytes_eq, codes, length}
use Rattle.wasmi_types.specs.declared.{index_ty.IndexType.IndexType, value.RefType.RefType, value.ValType.ValType}
use Rattle.wasmi_types.specs.declared.value.RefType.TheVariants.{Func, Extern}
use Rattle.wasmi_types.specs.declared.value.ValType.TheVariants.{I32, I64, F32, F64, V128, FuncRef, ExternRef}
use Rattle.wasmi_typed.specs.declared.{global.Mutability.Mutability, typed_ref.TypedRawRef.TypedRawRef}
use Rattle.wasmi_typed.specs.declared.global.Mutability.TheVariants.{Const, Var}
use Rattle.wasmi_operands.specs.LineWords.{WritesNumber, LineWords, WritesEach}
use Rattle.wasmi_meter.specs.declared.answer_list.LimiterAnswer.{LimiterAnswer}
use Rattle.wasmi_meter.specs.declared.answer_list.LimiterAnswer.TheVariants.{Permit, Deny, Error, Complain}
use Rattle.wasmi_types.specs.declared.index_ty.IndexType.TheVariants as index

-- an entry of a list: a name, and what it names
abbrev pub NameEntry : Type 0 → Type 0
NameEntry A = List ℕ × A

-- what a list of names has beside the first place of a name
abbrev pub entry_of : {A : Type 0} → List (NameEntry A) → List ℕ → Option A
entry_of [] name = None
entry_of (entry ∷ entries) name = cond (bytes_eq entry.0 name) (Some entry.1) (entry_of entries name)

-- a list gives a name this op
unfoldable pub IsNamed : {A : Type 0} → List (NameEntry A) → List ℕ → A → Type 0
IsNamed names name op = entry_of names name ≡ Some op

-- a word is the name of this op
unfoldable pub IsName : {A : Type 0} → (A → List ℕ) → List ℕ → A → Type 0
IsName name_of word op = word ≡ name_of op

-- the word of an address type: the bits of an address or of an index
abbrev pub width_word : IndexType → List ℕ
width_word index.I32 = codes "32"
width_word index.I64 = codes "64"

-- the word of a reference type
abbrev pub reference_word : RefType → List ℕ
reference_word Func = codes "func"
reference_word Extern = codes "extern"

-- the word of a mutability: whether a global can be written
abbrev pub mutability_word : Mutability → List ℕ
mutability_word Const = codes "const"
mutability_word Var = codes "var"

-- two words write a reference: its type, and a number of 32 bits
abbrev pub WritesReference : List ℕ → List ℕ → TypedRawRef → Type 0
WritesReference ty raw reference = (ty ≡ reference_word reference.ty) × WritesNumber 32 raw reference.raw

-- the word of a value type
abbrev pub value_word : ValType → List ℕ
value_word I32 = codes "i32"
value_word I64 = codes "i64"
value_word F32 = codes "f32"
value_word F64 = codes "f64"
value_word V128 = codes "v128"
value_word FuncRef = codes "funcref"
value_word ExternRef = codes "externref"

-- the word that stands for a limiter's answer
abbrev pub answer_text : LimiterAnswer → List ℕ
answer_text Permit = codes "permit"
answer_text Deny = codes "deny"
answer_text Error = codes "error"
answer_text Complain = codes "complain"

-- the word stands for this answer of a limiter
abbrev pub WritesAnswer : List ℕ → LimiterAnswer → Type 0
WritesAnswer word answer = word ≡ answer_text answer

-- two words are a name and an index, and the instruction is the one of this name on the lane of this index
unfoldable pub NamesLane : {Kind Op : Type 0} → (Kind → List ℕ) → (Kind → ℕ → Option Op) → List ℕ → List ℕ → Op → Type 0
NamesLane {Kind} name_of op_on name lane op =
    (kind : Kind) × (index : ℕ) × IsName name_of name kind × WritesNumber 8 lane index × (op_on kind index ≡ Some op)

-- sixteen words write the lanes of a shuffle, of which there are 32 to choose from
pub record WritesLanes (words : LineWords) (lanes : List ℕ) : Type 0 where
  pub sixteen : length words ≡ 16
  pub written : WritesEach (WritesNumber 5) words lanes
