-- Global variables: how one is set, what lends its value, and the texts of their errors.
use Rattle.std.specs.Prelude.{◌≡◌, ◌≢◌, Result, Ok, Err, ℕ, List, codes}
use Rattle.std.specs.Borrow.{Lends, MutBor, Fml}
use Rattle.wasmi_raw.specs.declared.raw.RawVal.{RawVal}
use Rattle.wasmi_raw.specs.contracts.raw.RawVal as raw
use Rattle.wasmi_typed.specs.declared.{typed.TypedRawVal.TypedRawVal, global.Global.Global, global.GlobalError.GlobalError}
use Rattle.wasmi_typed.specs.declared.global.GlobalError.TheVariants.{ImmutableWrite, TypeMismatch}
use Rattle.wasmi_typed.specs.declared.global.Mutability.TheVariants.{Const, Var}
use Rattle.wasmi_typed.specs.contracts.global.Global.{the_row}

-- a global variable: its present value and its type
abbrev pub GlobalInstance : Type 0
GlobalInstance = Global

-- the global variable with another value
abbrev pub with_value : GlobalInstance → RawVal → GlobalInstance
with_value global value = record global { value = value }

-- a global variable is set, unless it is a constant or the value is of another type, in this order
abbrev pub SetsGlobal : GlobalInstance → TypedRawVal → Result (Unit {0}) GlobalError → GlobalInstance → Type 0
SetsGlobal global value (Ok _) global' =
    (global.ty.mutability ≡ Var) × (global.ty.content ≡ value.ty) × (global' ≡ with_value global value.raw)
SetsGlobal global value (Err ImmutableWrite) global' = (global.ty.mutability ≡ Const) × (global' ≡ global)
SetsGlobal global value (Err TypeMismatch) global' =
    (global.ty.mutability ≡ Var) × (global.ty.content ≢ value.ty) × (global' ≡ global)

-- the global variable ends with the last value behind r
abbrev pub LendsValue : MutBor GlobalInstance → MutBor RawVal → Fml
LendsValue global r = Lends the_row raw.the_row global r (with_value global.now)

-- the text of an error of a global variable
abbrev pub global_error_text : GlobalError → List ℕ
global_error_text ImmutableWrite = codes "tried to write to immutable global variable"
global_error_text TypeMismatch = codes "tried to write value of non-matching type to global variable"
