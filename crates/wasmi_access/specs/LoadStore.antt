-- Loads and stores of little-endian numbers in a linear memory, which is a list of bytes.
-- An address is the unbounded sum of a pointer and an offset.
use Rattle.std.specs.Prelude.{◌≡◌, ℕ, ◌+◌, ◌^◌, nat_lt, if◌then◌else◌, List, take, drop, Option, Some, None, Result, Ok, Err, MatchResult}
use Rattle.wasmi_types.specs.declared.trap.TrapCode.{TrapCode}
use Rattle.wasmi_types.specs.declared.trap.TrapCode.TheVariants.{MemoryOutOfBounds}
use Rattle.wasmi_types.specs.Numbers.{number_of}
use Rattle.wasmi_types.specs.Access.{at, overwrite}

-- an access at the address a, which is what is found there; none where a is 2 ^ 64 or more
abbrev pub accessed : {X : Type 0} → ℕ → Option X → Option X
accessed a found = if nat_lt a (2 ^ 64) then found else None

-- the value that the number of the bytes stands for, or the trap where there are none
abbrev pub value_of_bytes : {V : Type 0} → (ℕ → V) → Option (List ℕ) → Result V TrapCode
value_of_bytes value (Some bytes) = Ok (value (number_of bytes))
value_of_bytes value None = Err MemoryOutOfBounds

-- what a load of n bytes at a gives
abbrev pub loaded : {V : Type 0} → ℕ → (ℕ → V) → List ℕ → ℕ → Result V TrapCode
loaded n value memory a = value_of_bytes value (accessed a (at memory a n))

-- a load, or another instruction that may trap, gives this, where `number` reads its value
abbrev pub GivesNumber : {V N : Type 0} → (V → N) → Result V TrapCode → Result N TrapCode → Type 0
GivesNumber number result expected =
    MatchResult result (λ value. expected ≡ Ok (number value)) (λ trap. expected ≡ Err trap)

-- a store of ys at a: the memory has them there, or the store traps and the memory is the same
abbrev pub IsStore : {V : Type 0} → List ℕ → ℕ → List ℕ → List ℕ → Result V TrapCode → Type 0
IsStore old a ys new result = MatchResult result
    (λ _. accessed a (overwrite old a ys) ≡ Some new)
    (λ trap. (trap ≡ MemoryOutOfBounds) × (accessed a (overwrite old a ys) ≡ None) × (new ≡ old))

-- the n bytes into which a load copies the memory at a: they are those, or the load traps and they are the same
abbrev pub IsCopy : List ℕ → ℕ → ℕ → List ℕ → List ℕ → Result (Unit {0}) TrapCode → Type 0
IsCopy memory a n old new result = MatchResult result (λ _. accessed a (at memory a n) ≡ Some new)
    (λ trap. (trap ≡ MemoryOutOfBounds) × (accessed a (at memory a n) ≡ None) × (new ≡ old))

-- after a store, the bytes before a and those from a + n on are the same
abbrev pub IsSameOutside : List ℕ → List ℕ → ℕ → ℕ → Type 0
IsSameOutside old new a n = (take a new ≡ take a old) × (drop (a + n) new ≡ drop (a + n) old)
