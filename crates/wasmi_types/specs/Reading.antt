-- How a function type is read of two iterators, each to its end or past the greatest number of items that are taken;
-- why none is read: there are too many, or memory is refused.
use Rattle.std.specs.Prelude.{◌≡◌, ℕ, ◌≤◌, List, length, Option, Some, None, ◌⊎◌, ◌+◌, ◌<◌, Bool, true, false, [], ◌∷◌, ◌++◌, Result, Ok, Err}
use Rattle.std.specs.Iterator.{YieldsThen, Yields}
use Rattle.std.specs.declared.alloc.AllocError.{AllocError}
use Rattle.wasmi_types.specs.declared.{value.ValType.ValType, func_type.FuncTypeError.FuncTypeError}
use Rattle.wasmi_types.specs.declared.func_type.FuncTypeError.TheVariants.{TooManyFunctionParams, TooManyFunctionResults, OutOfMemory}
use Rattle.wasmi_types.specs.FunctionType.{FunctionType}

-- a fact holds of every iterator that a value becomes
abbrev pub EachBecomes : {X I : Type 0} → (X → I → Type 0) → X → (I → Type 0) → Type 0
EachBecomes {X} {I} becomes x Fact = (it : I) → becomes x it → Fact it

-- calls from s to t gave the items xs, at most so many, and then the end
pub record ReadsAll {I A : Type 0} (most : ℕ) (steps : I → Option A → I → Type 0) (s : I) (xs : List A) (t : I) : Type 0
  where
    pub run : YieldsThen steps s xs None t
    pub short : length xs ≤ most

-- calls from s to t gave so many items and one more
pub record ReadsTooMany {I A : Type 0} (most : ℕ) (steps : I → Option A → I → Type 0) (s t : I) : Type 0 where
  pub items : List A
  pub last : A
  pub run : YieldsThen steps s items (Some last) t
  pub full : length items ≡ most

module _ {I : Type 0} (steps : I → Option ValType → I → Type 0) where
  -- a fact that holds once calls from s gave all types, and then the end
  abbrev pub AfterAll : I → Type 0 → Type 0
  AfterAll s Fact = (types : List ValType) (t : I) → ReadsAll 1000 steps s types t → Fact

  -- calls from s to t gave the types xs, at most 1,000, and then perhaps the end
  pub record ReadsSome (s : I) (xs : List ValType) (t : I) : Type 0 where
    pub run : Yields steps s xs t ⊎ YieldsThen steps s xs None t
    pub short : length xs ≤ 1000

  -- a call from s to t gave a type that was appended, or was refused memory after 21, or gave the end
  abbrev pub ReadsNextType : (I → Type 0) → I → List ValType → Result Bool AllocError → I → List ValType → Type 0
  ReadsNextType can s before (Ok true) t after = (x : ValType) × steps s (Some x) t × (after ≡ before ++ x ∷ []) × can t
  ReadsNextType can s before (Ok false) t after = steps s None t × (after ≡ before)
  ReadsNextType can s before (Err error) t after = (x : ValType) × steps s (Some x) t × (21 ≤ length before)

  -- calls from s to t gave so many types, at most 1,000, and then the end; they follow those before
  pub record ReadsTypes (s : I) (before : List ValType) (count : ℕ) (t : I) (after : List ValType) : Type 0 where
    pub types : List ValType
    pub read : ReadsAll 1000 steps s types t
    pub kept : after ≡ before ++ types
    pub counted : count ≡ length types

  -- memory was refused for types that follow those before
  pub record IsReadingOutOfMemory (s : I) (before : List ValType) (t : I) : Type 0 where
    pub types : List ValType
    pub read : ReadsSome s types t
    pub many : 21 < length before + length types

  -- why the parameters or the results were not read
  abbrev pub IsReadingRefusal : FuncTypeError → I → List ValType → FuncTypeError → I → Type 0
  IsReadingRefusal too_many s before error t =
      ((error ≡ too_many) × ReadsTooMany 1000 steps s t) ⊎ ((error ≡ OutOfMemory) × IsReadingOutOfMemory s before t)

module _ {P R : Type 0} (of_params : P → Option ValType → P → Type 0)
    (of_results : R → Option ValType → R → Type 0) where
  -- memory was refused: the parameters from p to p' and then the results from r to r' were more than 21 together
  pub record IsOutOfMemory (p : P) (r : R) (p' : P) (r' : R) : Type 0 where
    pub params : List ValType
    pub results : List ValType
    pub params_read : ReadsSome of_params p params p'
    pub results_read : ReadsSome of_results r results r'
    pub in_order : ReadsAll 1000 of_params p params p' ⊎ (r' ≡ r)
    pub many : 21 < length params + length results

  -- why no function type was read
  abbrev pub IsRefusal : P → R → FuncTypeError → P → R → Type 0
  IsRefusal p r TooManyFunctionParams p' r' = ReadsTooMany 1000 of_params p p' × (r' ≡ r)
  IsRefusal p r TooManyFunctionResults p' r' =
      ((params : List ValType) × ReadsAll 1000 of_params p params p') × ReadsTooMany 1000 of_results r r'
  IsRefusal p r OutOfMemory p' r' = IsOutOfMemory p r p' r'

  -- the answer after calls from p to p' and from r to r': the function type of all that came, or the refusal
  abbrev pub IsReading : P → R → Result FunctionType FuncTypeError → P → R → Type 0
  IsReading p r (Ok ty) p' r' = ReadsAll 1000 of_params p ty.params p' × ReadsAll 1000 of_results r ty.results r'
  IsReading p r (Err error) p' r' = IsRefusal p r error p' r'

-- the answer after reading the iterators that x and y become
pub record IsReadingOf {X Y P R : Type 0} (params_becomes : X → P → Type 0)
    (of_params : P → Option ValType → P → Type 0)
    (results_becomes : Y → R → Type 0) (of_results : R → Option ValType → R → Type 0) (x : X) (y : Y)
    (answer : Result FunctionType FuncTypeError) : Type 0 where
  pub params_before : P
  pub params_after : P
  pub results_before : R
  pub results_after : R
  pub params_made : params_becomes x params_before
  pub results_made : results_becomes y results_before
  pub reads : IsReading of_params of_results params_before results_before answer params_after results_after
