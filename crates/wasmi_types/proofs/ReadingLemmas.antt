-- What is known of an iterator in the midst of reading it; the readings of parameters and results, put together to that
-- of a function type or to its refusal.
use Rattle.std.proofs.Common.{◌≡◌, ℕ, ◌+◌, ◌<◌, List, [], ◌++◌, length, inl, inr, ap, arith, length-append, take, drop, Ok, ◌≤◌, ◌∷◌, refl, append_assoc}
use Rattle.std.specs.Prelude.{Option, Some}
use lib.Seq.{take-append_seam, drop-append_seam}
use Rattle.wasmi_types.specs.declared.{value.ValType.ValType, func_type.FuncTypeError.FuncTypeError}
use Rattle.wasmi_types.specs.declared.func_type.FuncTypeError.TheVariants.{TooManyFunctionResults}
use Rattle.wasmi_types.specs.FunctionType.{FunctionType}
use Rattle.wasmi_types.specs.Reading.{ReadsAll, IsReading, ReadsSome, IsOutOfMemory, IsRefusal, ReadsTypes, IsReadingRefusal, IsReadingOutOfMemory}
use Rattle.std.specs.Iterator.{Yields}

-- types that were read to the end were read
some_from_all : {I : Type 0} {steps : I → Option ValType → I → Type 0} {s t : I} {xs : List ValType}
    → ReadsAll 1000 steps s xs t → ReadsSome steps s xs t
some_from_all e = record { run = inr e.run; short = omega (arith, e.short) }

module _ {P R : Type 0} {of_params : P → Option ValType → P → Type 0} {of_results : R → Option ValType → R → Type 0}
    {p p' : P} {r r' : R} {n : ℕ} {before entries : List ValType} where
  -- memory was refused after all parameters and some results
  refused_memory : before ≡ [] → ReadsTypes of_params p before n p' entries → (types : List ValType)
      → ReadsSome of_results r types r' → 21 < length entries + length types
      → IsOutOfMemory of_params of_results p r p' r'
  refused_memory none first types second many = record {
    params = first.types;
    results = types;
    params_read = some_from_all first.read;
    results_read = second;
    in_order = inl first.read;
    many = rw (first.kept, none) at many;
  }

  -- where the parameters were read and the results refused, the function type is refused
  pub refused_results : {error : FuncTypeError} → before ≡ [] → ReadsTypes of_params p before n p' entries
      → IsReadingRefusal of_results TooManyFunctionResults r entries error r'
      → IsRefusal of_params of_results p r error p' r'
  refused_results none first (inl e) = rw e.0 ((first.types, first.read), e.1)
  refused_results none first (inr e) = rw e.0 (refused_memory none first e.1.types e.1.read e.1.many)

  -- memory was refused after all of both
  pub refused_end : {m : ℕ} {all : List ValType} → before ≡ [] → ReadsTypes of_params p before n p' entries
      → ReadsTypes of_results r entries m r' all → 21 < length all → IsOutOfMemory of_params of_results p r p' r'
  refused_end none first second many = refused_memory none first second.types (some_from_all second.read)
      (omega (arith, many, ap length second.kept, length-append entries second.types))

  -- the function type of all entries is what both gave
  pub read_end : {m : ℕ} {all : List ValType} {ty : FunctionType} → before ≡ []
      → ReadsTypes of_params p before n p' entries → ReadsTypes of_results r entries m r' all
      → ty.params ≡ take n all → ty.results ≡ drop n all → IsReading of_params of_results p r (Ok ty) p' r'
  read_end none first second params results =
      rw (params, results, second.kept, first.kept, none, first.counted, take-append_seam, drop-append_seam)
      (first.read, second.read)

-- after the items that calls of an iterator gave, one more call gave x
pub Yields-snoc : {I A : Type 0} (steps : I → Option A → I → Type 0) (s t u : I) (xs : List A) (x : A)
    → Yields steps s xs t → steps t (Some x) u → Yields steps s (xs ++ x ∷ []) u
Yields-snoc steps s t u [] x run next = (u, rw run next, refl)
Yields-snoc steps s t u (y ∷ ys) x run next = (run.0, run.1, Yields-snoc steps run.0 t u ys x run.2 next)

-- calls from s to t gave n items, which follow those before in `after`, and t may be called
pub record SoFar {I A : Type 0} (steps : I → Option A → I → Type 0) (can : I → Type 0) (s : I) (before : List A) (n : ℕ)
    (t : I) (after : List A) : Type 0 where
  pub items : List A
  pub run : Yields steps s items t
  pub kept : after ≡ before ++ items
  pub counted : n ≡ length items
  pub callable : can t

-- in the midst of reading, one more item was appended
pub SoFar-next : {I A : Type 0} {steps : I → Option A → I → Type 0} {can : I → Type 0} {s t u : I}
    {before after more : List A} {n : ℕ}
    → SoFar steps can s before n t after → (x : A) → steps t (Some x) u → more ≡ after ++ x ∷ [] → can u
    → SoFar steps can s before (n + 1) u more
SoFar-next {steps = steps} {s = s} {t = t} {u = u} {before = before} e x next appended callable = record {
  items = e.items ++ x ∷ [];
  run = Yields-snoc steps s t u e.items x e.run next;
  kept = rw (appended, e.kept, append_assoc);
  counted = omega (arith, e.counted, length-append e.items (x ∷ []));
  callable = callable;
}

-- in the midst of reading, memory was refused for one more type
pub SoFar-refused : {I : Type 0} {steps : I → Option ValType → I → Type 0} {can : I → Type 0} {s t u : I}
    {before after : List ValType} {n : ℕ}
    → SoFar steps can s before n t after → n < 1000 → (x : ValType) → steps t (Some x) u → 21 ≤ length after
    → IsReadingOutOfMemory steps s before u
SoFar-refused {steps = steps} {s = s} {t = t} {u = u} {before = before} e few x next many = record {
  types = e.items ++ x ∷ [];
  read = record {
    run = inl (Yields-snoc steps s t u e.items x e.run next);
    short = omega (arith, few, e.counted, length-append e.items (x ∷ []));
  };
  many = omega (arith, many, ap length e.kept, length-append before e.items, length-append e.items (x ∷ []));
}
