-- The making and the growth of a table, by what was tested on the way or under a reference to a limiter, and the sizes
-- and types of tables.
use Rattle.std.proofs.Common.{◌≡◌, ℕ, ◌+◌, true, Option, Some, None, Result, Ok, List, ◌++◌, length, replicate, refl, ap, arith, length-append}
use Rattle.wasmi_store.proofs.Common.{cond-true, length-replicate, CustomFuelCosts, TableError, GrowOutOfBounds, Question, Answer, Rules, KeepsLoan, optional_rules, Meter, due, TableTypeValue, is_indexable, is_within_maximum, same_type, TableValue, size_of, element_price, GrowsTableCharging, IsAsked, metered_value}
use Rattle.wasmi_types.specs.declared.value.RefType.{RefType}
use Rattle.wasmi_types.specs.declared.value.RefType.TheVariants.{Func, Extern}
use Rattle.wasmi_typed.specs.declared.typed_ref.TypedRawRef.{TypedRawRef}
use Rattle.std.specs.Borrow.{MutBor}
use Rattle.wasmi_meter.specs.declared.limiter.Kind.TheVariants.{Elements}
use Rattle.wasmi_meter.specs.declared.limiter.LimiterRef.{LimiterRef}
use Rattle.wasmi_meter.specs.Limiter.{lent_limiter, lent_rules}
use Rattle.wasmi_store.specs.Table.{IsSized, creation_of, growth_of, table_growth}
use Rattle.wasmi_store.proofs.GrowthLemmas.{permitted_by, growing, PermitsGrowth, on_test, on_test_too}
use Rattle.wasmi_store.proofs.GrowthLemmas as any

-- a reference type, as that of a table's elements, is the same as itself
pub same_as_itself : (ty : RefType) → same_type ty ty ≡ true
same_as_itself Func = refl
same_as_itself Extern = refl

-- a table that has grown has as many elements as its type allows
pub sized_grown : (ty : TableTypeValue) (xs ys : List ℕ) (n desired reference : ℕ) → IsSized ty (length xs)
    → (is_indexable ty (length xs + n) ≡ true) × (desired ≡ length xs + n) → is_within_maximum ty desired ≡ true
    → ys ≡ xs ++ replicate n reference → IsSized ty (length ys)
sized_grown ty xs ys n desired reference sized found within grown =
    let size : length ys ≡ length xs + n =
    rw (grown, length-append xs (replicate n reference), length-replicate {A = ℕ} n reference) refl in
    rw size (record {
      minimum = omega (arith, sized.minimum);
      indexable = found.0;
      within = rw found.1 at within;
    })

-- the making of a table of the type of its elements asks for its sizes, whatever may refuse it
pub making_asked : (ty : TableTypeValue) (init : RefType) {refuses : TableError → Type 0}
    → same_type ty.element init ≡ true → (size : ℕ) → size ≡ ty.minimum → (maximum : Option ℕ) → maximum ≡ ty.maximum
    → IsAsked (record (creation_of ty init) { refuses = refuses })
    (record { kind = Elements; current = 0; desired = size; maximum = maximum })
making_asked ty init same size sized maximum most =
    record { early = cond-true _ _ _ same; question_is = rw (sized, most) refl }

-- ---- growths

module _ (x : TableValue) (n reference : ℕ) {size desired : ℕ} {maximum : Option ℕ} (sized : size ≡ size_of x)
    (found : (is_indexable x.ty (size + n) ≡ true) × (desired ≡ size + n)) (most : maximum ≡ x.ty.maximum) where
  -- a growth up to what can be indexed asks for its sizes, whatever may refuse it
  pub growth_asked : {refuses : TableError → Type 0}
      → IsAsked (record (growth_of x n reference) { refuses = refuses })
      (record { kind = Elements; current = size; desired = desired; maximum = maximum })
  growth_asked =
      record { early = cond-true _ _ _ (rw sized at found.0); question_is = rw (rw sized at found.1, sized, most) refl }

-- a table's growth is permitted where its sizes are asked for and the limiter says yes
pub growth_permitted : {S : Type 0} (rules : Rules S) (x : TableValue) (m : Meter) (n reference : ℕ)
    {question : Question} {l p : S} {answer : Answer} (some : n ≡ 0 → ⊥) → IsAsked (growth_of x n reference) question
    → answer ≡ Ok true → rules.asked l question answer p → PermitsGrowth
    (growing rules (table_growth n reference) x m l some) p (is_within_maximum x.ty question.desired) GrowOutOfBounds
    (due m (element_price n))
growth_permitted rules x m n reference {question} some asked says asks = record {
  permits = permitted_by rules (growth_of x n reference) question asked _ _ (rw says at asks);
  late = rw asked.question_is refl;
  due = refl;
}

-- a table's growth by a typed reference with a meter that is off is one without a meter
pub grows_unmetered : {S : Type 0} (rules : Rules S) (n : ℕ) (init : TypedRawRef) (x x' : TableValue) (l l' : S)
    (costs : CustomFuelCosts) (m' : Option Meter) (result : Result ℕ TableError) (charge : ℕ)
    → GrowsTableCharging rules n init
    (record { value = x; meter = let m : Meter = record { left = None; costs = costs } in Some m; limiter = l })
    result charge (record { value = x'; meter = m'; limiter = l' })
    → GrowsTableCharging rules n init (record { value = x; meter = None; limiter = l }) result charge
    (record { value = x'; meter = None; limiter = l' })
grows_unmetered rules n init x x' l l' costs m' result charge =
    let s' = metered_value x' m' l' in
    on_test_too (same_type x.ty.element init.ty) _ _ _ _
    (any.grows_unmetered rules n (size_of x) (growth_of x n init.raw) (element_price n) x l costs s')
    (λ refused. (refused.0, refused.1, ap (λ s. metered_value s.value None s.limiter) refused.2))

-- a table's growth by a typed reference under a reference to a limiter is one under the limiter, and keeps the loan
pub grows_lent : {L : Type 0} (rules : Rules L) (r r' : LimiterRef (MutBor L)) (x x' : TableValue) (m m' : Option Meter)
    (n : ℕ) (init : TypedRawRef) (result : Result ℕ TableError) (charge : ℕ)
    → GrowsTableCharging (optional_rules (lent_rules rules)) n init (metered_value x m (Some r)) result charge
    (metered_value x' m' (Some r'))
    → KeepsLoan r r'
    × GrowsTableCharging (optional_rules rules) n init (metered_value x m (lent_limiter r)) result charge
    (metered_value x' m' (lent_limiter r'))
grows_lent rules r r' x x' m m' n init result charge grows =
    let raw = any.grows_lent rules r r' x x' m m' (table_growth n init.raw x) result charge in
    let same = any.same_lent rules r r' x x' m m' in (
      on_test (same_type x.ty.element init.ty) _ _ grows (λ grown. (raw grown).0) (λ refused. (same refused.2).0),
      on_test_too (same_type x.ty.element init.ty) _ _ _ _ (λ grown. (raw grown).1)
          (λ refused. (refused.0, refused.1, (same refused.2).1)) grows,
    )
