-- What the implementations of `Eq`, `Ord` and `Hash` for function types name: the test of both lists is an equivalence,
-- answers as the order does and holds of the same alone. One order key is that of one function type.
use Rattle.std.specs.Prelude.{◌≡◌, ℕ, Bool, true, false, ◌&&◌, List, [], ◌∷◌, length, map, drop, slice_index, slice_index_or, nat_le, if◌then◌else◌, refl}
use Rattle.std.proofs.Common.{ap, sym, ◌∙◌}
use Rattle.std.proofs.Math.Seq.{take-append_seam, drop-append_seam}
use Rattle.std.specs.Bool.{Decides, one_answer}
use Rattle.std.specs.Ordering.{nat_cmp, eq_by_cmp}
use Rattle.std.specs.Cmp.{IsEquivalence, decided, first_so, second_so, unsigned_ties}
use Rattle.std.specs.Cmp.Lexicographic.{pointwise_decides, bytes_decides, lists_ties}
use Rattle.wasmi_types.specs.declared.value.ValType.{ValType}
use Rattle.wasmi_types.specs.declared.value.ValType.TheVariants.{I32, I64, F32, F64, V128, FuncRef, ExternRef}
use Rattle.wasmi_types.specs.FunctionType.{FunctionType, entries, entry_count, same_lists, type_number, order_key, function_type_cmp}
use denote.Enum.Bare.{sameb, same_true, true_same}
use Rattle.wasmi_types.specs.contracts.value.ValType.{the_type}

-- the value type at a place, as an order key has it
abbrev type_at : ℕ → ValType
type_at n = slice_index_or (I32 ∷ I64 ∷ F32 ∷ F64 ∷ V128 ∷ FuncRef ∷ []) n ExternRef

-- the place of a value type leads back to it
type_at-type_number : (x : ValType) → type_at (type_number x) ≡ x
type_at-type_number I32 = refl
type_at-type_number x = refl

-- the places of value types lead back to them
types_from_numbers : (xs : List ValType) → map type_at (map type_number xs) ≡ xs
types_from_numbers [] = refl
types_from_numbers (x ∷ xs) = λ i. type_at-type_number x i ∷ types_from_numbers xs i

-- two order keys that are the same have the same number of parameters and the same entries
same_key : (v w : Bool) (m n m' n' : ℕ) (xs ys : List ℕ)
    → (if v then 0 ∷ m ∷ n ∷ xs else 1 ∷ m ∷ xs) ≡ (if w then 0 ∷ m' ∷ n' ∷ ys else 1 ∷ m' ∷ ys) → (m ≡ m') × (xs ≡ ys)
same_key true true m n m' n' xs ys e = (ap (λ l. slice_index l 1) e, ap (drop 3) e)
same_key false false m n m' n' xs ys e = (ap (λ l. slice_index l 1) e, ap (drop 2) e)
same_key v w m n m' n' xs ys e = absurd (cc e)

-- one order key, one function type
pub order_key-one : (a b : FunctionType) → order_key a ≡ order_key b → a ≡ b
order_key-one a b e =
    let parts = same_key (nat_le (entry_count a) 21) (nat_le (entry_count b) 21) (length a.params) (length a.results)
    (length b.params) (length b.results) _ _ e in
    let joined : entries a ≡ entries b =
    sym (types_from_numbers (entries a)) ∙ ap (map type_at) parts.1 ∙ types_from_numbers (entries b) in
    let params : a.params ≡ b.params =
    rw (← take-append_seam a.params a.results, parts.0, joined) (take-append_seam b.params b.results) in
    let results : a.results ≡ b.results =
    rw (← drop-append_seam a.params a.results, parts.0, joined) (drop-append_seam b.params b.results) in
    λ i. record { params = params i; results = results i }

module _ {E : ValType → ValType → Bool} (decides : (x y : ValType) → Decides (E x y) (x ≡ y)) where
  -- the test of both lists decides whether two function types are the same
  pub same_lists_decides : (a b : FunctionType) → Decides (same_lists E a b) (a ≡ b)
  same_lists_decides a b = (
    λ e. let p = (pointwise_decides decides a.params b.params).0 (first_so _ _ e) in
        let r = (pointwise_decides decides a.results b.results).0 (second_so _ _ e) in
        λ i. record { params = p i; results = r i },
    λ e. let p = (pointwise_decides decides a.params b.params).1 (ap (λ ty. ty.params) e) in
        let r = (pointwise_decides decides a.results b.results).1 (ap (λ ty. ty.results) e) in
        λ i. p i && r i,
  )

  -- the test of both lists answers as the order does
  pub same_lists_by_cmp : (a b : FunctionType) → same_lists E a b ≡ eq_by_cmp function_type_cmp a b
  same_lists_by_cmp a b =
      let keys = bytes_decides (order_key a) (order_key b) in
      one_answer _ _ (same_lists_decides a b) (λ e. order_key-one a b (keys.0 e), λ e. keys.1 (ap order_key e))
      ∙ lists_ties nat_cmp unsigned_ties (order_key a) (order_key b)

  -- the test of both lists is an equivalence
  pub same_lists_equiv : IsEquivalence (same_lists E)
  same_lists_equiv = decided (same_lists E) same_lists_decides

-- the derived `==` decides whether two value types, the entries of function types, are the same
pub same_type_decides : (x y : ValType) → Decides (sameb the_type x y) (x ≡ y)
same_type_decides x y = (same_true the_type tt x y, true_same the_type x y)
