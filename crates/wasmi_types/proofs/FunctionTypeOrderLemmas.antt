-- The order of function types, place by place, and of value types, on which it rests; the parts of their entries.
use Rattle.std.proofs.Common.{◌≡◌, ℕ, Bool, true, false, not, List, [], ◌∷◌, length, map, refl, ap, ◌∙◌, nat_le, if◌then◌else◌}
use Rattle.std.proofs.Math.Seq.{take-append_seam, drop-append_seam}
use Rattle.std.specs.declared.cmp.Ordering.{Ordering}
use Rattle.std.specs.declared.cmp.Ordering.TheVariants.{Less, Equal}
use Rattle.std.specs.Ordering.{bool_cmp, nat_cmp, ordering_then, is_eq}
use Rattle.std.specs.Cmp.Lexicographic.{slice_cmp, bytes_decides, texts_ties, on_texts}
use Rattle.std.specs.Cmp.{tied_itself}
use Rattle.wasmi_types.specs.declared.value.ValType.{ValType}
use Rattle.wasmi_types.specs.declared.value.ValType.TheVariants.{I32}
use Rattle.wasmi_types.specs.contracts.value.ValTypeOrd.TheImpl.{ghosts}
use Rattle.wasmi_types.specs.FunctionType.{FunctionType, entries, entry_count, type_number, order_key, function_type_cmp}
use Rattle.wasmi_types.specs.FunctionTypeProofs.{order_key-one}

-- value types are ordered by their places (each pair is a case, since the clauses name a variant on each side)
cmp-type_number : (x y : ValType) → ghosts.cmp x y ≡ nat_cmp (type_number x) (type_number y)
cmp-type_number I32 I32 = refl
cmp-type_number x I32 = refl
cmp-type_number x y = refl

-- lists of value types are ordered by the lists of their places
cmp-entries : (xs ys : List ValType)
    → slice_cmp ghosts.cmp xs ys ≡ slice_cmp nat_cmp (map type_number xs) (map type_number ys)
cmp-entries [] [] = refl
cmp-entries [] (y ∷ ys) = refl
cmp-entries (x ∷ xs) [] = refl
cmp-entries (x ∷ xs) (y ∷ ys) = λ i. ordering_then (cmp-type_number x y i) (cmp-entries xs ys i)

-- of three orderings one after another, the first two or the last two may be taken together
then-assoc : (x y z : Ordering) → ordering_then (ordering_then x y) z ≡ ordering_then x (ordering_then y z)
then-assoc Less y z = refl
then-assoc x y z = refl

-- what is compared place by place is compared as lists of these places
by_places : (v w : Bool) (m n m' n' : ℕ) (xs ys : List ℕ) → ordering_then
    (ordering_then (ordering_then (bool_cmp (not v) (not w)) (nat_cmp m m'))
    (nat_cmp (if v then n else 0) (if w then n' else 0))) (slice_cmp nat_cmp xs ys)
    ≡ slice_cmp nat_cmp (if v then 0 ∷ m ∷ n ∷ xs else 1 ∷ m ∷ xs) (if w then 0 ∷ m' ∷ n' ∷ ys else 1 ∷ m' ∷ ys)
by_places true true m n m' n' xs ys = then-assoc (nat_cmp m m') (nat_cmp n n') (slice_cmp nat_cmp xs ys)
by_places false false m n m' n' xs ys = then-assoc (nat_cmp m m') Equal (slice_cmp nat_cmp xs ys)
by_places v w m n m' n' xs ys = refl

-- the size, the number of parameters, the number of results of a small one, and the entries
abbrev pub places_cmp : (v w : Bool) (m n m' n' : ℕ) (xs ys : List ValType) → Ordering
places_cmp v w m n m' n' xs ys =
    ordering_then (ordering_then (ordering_then (bool_cmp v w) (nat_cmp m m')) (nat_cmp n n'))
    (slice_cmp ghosts.cmp xs ys)

-- whether a function type has at most 21 entries, which the order puts first
abbrev pub is_small : FunctionType → Bool
is_small ty = nat_le (entry_count ty) 21

-- the order compares the size, the numbers of parameters and of results of a small one, and the entries
pub function_type_cmp-places : (a b : FunctionType)
    → places_cmp (not (is_small a)) (not (is_small b)) (length a.params) (if is_small a then length a.results else 0)
    (length b.params) (if is_small b then length b.results else 0) (entries a) (entries b) ≡ function_type_cmp a b
function_type_cmp-places a b =
    ap (ordering_then _) (cmp-entries (entries a) (entries b)) ∙ by_places (is_small a) (is_small b) _ _ _ _ _ _

-- the order answers equal for a function type and itself alone
pub function_type_cmp-equal : (a b : FunctionType)
    → (function_type_cmp a b ≡ Equal → a ≡ b) × (a ≡ b → function_type_cmp a b ≡ Equal)
function_type_cmp-equal a b = (
  λ e. order_key-one a b
      ((bytes_decides (order_key a) (order_key b)).0 (texts_ties (order_key a) (order_key b) ∙ ap is_eq e)),
  λ e. rw (← e) (tied_itself (on_texts order_key) a),
)

-- for `params_results`: the first part of the entries, and the rest
pub ruleset parts = (take-append_seam, drop-append_seam)
