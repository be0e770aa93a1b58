-- Arrays that a call of an instruction writes, instructions at a place of a list, and the lanes of a shuffle.
use Rattle.std.proofs.Common.{◌≡◌, ℕ, ◌<◌, ◌&&◌, Bool, true, false, List, [], ◌∷◌, length, map, get_or, refl, arith, rules, tests, ◌≤◌, Some, None, take, sym, ap, ◌∙◌}
use Rattle.wasmi_c.proofs.Common.{◌==◌, if◌then◌else◌, nat_lt, same_number_lists, get_or-map, get_or-set_at, get_or-set_other, get_or_default, gets, slice_get-map, length-map, same_lists, take_all, Leaves, each_of, each_of_two, each_of_three, zip3, lanes_of}
use Rattle.std.specs.Prelude.{Ok, Err}
use Rattle.std.specs.Simd.Lanes.{zip2}
use Rattle.std.proofs.lemmas.List.Folds.{list_all_at}
use Rattle.std.proofs.lemmas.Simd.{get_or-zip2, length-zip2}
use Rattle.std.specs.List.{list_all}
use Rattle.wasmi_c.specs.declared.instruction.result.Refusal.TheVariants.{LengthsDiffer}

-- where a test holds, a call after which the value is there has left what is expected, and the status 0
written : {V : Type 0} (test : Bool) (value old new : V) → test ≡ true → new ≡ value
    → Leaves (if test then Ok value else Err LengthsDiffer) old new 0
written true value old new passes is = (refl, is)
written false value old new passes is = cc

-- an element of an array, at an index within it
element : {A : Type 0} (xs : List A) (k : ℕ) → k < length xs → A
element [] k below = absurd (omega (arith, below))
element (x ∷ xs) k below = x

-- a list is what a function gives of two others, since each element is what it gives of those at its index
zipped : {A B C : Type 0} (f : A → B → C) (xs : List A) (ys : List B) (zs : List C)
    → length ys ≡ length xs → length zs ≡ length xs
    → ((k : ℕ) (x : A) (y : B) (z : C) → k < length xs → get_or zs k z ≡ f (get_or xs k x) (get_or ys k y))
    → zs ≡ zip2 f xs ys
zipped f xs ys zs seconds same each =
    same_lists zs (zip2 f xs ys) (omega (arith, seconds, same, length-zip2 f xs ys (sym seconds))) (λ k z below.
    let first : k < length xs = omega (arith, below, same) in
    let second : k < length ys = omega (arith, first, seconds) in
    let x = element xs k first in let y = element ys k second in
    each k x y z first ∙ sym (get_or-zip2 f xs ys k x y z first second))

-- an array is written where each element is what the function gives
pub each_written : {A B : Type 0} (f : A → B) (a : List A) (old new : List B) → length old ≡ length a
    → length new ≡ length old
    → ((k : ℕ) (x : A) (y : B) → k < length a → get_or new k y ≡ f (get_or a k x))
    → Leaves (each_of f a (length old)) old new 0
unfolding each_of
each_written f a old new same kept each =
    written (length old == length a) (map f a) old new (search (rules, tests))
    (same_lists new (map f a) (omega (arith, same, kept, length-map a f)) (λ k y below.
    let inside : k < length a = omega (arith, below, same, kept) in let x = element a k inside in
    each k x y inside ∙ sym (get_or-map f a k x y inside)))

-- an array is written where each element is what the function gives of the elements of two arrays
pub each_two_written : {A B C : Type 0} (f : A → B → C) (a : List A) (b : List B) (old new : List C)
    → length b ≡ length a → length old ≡ length a → length new ≡ length old
    → ((k : ℕ) (x : A) (y : B) (z : C) → k < length a → get_or new k z ≡ f (get_or a k x) (get_or b k y))
    → Leaves (each_of_two f a b (length old)) old new 0
unfolding each_of_two
each_two_written f a b old new seconds same kept each =
    written ((length b == length a) && (length old == length a)) (zip2 f a b) old new (search (rules, tests))
    (zipped f a b new seconds (omega arith) each)

-- an array is written where each element is what the function gives of the elements of three arrays
pub each_three_written : {A B C D : Type 0} (f : A → B → C → D) (a : List A) (b : List B) (c : List C)
    (old new : List D) → length b ≡ length a → length c ≡ length a → length old ≡ length a → length new ≡ length old
    → ((k : ℕ) (x : A) (y : B) (z : C) (u : D) → k < length a
    → get_or new k u ≡ f (get_or a k x) (get_or b k y) (get_or c k z))
    → Leaves (each_of_three f a b c (length old)) old new 0
unfolding each_of_three
each_three_written f a b c old new seconds thirds same kept each =
    let long : length (zip2 f a b) ≡ length a = omega (arith, seconds, length-zip2 f a b (sym seconds)) in
    written ((length b == length a) && (length c == length a) && (length old == length a)) (zip3 f a b c) old new
    (search (rules, tests)) (zipped (λ g z. g z) (zip2 f a b) c new (omega (arith, long, thirds))
    (omega (arith, long, same, kept)) (λ k g z u below.
    let first : k < length a = omega (arith, below, long) in let second : k < length b = omega (arith, first, seconds) in
    let x = element a k first in let y = element b k second in
    each k x y z u first ∙ sym (ap (λ g. g (get_or c k z)) (get_or-zip2 f a b k x y g first second))))

-- what is left in an array of results that is written, and its elements after each write
pub ruleset arrays = (each_written, each_two_written, each_three_written, get_or-set_at, get_or-set_other, get_or_default)

-- what lies at a place of a list of names with their instructions
pub ruleset places = (gets, slice_get-map)

-- whether the bytes of the two vectors of a shuffle have one at the index
abbrev pub has_lane : ℕ → Bool
has_lane index = nat_lt index 32

-- the first so many indices have lanes, which are these
pub record AreLanes (indices lanes : List ℕ) (count : ℕ) : Type 0 where
  pub long : length lanes ≡ 16
  pub all : list_all has_lane (take count indices) ≡ true
  pub same : (k : ℕ) → k < count → get_or lanes k 0 ≡ get_or indices k 0

-- where all have lanes, these are the lanes
pub lanes_there : (indices lanes : List ℕ) (count : ℕ) → length indices ≡ 16 → 16 ≤ count
    → AreLanes indices lanes count → Some lanes ≡ lanes_of indices
lanes_there indices lanes count long all are =
    let fit : list_all has_lane indices ≡ true = rw (take_all count indices (omega arith)) at are.all in
    ap Some (same_number_lists lanes indices (omega arith) (λ k inside. are.same k (omega arith)))
    ∙ sym (ap (λ fit. if fit then Some indices else None) fit)

-- where one of the indices has no lane, there are no such lanes
pub no_lanes : (indices : List ℕ) (i : ℕ) → i < length indices → 32 ≤ get_or indices i 0 → None ≡ lanes_of indices
no_lanes indices i inside past =
    let none : has_lane (get_or indices i 0) ≡ false = search (rules, tests) in
    sym (ap (λ fit. if fit then Some indices else None) (list_all_at has_lane indices i 0 inside none))
