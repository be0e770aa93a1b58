-- Comparisons by an order of lanes, what is chosen by it, and the vectors that are made of such rows of lanes, or of
-- inverted comparisons. Numbers of w bits, moved by half of their range, stand in the order of the signed numbers with
-- their bits.
use Rattle.std.proofs.Common.{ℕ, ℤ, suc, ◌+◌, ◌-◌, ◌*◌, ◌%◌, ◌^◌, ◌<◌, ◌≤◌, ◌≡◌, Bool, true, false, not, cond, if◌then◌else◌, ltb, leb, refl, sym, ap, ap₂, ◌∙◌, arith, pos, negsuc, int_lt, int_le, mod-eq_of_lt, w8}
use Rattle.wasmi_lanewise.proofs.Common.{pow_pos, add-mod_right, lt-ltb, le-ltb, ltb-true, ltb-false, Width, w16, w32, w64, bits, signed, wrap, lane, lane_count, from_lanes, comparison_of_lanes, field, field_not, field_of_zero, lane_ends, lanes_make_vector, lane_below, lane_count_fills, lane_of_comparison, v128_not, leb_tells}
use Rattle.wasmi_types.proofs.NumbersLemmas.{wrap_of_bits}
use mir.Syntax.{w128}
use mir.Val.{sel, hbits}
use Rattle.wasmi_lanewise.proofs.MarkLemmas.{turned}

-- half of the range of w bits
half_is : (w : Width) → 2 ^ (bits w - 1) ≡ 2 ^ hbits w
half_is = elim [ w8 ↦ refl | w16 ↦ refl | w32 ↦ refl | w64 ↦ refl | w128 ↦ refl ]

-- the range of w bits is twice its half
whole_is : (w : Width) → 2 ^ bits w ≡ 2 ^ hbits w + 2 ^ hbits w
whole_is = elim [ w8 ↦ refl | w16 ↦ refl | w32 ↦ refl | w64 ↦ refl | w128 ↦ refl ]

-- the number whose lowest bits are those of a signed one, moved by half of the range
abbrev biased : Width → ℕ → ℕ
biased w x = (x + 2 ^ (bits w - 1)) % 2 ^ bits w

-- the signed number, where `low` says whether x is below half of the range
abbrev read_as : Width → Bool → ℕ → ℤ
read_as w low x = sel low (pos x) (negsuc (2 ^ bits w - suc x))

-- two comparisons that follow from each other give the same
pub same_less : (a b c d : ℕ) → (a < b → c < d) → (b ≤ a → d ≤ c) → ltb a b ≡ ltb c d
same_less a b c d up down = grind (arith, leb_tells)

-- a number is at most another just where that one isn't less
pub at_most_is_not_less : (a b : ℕ) → leb a b ≡ not (ltb b a)
at_most_is_not_less a b = grind (arith, leb_tells)

-- an integer is at most another just where that one isn't less
pub int_at_most_is_not_less : (a b : ℤ) → int_le a b ≡ not (int_lt b a)
int_at_most_is_not_less (pos a) (pos b) = at_most_is_not_less a b
int_at_most_is_not_less (pos a) (negsuc b) = refl
int_at_most_is_not_less (negsuc a) (pos b) = refl
int_at_most_is_not_less (negsuc a) (negsuc b) = at_most_is_not_less b a

module _ (w : Width) where
  -- a number below half of the range is moved up by the half
  low_biased : (x : ℕ) → x < 2 ^ hbits w → biased w x ≡ x + 2 ^ hbits w
  low_biased x below = ap (λ n. (x + n) % 2 ^ bits w) (half_is w) ∙ mod-eq_of_lt (omega (arith, whole_is w))

  -- a number from half of the range on is moved down by the half
  high_biased : (x : ℕ) → 2 ^ hbits w ≤ x → x < 2 ^ bits w → biased w x ≡ x - 2 ^ hbits w
  high_biased x above fits =
      let sum : x + 2 ^ hbits w ≡ (x - 2 ^ hbits w) + 2 ^ bits w = omega (arith, whole_is w) in
      rw (half_is w, sum, add-mod_right (x - 2 ^ hbits w) (2 ^ bits w)) (mod-eq_of_lt (omega arith))

  module _ (x y : ℕ) (fits_x : x < 2 ^ bits w) (fits_y : y < 2 ^ bits w) where
    -- moved numbers are in the order of the signed numbers, read by the half of the range in which each lies
    less_where : (low_x low_y : Bool) → ltb x (2 ^ hbits w) ≡ low_x → ltb y (2 ^ hbits w) ≡ low_y
        → ltb (biased w x) (biased w y) ≡ int_lt (read_as w low_x x) (read_as w low_y y)
    less_where true true is_x is_y =
        rw (low_biased x (ltb-true x (2 ^ hbits w) is_x), low_biased y (ltb-true y (2 ^ hbits w) is_y))
        (same_less (x + 2 ^ hbits w) (y + 2 ^ hbits w) x y (λ h. omega arith) (λ h. omega arith))
    less_where true false is_x is_y =
        let below = ltb-true x (2 ^ hbits w) is_x in
        rw (low_biased x below, high_biased y (ltb-false y (2 ^ hbits w) is_y) fits_y)
        (le-ltb (x + 2 ^ hbits w) (y - 2 ^ hbits w) (omega (arith, whole_is w)))
    less_where false true is_x is_y =
        let above = ltb-false x (2 ^ hbits w) is_x in
        rw (high_biased x above fits_x, low_biased y (ltb-true y (2 ^ hbits w) is_y))
        (lt-ltb (x - 2 ^ hbits w) (y + 2 ^ hbits w) (omega (arith, whole_is w)))
    less_where false false is_x is_y =
        let above_x = ltb-false x (2 ^ hbits w) is_x in
        let above_y = ltb-false y (2 ^ hbits w) is_y in
        ap₂ ltb (high_biased x above_x fits_x) (high_biased y above_y fits_y)
        ∙ same_less (x - 2 ^ hbits w) (y - 2 ^ hbits w) (2 ^ bits w - suc y) (2 ^ bits w - suc x) (λ h. omega arith)
        (λ h. omega arith)

    -- moved numbers are in the order of the signed numbers with their bits
    pub biased_is_less : ltb (biased w x) (biased w y) ≡ int_lt (signed w x) (signed w y)
    biased_is_less = less_where (ltb x (2 ^ hbits w)) (ltb y (2 ^ hbits w)) refl refl

-- the number of the one of two signed numbers that a test chooses
wrap_chosen : (w : Width) (t : Bool) (x y : ℕ) → x < 2 ^ bits w → y < 2 ^ bits w
    → (if t then x else y) ≡ wrap w (cond t (signed w x) (signed w y))
wrap_chosen w true x y fits_x fits_y = sym (wrap_of_bits w x fits_x)
wrap_chosen w false x y fits_x fits_y = sym (wrap_of_bits w y fits_y)

-- the number that is chosen by the order of two moved numbers has the bits of the signed one that their order chooses
pub signed_chosen_is : (w : Width) {a b x y : ℕ} → a < 2 ^ bits w → b < 2 ^ bits w → x < 2 ^ bits w → y < 2 ^ bits w
    → (if ltb (biased w b) (biased w a) then x else y)
    ≡ wrap w (cond (int_lt (signed w b) (signed w a)) (signed w x) (signed w y))
signed_chosen_is w {a} {b} fits_a fits_b fits_x fits_y =
    rw (biased_is_less w b a fits_b fits_a) (wrap_chosen w (int_lt (signed w b) (signed w a)) _ _ fits_x fits_y)

-- a lane of a vector whose bits are inverted, as those of a comparison are
lane_of_inverted : (w : Width) (v i : ℕ) → v < 2 ^ 128 → i < lane_count w
    → lane w (v128_not v) i ≡ 2 ^ bits w - 1 - lane w v i
unfolding field
lane_of_inverted w v i fits inside =
    let within : bits w * i + bits w ≤ 128 =
    omega (arith, lane_count_fills w, lane_ends (bits w) (lane_count w) i inside) in
    field_not (bits w * i) (bits w) 128 v within fits

-- a lane of the vector of all ones, which is chosen where a comparison holds
pub lane_of_ones : (w : Width) (v i : ℕ) → v ≡ 2 ^ 128 - 1 → i < lane_count w → lane w v i ≡ 2 ^ bits w - 1
unfolding field
lane_of_ones w v i is inside =
    rw (is, lane_of_inverted w 0 i (pow_pos 128) inside, field_of_zero (bits w * i) (bits w)) (omega arith)

-- a lane of the vector of all zeros, which is chosen where a comparison fails
pub lane_of_zeros : (w : Width) (v i : ℕ) → v ≡ 0 → lane w v i ≡ 0
unfolding field
lane_of_zeros w v i is = ap (λ n. lane w n i) is ∙ field_of_zero (bits w * i) (bits w)

-- the lanes that a test of b and a leaves out, as a vector: those that the opposite test of a and b names
pub inverted_comparison : {A : Type 0} (w : Width) (read : ℕ → A) (test opposite : A → A → Bool) (a b : ℕ) {v r : ℕ}
    → ((x y : A) → opposite x y ≡ not (test y x)) → v < 2 ^ 128 → r < 2 ^ 128 → v ≡ comparison_of_lanes w read test b a
    → r ≡ v128_not v → r ≡ comparison_of_lanes w read opposite a b
unfolding comparison_of_lanes
inverted_comparison w read test opposite a b {v} {r} is_opposite fits below is is_r =
    lanes_make_vector w (lane_count w) r _ (lane_count_fills w) below
    (λ i inside.
    rw (
      is_r,
      lane_of_inverted w v i fits inside,
      is,
      lane_of_comparison w i inside read test b a,
      is_opposite (read (lane w a i)) (read (lane w b i)),
    )
    (turned (2 ^ bits w - 1) (test (read (lane w b i)) (read (lane w a i)))))

-- ---- vectors whose lanes are chosen by an order of the operands' lanes x and y, as they are or moved

module _ (w : Width) (a b : ℕ) {r : ℕ} (below : r < 2 ^ 128) {x y : ℕ → ℕ}
    (is_x : (i : ℕ) → i < lane_count w → x i ≡ lane w a i) (is_y : (i : ℕ) → i < lane_count w → y i ≡ lane w b i) where
  -- lanes that are f of the operands' lanes, which is a row of them, make the vector of this row
  pub rows_make_vector : (f row : ℕ → ℕ → ℕ) → ((i : ℕ) → i < lane_count w → lane w r i ≡ f (x i) (y i))
      → ((p : ℕ) → (q : ℕ) → p < 2 ^ bits w → q < 2 ^ bits w → f p q ≡ row p q)
      → r ≡ from_lanes w (λ i. row (lane w a i) (lane w b i))
  rows_make_vector f row is same = lanes_make_vector w (lane_count w) r _ (lane_count_fills w) below
      (λ i inside. is i inside ∙ ap₂ f (is_x i inside) (is_y i inside)
      ∙ same (lane w a i) (lane w b i) (lane_below w a i) (lane_below w b i))

  module _ {x' y' : ℕ → ℕ}
      (moved : ((i : ℕ) → i < lane_count w → x' i ≡ biased w (x i))
      × ((i : ℕ) → i < lane_count w → y' i ≡ biased w (y i))) where
    -- lanes that are f of the operands' lanes, and of these lanes moved, make the vector of the row that this is
    pub moved_make_vector : (f : ℕ → ℕ → ℕ → ℕ → ℕ) {row : ℕ → ℕ → ℕ}
        → ((i : ℕ) → i < lane_count w → lane w r i ≡ f (x i) (y i) (x' i) (y' i))
        → ((p : ℕ) → (q : ℕ) → p < 2 ^ bits w → q < 2 ^ bits w → f p q (biased w p) (biased w q) ≡ row p q)
        → r ≡ from_lanes w (λ i. row (lane w a i) (lane w b i))
    moved_make_vector f is = rows_make_vector (λ p q. f p q (biased w p) (biased w q)) _
        (λ i inside. is i inside ∙ ap₂ (f (x i) (y i)) (moved.0 i inside) (moved.1 i inside))
