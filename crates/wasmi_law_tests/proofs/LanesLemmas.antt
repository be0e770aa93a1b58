-- Numbers that are read as themselves, words divided into lanes of unequal widths, and a byte made of tests.
use Rattle.std.proofs.Common.{[], ◌≡◌, ℕ, ℤ, ◌<◌, ◌^◌, Bool, true, false, if◌then◌else◌, refl, sym, ap, ap₂, ◌∙◌, arith, inl, inr, lit<, lit≤, List, ◌∷◌, map}
use Rattle.wasmi_law_tests.proofs.Common.{All-head, All-tail, ◌↔◌, FitsSigned, IsTrue, All}
use Rattle.std.proofs.lemmas.Nat.Bits.{bit_at_ones, same_from_bits_below}
use Rattle.wasmi_types.specs.Numbers.{Width, signed, wrap}
use Rattle.std.specs.Int.{bit_at}
use Rattle.wasmi_lanes.specs.Words.{field, AreLanes}

-- where each number that fits is read as itself, so is a list of such numbers
pub read_list : ((w : Width) (z : ℤ) → FitsSigned w z → signed w (wrap w z) ≡ z) → (w : Width) (zs : List ℤ)
    → All (FitsSigned w) zs → map (λ z. signed w (wrap w z)) zs ≡ zs
read_list same w [] fit = refl
read_list same w (z ∷ zs) fit =
    let rest = read_list same w zs (All-tail (FitsSigned w) z zs fit) in
    ap₂ (λ x xs. x ∷ xs) (same w z (All-head (FitsSigned w) z zs fit)) rest

-- the lanes of 8, 8, 16 and 32 bits of a word
pub mixed_lanes : AreLanes 0x8000_0000_8000_8080 0 (8 ∷ 8 ∷ 16 ∷ 32 ∷ [])
unfolding field
mixed_lanes = (
  record { starts = inl refl; top = refl; within = lit≤ tt },
  (
    record { starts = inr refl; top = refl; within = lit≤ tt },
    (
      record { starts = inr refl; top = refl; within = lit≤ tt },
      (record { starts = inr refl; top = refl; within = lit≤ tt }, refl),
    ),
  ),
)

-- a test whose bit is 1 holds
holds_of_bit : (test : Bool) → ◌≡◌ {A = ℕ} (if test then 1 else 0) 1 → IsTrue test
holds_of_bit true is = refl
holds_of_bit false is = absurd (omega (arith, is))

-- a byte that is made of a test of each number below 8 is 255 exactly where the test holds of each
pub ones_where_each_holds : (bits : ℕ) (test : ℕ → Bool) → bits < 2 ^ 8
    → ((i : ℕ) → i < 8 → bit_at bits i ≡ (if test i then 1 else 0)) → (bits ≡ 255) ↔ ((i : ℕ) → i < 8 → IsTrue (test i))
ones_where_each_holds bits test below bit = (
  λ is i inside. holds_of_bit (test i) (sym (bit i inside) ∙ ap (λ b. bit_at b i) is ∙ bit_at_ones 8 i inside),
  λ each. same_from_bits_below 8 bits 255 below (lit< tt)
      (λ i inside. bit i inside ∙ ap (λ holds. if holds then 1 else 0) (each i inside) ∙ sym (bit_at_ones 8 i inside)),
)
