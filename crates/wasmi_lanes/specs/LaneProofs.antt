-- The signed and unsigned integers of a width are the items of lanes of the width.
use Rattle.std.specs.Prelude.{ℕ, pos, negsuc, ◌-◌, ◌^◌, ◌<◌, ◌≡◌, refl, FitsSigned}
use Rattle.std.specs.Int.{cast_unsigned}
use Rattle.std.proofs.lemmas.Int.{of_z-to_z}
use Rattle.std.proofs.Math.Facts.{sfits_to_z}
use mir.Syntax.{w128}
use mir.Val.{Fits}
use Rattle.wasmi_types.specs.Numbers.{Width, w8, w16, w32, w64, bits, signed}
use Rattle.wasmi_lanes.specs.Vector.{ReadsLanes, unsigned}

-- the unsigned integers of a width
pub unsigned_lanes : (w : Width) → ReadsLanes w unsigned (λ item. item) (λ item. item < 2 ^ bits w) (2 ^ bits w - 1) 0
unsigned_lanes w = record {
  image_of_ones = refl;
  image_of_zeros = refl;
  image_of_read = λ n below. refl;
  read_fits = λ n below. below;
}

-- the bits of -1 are all ones
ones_of_minus_one : (w : Width) → cast_unsigned w (negsuc 0) ≡ 2 ^ bits w - 1
ones_of_minus_one = elim [ w8 ↦ refl | w16 ↦ refl | w32 ↦ refl | w64 ↦ refl | w128 ↦ refl ]

-- the bits of 0 are all zeros
zeros_of_zero : (w : Width) → cast_unsigned w (pos 0) ≡ 0
zeros_of_zero = elim [ w8 ↦ refl | w16 ↦ refl | w32 ↦ refl | w64 ↦ refl | w128 ↦ refl ]

-- a number of w bits, read signed, is in the range of the signed type
pub signed_fits : (w : Width) (n : ℕ) → n < 2 ^ bits w → FitsSigned w (signed w n)
signed_fits w n below = let fits : Fits w n = record { fits = below } in sfits_to_z fits

-- the signed integers of a width
pub signed_lanes : (w : Width) → ReadsLanes w (signed w) (cast_unsigned w) (FitsSigned w) (negsuc 0) (pos 0)
signed_lanes w = record {
  image_of_ones = ones_of_minus_one w;
  image_of_zeros = zeros_of_zero w;
  image_of_read = of_z-to_z w;
  read_fits = signed_fits w;
}
