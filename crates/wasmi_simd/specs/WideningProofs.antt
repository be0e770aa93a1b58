-- The widths of which one is twice another, and what follows of their lanes.
use Rattle.std.proofs.Common.{ℕ, ◌+◌, ◌*◌, ◌^◌, ◌<◌, ◌≡◌, leb, lit<, refl}
use Rattle.wasmi_types.specs.Numbers.{Width, w8, w16, w32, w64, bits}
use lib.Dec.{T}
use mir.Val.{hbits}

-- a lane of `wide` has twice the bits of one of `narrow`, and n lanes of `wide` make a vector
pub record IsWidening (narrow wide : Width) (n : ℕ) : Type 0 where
  pub filled : n * bits wide ≡ 128
  pub twice : bits wide ≡ bits narrow + bits narrow
  pub half : hbits wide ≡ hbits narrow + bits narrow
  pub wider : T (leb (hbits narrow) (hbits wide))
  pub room : 2 ^ hbits narrow * 2 ^ hbits narrow < 2 ^ hbits wide

-- 8 lanes of 16 bits, each of two bytes
pub bytes_widened : IsWidening w8 w16 8
bytes_widened = record { filled = refl; twice = refl; half = refl; wider = tt; room = lit< tt }

-- 4 lanes of 32 bits, each of two of 16
pub u16x8_widened : IsWidening w16 w32 4
u16x8_widened = record { filled = refl; twice = refl; half = refl; wider = tt; room = lit< tt }

-- 2 lanes of 64 bits, each of two of 32
pub u32x4_widened : IsWidening w32 w64 2
u32x4_widened = record { filled = refl; twice = refl; half = refl; wider = tt; room = lit< tt }
