use Rattle.std.proofs.Common.{refl}
use Rattle.wasmi_simd.proofs.Common.{w16, signed_read_at}
use Rattle.wasmi_simd.proofs.simd.wide.i16x8_of.Goals as goal

pub returns : goal.returns
returns c = record { lanes = signed_read_at w16 8 c.args.v c.bytes_of.result refl c.bytes_of.ensures.number }
