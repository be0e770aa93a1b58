use Rattle.std.proofs.lemmas.Int.{to_z-of_z}
use Rattle.std.proofs.Math.Facts.{sfits_to_z}
use Rattle.std.specs.Int.{w128, cast_signed}
use Rattle.wasmi_types.proofs.NumbersLemmas.{wrap_unsigned, wrap_of_bits}
use Rattle.wasmi_access.proofs.integer.I128LittleEndianConvert.from_le_bytes.Goals as goal

pub returns-clause-round_trip : goal.returns-clause-round_trip
returns-clause-round_trip c =
    let n = c.from_le_bytes.result in
    let below = c.from_le_bytes.type_inv in
    rw (c.cast_signed.ensures, to_z-of_z w128 (cast_signed w128 n) (sfits_to_z (record { fits = below })))
    (rw (wrap_of_bits w128 n below) (rw (wrap_unsigned w128 n below) at c.from_le_bytes.ensures.round_trip))
