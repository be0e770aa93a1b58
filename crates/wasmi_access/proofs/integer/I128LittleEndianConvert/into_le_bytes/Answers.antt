use Rattle.std.proofs.Common.{ap}
use Rattle.std.proofs.lemmas.Int.{to_z-of_z}
use Rattle.std.specs.Int.{w128}
use Rattle.wasmi_types.specs.Numbers.{le_bytes}
use Rattle.wasmi_types.proofs.NumbersLemmas.{wrap_of_image}
use Rattle.wasmi_access.proofs.integer.I128LittleEndianConvert.into_le_bytes.Goals as goal

pub returns-clause-bytes : goal.returns-clause-bytes
returns-clause-bytes c =
    rw (c.into_le_bytes.ensures.bytes, c.cast_unsigned.ensures, to_z-of_z w128 c.args.self c.ranges.self)
    (ap (le_bytes 16) (wrap_of_image w128 c.args.self c.ranges.self))
