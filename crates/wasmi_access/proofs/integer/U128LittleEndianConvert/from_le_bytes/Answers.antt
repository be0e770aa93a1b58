use Rattle.std.proofs.Common.{rules}
use Rattle.std.specs.Int.{w128}
use Rattle.wasmi_access.proofs.ByteLemmas.{le_bytes-unsigned}
use Rattle.wasmi_access.proofs.integer.U128LittleEndianConvert.from_le_bytes.Goals as goal

pub returns-clause-round_trip : goal.returns-clause-round_trip
returns-clause-round_trip c =
    le_bytes-unsigned w128 c.args.bytes 15 _ (search rules) (search rules) (search rules) c.from_le_bytes.ensures
