use Rattle.std.proofs.Common.{rules, w64}
use Rattle.wasmi_access.proofs.ByteLemmas.{le_bytes-unsigned}
use Rattle.wasmi_access.proofs.integer.U64LittleEndianConvert.from_le_bytes.Goals as goal

pub returns-clause-round_trip : goal.returns-clause-round_trip
returns-clause-round_trip c = le_bytes-unsigned w64 c.args.bytes 7 c.from_le_bytes.result (search rules) (search rules)
    (search rules) c.from_le_bytes.ensures
