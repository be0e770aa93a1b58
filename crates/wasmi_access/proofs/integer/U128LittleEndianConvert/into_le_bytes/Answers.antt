use Rattle.std.proofs.Common.{rules}
use Rattle.std.specs.Int.{w128}
use Rattle.wasmi_types.proofs.NumbersLemmas.{wrap_unsigned}
use Rattle.wasmi_access.proofs.ByteLemmas.{number_of-bytes}
use Rattle.wasmi_access.proofs.integer.U128LittleEndianConvert.into_le_bytes.Goals as goal

pub returns : goal.returns
returns c = record {
  bytes = rw (c.to_le_bytes.ensures, wrap_unsigned w128 c.args.self (search rules));
  number = rw (c.to_le_bytes.ensures, wrap_unsigned w128 c.args.self (search rules))
      (number_of-bytes 16 c.args.self (search rules));
  round_trip = rw c.to_le_bytes.ensures (number_of-bytes 16 c.args.self (search rules));
}
