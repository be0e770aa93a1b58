use Rattle.std.proofs.Common.{◌+◌, ◌*◌, arith, rules}
use Rattle.std.proofs.lemmas.Option.{slice_get_past}
use Rattle.wasmi_c.specs.Instruction.{load_numbered}
use Rattle.wasmi_c.specs.declared.instruction.numbers.TheConstants.{LOAD_INSTRUCTIONS}
use Rattle.wasmi_c.proofs.instruction.load.each_by_digits.Goals as goal

pub returns-in_default : goal.returns-in_default
unfolding load_numbered
returns-in_default c = record {
  outcome = rw (slice_get_past LOAD_INSTRUCTIONS (c.args.high * 16 + c.args.low) (omega arith)) (search rules);
}
