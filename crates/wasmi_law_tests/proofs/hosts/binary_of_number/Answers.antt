use Rattle.std.proofs.Common.{◌∙◌, ap, sym, option_map, slice_get}
use Rattle.std.proofs.lemmas.Option.{slice_get-map}
use Rattle.wasmi_c.specs.Instruction.{binary_numbered, name_of_binary}
use Rattle.wasmi_c.specs.declared.instruction.numbers.TheConstants.{BINARY_INSTRUCTIONS}
use Rattle.wasmi_law_tests.proofs.hosts.binary_of_number.Goals as goal

pub returns : goal.returns
unfolding binary_numbered
returns c =
    ap (option_map name_of_binary) c.binary_numbered.ensures
    ∙ sym (slice_get-map name_of_binary BINARY_INSTRUCTIONS c.args.number)
    ∙ ap (λ names. slice_get names c.args.number) c.numbers_are_released.ensures.binary
