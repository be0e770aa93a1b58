use Rattle.std.proofs.Common.{◌*◌, ◌/◌, ◌%◌, ◌^◌, ◌∙◌, ap₂, rules}
use Rattle.wasmi_lanes.proofs.ItemLemmas.{mapped}
use Rattle.wasmi_lanewise.proofs.SaturationLemmas.{uppers_fit, uppers_are}
use Rattle.wasmi_lanewise.proofs.simd.upper_halves.Goals as goal

pub overflow_cast-result : goal.overflow_cast-result
overflow_cast-result c = uppers_fit c.sign_copied.result c.sign_copied-2.result (search rules) (search rules)

pub returns : goal.returns
returns c =
    let halves = uppers_are c.sign_copied.result c.sign_copied-2.result (search rules) (search rules) in
    record {
      lanes = λ i inside. (mapped halves (λ x. x)).are i inside
          ∙ ap₂ (λ p q. p * q % 2 ^ 32 / 65536) (c.sign_copied.ensures.lanes i inside)
          (c.sign_copied-2.ensures.lanes i inside);
    }
