use Rattle.std.proofs.Common.{◌∙◌, ap, rules, arith}
use Rattle.std.specs.Int.{bit_at}
use Rattle.wasmi_law_tests.proofs.LanesLemmas.{ones_where_each_holds}
use Rattle.wasmi_law_tests.proofs.lanes.are_all_ones.Goals as goal

pub returns : goal.returns
returns c = λ test made.
    let bits = c.bits_of_lanes.ensures in
    let each = c.tests_of_lanes.ensures.numbers 8 test in
    let ones = ones_where_each_holds c.args.bits test (rw made (bits.tests_below 8 test))
    (λ i inside. ap (λ b. bit_at b i) made ∙ bits.bit_of_test 8 test i inside) in
    (λ yes. each.1 (ones.0 (search rules)), λ all. let is = ones.1 (each.0 all) in grind (arith, is))
