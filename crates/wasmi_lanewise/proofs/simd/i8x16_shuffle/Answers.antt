use Rattle.std.proofs.Common.{◌-◌, ◌%◌, ◌<◌, ◌≡◌, ◌∙◌, refl, ap, slice_index, nat_lt, if◌then◌else◌, arith, rules, w8, mod-eq_of_lt}
use Rattle.wasmi_lanewise.proofs.Common.{lane, lanes_make_vector}
use Rattle.wasmi_lanewise.proofs.ChosenLemmas.{chosen_at, chosen_same}
use Rattle.wasmi_lanewise.proofs.simd.i8x16_shuffle.Goals as goal

pub returns : goal.returns
returns c =
    let index = slice_index c.bytes_of_indices-indices.result in
    lanes_make_vector w8 16 c.from_bytes.result _ refl c.from_bytes.ensures.in_range
    (λ i inside.
    let below : index i < 32 = c.bytes_of_indices-indices.ensures.inside i inside in
    c.from_bytes.ensures.lanes i inside
    ∙ chosen_at c.bytes_of_indices-indices.result (search rules) c.picked-low.result c.picked-high.result i
    (search rules) (search rules) inside
    ∙ chosen_same (index i)
    (λ below.
    c.picked-low.ensures.lanes i inside ∙ c.bytes_of.ensures.lanes (index i % 16) (omega arith)
    ∙ ap (lane w8 c.args.a) (mod-eq_of_lt below))
    (λ above.
    let same : index i % 16 ≡ index i - 16 = omega arith in
    c.picked-high.ensures.lanes i inside ∙ c.bytes_of-2.ensures.lanes (index i % 16) (omega arith)
    ∙ ap (lane w8 c.args.b) same)
    ∙ ap (λ k. if nat_lt k 16 then lane w8 c.args.a k else lane w8 c.args.b (k - 16))
    (c.bytes_of_indices-indices.ensures.lanes i inside))
