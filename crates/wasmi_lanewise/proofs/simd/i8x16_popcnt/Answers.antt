use Rattle.std.proofs.Common.{ℕ, ◌/◌, ◌%◌, ◌^◌, count_ones, refl, arith, w8}
use Rattle.wasmi_lanewise.proofs.Common.{unary_of_lanes, u64x2_of, words_make_unary}
use Rattle.wasmi_lanewise.proofs.CountLemmas.{counts_below, counts_at}
use Rattle.wasmi_lanewise.proofs.simd.i8x16_popcnt.Goals as goal

pub returns : goal.returns
unfolding unary_of_lanes
returns c =
    let low : ℕ = c.args.v % 2 ^ 64 in
    let high : ℕ = c.args.v / 2 ^ 64 in
    words_make_unary w8 refl count_ones c.args.v c.from_u64x2.result (u64x2_of refl refl)
    (record {
      low_fits = counts_below low;
      high_fits = counts_below high;
      is = c.from_u64x2.ensures _ _ (rw c.u64x2_of-words.ensures refl);
    })
    (counts_at low (omega arith)) (counts_at high (omega arith))
