-- Names that many proofs of this crate cite, passed on from one place.
pub use Rattle.std.proofs.Common.{rules}
pub use Rattle.std.proofs.Math.Nat.{div-eq_of_lt, mod-one, add-mod_right}
pub use Rattle.std.proofs.Math.Pow.{pow_mono}
pub use Rattle.std.proofs.lemmas.Bool.{cases_lt, le-leb, lt-leb, ltb-true, ltb-false, and_from, and_parts, eqb-true, eq-eqb, cases_eq, lt-ltb, le-ltb}
pub use Rattle.std.proofs.lemmas.List.{length-map, get_or_past, get_or_append_left, get_or-append_right}
pub use Rattle.std.proofs.lemmas.Nat.{pow_pos, and_mask, mod-pow-add, div-mul-add, mod-mul-add, pow-add, mul-le, shr_below, shl_below, and_le_l, div-add-mod', and_le_r, or_shifted, or_comm, shr_le}
pub use Rattle.std.proofs.lemmas.Nat.Bits.{and_pow, bit_at_lowest, bit_at-suc}
pub use Rattle.std.proofs.lemmas.Simd.{pick_l_left, pick_l-range_with_len, get_or-chunk}
pub use Rattle.std.specs.Int.{cast_unsigned, cast_signed, int_shr, bit_at}
unfoldable pub use Rattle.std.specs.Int.{int_wrap}
pub use Rattle.std.specs.Simd.Lanes.{digits_l, number_l, zip2}
pub use Rattle.wasmi_lanes.proofs.FieldLemmas.{field_and, field_lt, first_lane, next_lane, field_not, field_wrapping_sub, field_of_zero, lane_ends, same_words}
pub use Rattle.wasmi_lanes.proofs.SimdLaneLemmas.{digit_at, written_at, signed_read_at, repeated_lane}
pub use Rattle.wasmi_lanes.proofs.VectorLemmas.{lane_below, lanes_make_vector, lanes_of_width, lane_of_from, items_make_vector, item_fits}
pub use Rattle.wasmi_lanes.proofs.WordVectorLemmas.{AreWords, low_lane, high_lane, filled, some_bits, lane_of_each, top_in_range, u64x2_of}
pub use Rattle.wasmi_lanes.specs.LaneProofs.{signed_fits}
pub use Rattle.wasmi_lanes.specs.Vector.{lane, unsigned, lane_count}
unfoldable pub use Rattle.wasmi_lanes.specs.Vector.{unary_of_lanes, binary_of_lanes}
pub use Rattle.wasmi_lanes.specs.Words.{lanes_in_word, in_each_lane}
unfoldable pub use Rattle.wasmi_lanes.specs.Words.{field}
pub use Rattle.wasmi_types.specs.Numbers.{Width, bits, signed, wrap, w8, w16, w64, w32}
pub use mir.Val.{hbits, sel}
pub use Rattle.wasmi_simd.specs.WideningProofs.{IsWidening, bytes_widened, u16x8_widened, u32x4_widened}
pub use Rattle.wasmi_simd.specs.WideningTable.{extadd_pairwise_s}
unfoldable pub use Rattle.wasmi_simd.specs.WideningTable.{pairwise_unary, pairwise_binary, first_bits, half_unary, half_binary, holds_below, every_lane, lane_bits, from_low_high}
