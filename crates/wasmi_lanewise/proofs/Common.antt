-- Names that many proofs of this crate cite, passed on from one place.
pub use Rattle.std.proofs.Math.Nat.{mod-one, zero-mod, mod_self, div-eq_of_lt, add-mod_right, mod-add-mod, mul-le-mul, mul-div_cancel}
pub use Rattle.std.proofs.Math.Pow.{mod-mod-pow, pow_mono}
pub use Rattle.std.proofs.lemmas.Bool.{cases_lt, lt-ltb, le-ltb, ne_eqb, ltb-true, ltb-false, eq-eqb}
pub use Rattle.std.proofs.lemmas.Bool.Decides.{eqb_tells, leb_tells}
pub use Rattle.std.proofs.lemmas.Int.{ints, fits_signed_from_abs, unsigned_abs-mul, of_z-to_z, wrapping_mul_is, int_wrap_fits, to_z-of_z}
pub use Rattle.std.proofs.lemmas.Nat.{and_mask, pow_pos, shr-shr, mod-pow-add, and_le_l, and_le_r, ones_cat, ones-le, field_of, shr_le, or_lt, mul-mod, pow-add, mul-mod_first, div-add-mod', div-mul-add, mod-mul-add, mul-le, shl_below, and_mod, or_mod, xor_mod, and_shr, or_shr, xor_shr, ones_le_self, zero_from_ones}
pub use Rattle.std.proofs.lemmas.Nat.Bits.{bit_at_and, bit_at_ones_above, bit_at-zero, bit_at-pow_same, bit_at_not}
pub use Rattle.std.proofs.lemmas.Simd.{swz_l, SwzOk, SwzOk-from_Each1, Each1-from_get_or, Each1-get_or, below_from_Fits, get_or-replicate, get_or-swz_l, length-replicate, Each1-replicate}
pub use Rattle.std.specs.Int.{bit_at, cast_unsigned, int_shr}
pub use Rattle.std.specs.Int.Bits.{or_add_and, xor_add_and, xor_self, xor_zero_l}
pub use Rattle.std.specs.Simd.Lanes.{zip2, sel_l, Each1, number_l}
pub use Rattle.wasmi_lanes.proofs.FieldLemmas.{field_and, field_add, field_lt, field_mod, field_wrapping_sub, top_of_lane, field_or, field_sub, field_xor, field_of_zero, same_words, field_not, lane_ends, lane_shr}
pub use Rattle.wasmi_lanes.proofs.ItemLemmas.{AreItems, items, repeated, mapped, zipped, chosen_by}
pub use Rattle.wasmi_lanes.proofs.SimdLaneLemmas.{number_below, number_of_digits, repeated_lane}
pub use Rattle.wasmi_lanes.proofs.VectorLemmas.{lane_below, lanes_make_vector, lane_count_fills, lane_of_comparison}
pub use Rattle.wasmi_lanes.proofs.WordVectorLemmas.{EachLane, lane_of_each, u64x2_of, words_make_unary, some_bits, AreWords, InnerLane, tops_each, equal_lanes, binary_by_words, inner_lanes, words_make_binary}
pub use Rattle.wasmi_lanes.specs.LaneProofs.{signed_fits}
pub use Rattle.wasmi_lanes.specs.Vector.{lane, lane_count, from_lanes, unsigned}
unfoldable pub use Rattle.wasmi_lanes.specs.Vector.{comparison_of_lanes, binary_of_lanes, unary_of_lanes, first_lanes, splat_of}
pub use Rattle.wasmi_lanes.specs.Words.{IsLane, AreMarks, AreFilled, lanes_in_word, in_each_lane}
unfoldable pub use Rattle.wasmi_lanes.specs.Words.{field}
pub use Rattle.wasmi_raw.specs.RawVal.{vector_of}
pub use Rattle.wasmi_types.specs.Numbers.{Width, bits, w16, w32, w64, signed, wrap, clamp_unsigned, clamp_signed}
pub use Rattle.wasmi_lanewise.specs.VectorTable.{v128_not, add_sat_u, sub_sat_u, q15mulr, shl, shr_u}
