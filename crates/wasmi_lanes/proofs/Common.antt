-- Names that many proofs of this crate cite, passed on from one place.
pub use Rattle.std.proofs.Math.Nat.{zero-div, zero-mod, add-mod, add-mod_right, add-mul-mod_self_right, mod-add-mod, mod-mod, mod-one, div-eq_of_lt, mod_self, sub-zero}
pub use Rattle.std.proofs.Math.Numerals.{sub-one}
pub use Rattle.std.proofs.Math.Pow.{ones_split, shr_mono, mod-mod-pow}
pub use Rattle.std.proofs.lemmas.Bool.{eq-eqb, ne_eqb, cases_eq, ltb-true, cases_lt}
pub use Rattle.std.proofs.lemmas.Grind.{common_steps}
pub use Rattle.std.proofs.lemmas.List.{get_or-map, get_or_default, length-map}
pub use Rattle.std.proofs.lemmas.Nat.Bits.{and_pow, bit_at_and, bit_at_or, bit_at_xor, bit_at-lt, bit_at_not, bit_at-pow_same}
pub use Rattle.std.proofs.lemmas.Nat.{pow_pos, mul-le, shr-shr, and_mask, div-add-mod', div-mul-add, mod-mul-add, and_shr, and_mod, or_shr, or_mod, xor_shr, xor_mod, field_of, shr_below, mod-pow-add, pow-add, xor_lt, and_assoc, and_le_l}
pub use Rattle.std.proofs.lemmas.Simd.{length-zip2, get_or-zip2, get_or-sel_l, get_or-replicate, length-replicate, Each1-from_get_or, tops_compared, swz_l, SwzOk, SwzOk-from_below, get_or-swz_l_below, below_from_Fits, length-sel_l, Each1-replicate}
pub use Rattle.std.specs.Int.Bits.{xor_block, or_add_and, xor_zero_r, xor_zero_l, or_zero_r, xor_self, xor_assoc, and_self, and_zero_r}
pub use Rattle.std.specs.Int.{bit_at}
pub use Rattle.std.specs.Simd.Lanes.{number_l, zip2, sel_l, digits_l, Each1}
pub use Rattle.wasmi_types.specs.Numbers.{Width, w16, w32, bits, signed}
pub use Rattle.wasmi_lanes.proofs.LanesLemmas.{set_more}
pub use Rattle.wasmi_lanes.specs.Vector.{lane, lane_count, from_lanes}
unfoldable pub use Rattle.wasmi_lanes.specs.Vector.{with_lane, first_lanes, unary_of_lanes, binary_of_lanes, comparison_of_lanes, splat_of}
pub use Rattle.wasmi_lanes.specs.Words.{IsLane, IsLastLane, AreLanes, word_of_lanes, lanes_in_word, in_each_lane}
unfoldable pub use Rattle.wasmi_lanes.specs.Words.{field}
pub use Rattle.wasmi_lanes.specs.declared.simd_lane.TheConstants.{BYTES_OF_U16, IN_EACH_U16, BYTES_OF_U32}
