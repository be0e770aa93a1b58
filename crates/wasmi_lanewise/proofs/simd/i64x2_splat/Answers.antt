use Rattle.std.proofs.Common.{ℕ, ◌≡◌, ◌+◌, ◌*◌, ◌%◌, ◌<◌, ◌^◌, ◌∷◌, [], ◌∙◌, ap, arith, rules, length}
use Rattle.wasmi_lanewise.proofs.Common.{number_l, ints, to_z-of_z, w32, w64, wrap, lane, splat_of, number_of_digits, first_lanes}
use Rattle.std.proofs.lemmas.List.{get_or_append_left}
use Rattle.wasmi_lanewise.proofs.simd.i64x2_splat.Goals as goal

-- the number of the two lower lanes of v, twice
number_of_both : (v n x y : ℕ) → v ≡ n → n < 2 ^ 64 → x ≡ lane w32 v 0 → y ≡ lane w32 v 1
    → number_l (2 ^ 32) (x ∷ y ∷ x ∷ y ∷ []) ≡ n + 2 ^ 64 * n
number_of_both v n x y is below is_x is_y = omega arith

pub returns : goal.returns
unfolding splat_of first_lanes
returns c =
    let n = c.cast_unsigned.result in
    let both : ℕ = n + 2 ^ 64 * n in
    let same : n ≡ wrap w64 c.args.item = search (arith, ints, to_z-of_z, c.cast_unsigned.ensures) in
    let is : c.from_word_pair.result ≡ n = omega arith in
    let both_is : both % 2 ^ 128 ≡ splat_of w64 n = omega arith in
    let items = c.lanes_of-items.result in
    let long : length items ≡ 4 = search rules in
    let first = get_or_append_left items items 0 0 (omega arith) ∙ c.lanes_of-items.ensures.lanes 0 (omega arith) in
    let second = get_or_append_left items items 0 1 (omega arith) ∙ c.lanes_of-items.ensures.lanes 1 (omega arith) in
    c.from_bytes.ensures.number
    ∙ number_of_digits 8 16 _
    ∙ ap (λ k. k % 2 ^ 128) (number_of_both c.from_word_pair.result n _ _ is (omega arith) first second)
    ∙ both_is
    ∙ ap (splat_of w64) same
