-- Shifts of lanes of 64 bits, each a whole word, and shifts of lanes of 8 bits with the sign, by a table.
use Rattle.std.proofs.Common.{◌≡◌, ℕ, suc, ◌+◌, ◌-◌, ◌*◌, ◌/◌, ◌%◌, ◌^◌, ◌<◌, ◌≤◌, refl, inl, inr, sym, ap, ◌∙◌, arith, add-mul, one-mul, mod-lt, List, map, replicate, get_or}
use Rattle.wasmi_simd.proofs.Common.{cases_lt, lt-ltb, le-ltb, int_shr, number_l, pow_pos, pow-add, div-add-mod', div-mul-add, shr_below, shr_le, pow_mono, w8, w64, signed, wrap, lane, unsigned, unary_of_lanes, field, repeated_lane, binary_of_lanes}
use Rattle.std.specs.List.{range_with_len}
use Rattle.std.proofs.lemmas.List.FromFn.{get_or-map-range_with_len}
use Rattle.wasmi_raw.specs.RawVal.{vector_of}
use Rattle.wasmi_lanewise.proofs.WordLemmas.{lanes_are_words}

-- words of one lane, each shifted whole
pub whole_words_shifted : (v amount s : ℕ) {r : ℕ} → v < 2 ^ 128 → s ≡ amount % 64 → (row : ℕ → ℕ → ℕ)
    → ((x : ℕ) → x < 2 ^ 64 → row s x < 2 ^ 64)
    → r ≡ vector_of (row s (v % 2 ^ 64)) (row s (v / 2 ^ 64)) → r ≡ unary_of_lanes w64 unsigned (row (amount % 64)) v
unfolding unary_of_lanes binary_of_lanes
whole_words_shifted v amount s {r} fits is_s row fits_row is =
    rw (← is_s) (lanes_are_words (λ x _. row s x) v v _ _ r fits fits
    (record { fits = fits_row (v % 2 ^ 64) (omega arith); is = refl })
    (record { fits = fits_row (v / 2 ^ 64) (omega arith); is = refl }) is)

-- ---- shifts with the sign

-- a number of 8 bits, moved by half of its range before a shift without sign, and back after it
pub moved_and_back : (x s : ℕ) → x < 2 ^ 8 → s < 8
    → ((x + 2 ^ 7) % 2 ^ 8 / 2 ^ s % 2 ^ 8 + (2 ^ 8 - 2 ^ (7 - s))) % 2 ^ 8 ≡ wrap w8 (int_shr (signed w8 x) s)
moved_and_back x s fits less =
    let p : ℕ = 2 ^ s in
    let q : ℕ = 2 ^ (7 - s) in
    let sum : 7 - s + s ≡ 7 = omega arith in
    let half : q * p ≡ 128 = sym (pow-add 2 (7 - s) s) ∙ ap (λ n. 2 ^ n) sum in
    let some : 0 < p = pow_pos s in
    let small : q ≤ 128 = omega (arith, pow_mono {i = 7 - s} {j = 7} (omega arith)) in
    elim (cases_lt x (2 ^ 7)) as
    (λ _. ((x + 2 ^ 7) % 2 ^ 8 / p % 2 ^ 8 + (2 ^ 8 - q)) % 2 ^ 8 ≡ wrap w8 (int_shr (signed w8 x) s)) [
      | inl below ↦
          let up : (x + 2 ^ 7) % 2 ^ 8 ≡ (q + x / p) * p + x % p =
          omega (arith, half, add-mul q (x / p) p, div-add-mod' x p) in
          let least : x / p ≤ x = shr_le x s in
          rw (up, div-mul-add (q + x / p) p (x % p) (mod-lt x some), lt-ltb x (2 ^ 7) below) (omega arith)
      | inr above ↦
          let y : ℕ = 2 ^ 8 - suc x in
          let least : y / p ≤ y = shr_le y s in
          let fewer : y / p < q = shr_below y (7 - s) s (rw sum (omega arith)) in
          let rest : y % p < p = mod-lt y some in
          let rows : (q - 1 - y / p) * p + y / p * p + p ≡ q * p =
          omega (
            arith,
            add-mul (q - 1 - y / p) (y / p) p,
            add-mul (q - 1 - y / p + y / p) 1 p,
            one-mul p,
            ap (λ n. n * p) (let e : q - 1 - y / p + y / p + 1 ≡ q = omega arith in e),
          ) in
          let down : (x + 2 ^ 7) % 2 ^ 8 ≡ (q - 1 - y / p) * p + (p - 1 - y % p) =
          omega (arith, half, div-add-mod' y p) in
          rw (down, div-mul-add (q - 1 - y / p) p (p - 1 - y % p) (omega arith), le-ltb x (2 ^ 7) above) (omega arith)
    ]

-- a table of vectors, entry d with half of the range of 8 bits in each lane, shifted to the right by d
pub half_at : (table : List ℕ) (v d : ℕ)
    → table ≡ map (λ k. number_l (2 ^ 8) (replicate 16 (2 ^ (7 - k)))) (range_with_len 0 8) → v ≡ get_or table d 0
    → d < 8 → (i : ℕ) → i < 16 → lane w8 v i ≡ 2 ^ (7 - d)
unfolding field
half_at table v d is at less i inside =
    let entry : v ≡ number_l (2 ^ 8) (replicate 16 (2 ^ (7 - d))) =
    at ∙ ap (λ l. get_or l d 0) is
    ∙ get_or-map-range_with_len (λ k. number_l (2 ^ 8) (replicate 16 (2 ^ (7 - k)))) 0 8 d d 0 less (omega arith) in
    ap (λ n. lane w8 n i) entry
    ∙ repeated_lane 8 16 i (2 ^ (7 - d)) (omega (arith, pow_mono {i = 7 - d} {j = 7} (omega arith))) inside
