-- A vector is made of its lanes, and of the items that these are read as; the lanes of a vector that is made of lanes.
use Rattle.std.proofs.Common.{ℕ, zero, suc, ◌+◌, ◌-◌, ◌*◌, ◌/◌, ◌%◌, ◌^◌, ◌<◌, ◌≡◌, refl, sym, ◌∙◌, ap₂, arith, add_comm, Bool, true, false, if◌then◌else◌, ◌≤◌, inl, inr, mul-zero, le_refl, mod-eq_of_lt, mod-lt, w8, w64, ◌==◌}
use Rattle.wasmi_lanes.proofs.Common.{pow_pos, mod-pow-add, pow-add, div-mul-add, mod-mul-add, mul-le, mod-one, mod-mod, lane, lane_count, first_lanes, from_lanes, comparison_of_lanes, splat_of, with_lane, Width, w16, w32, bits, cases_eq, field}
use Rattle.wasmi_lanes.specs.declared.item.LaneInteger.{Ghosts}
use mir.Syntax.{w128}
use Rattle.wasmi_lanes.proofs.FieldLemmas.{field_mod}

-- a lane is below 2 to the power of its width
pub lane_below : (w : Width) (v i : ℕ) → lane w v i < 2 ^ bits w
lane_below w v i = mod-lt (v / 2 ^ (bits w * i)) (pow_pos (bits w))

-- where n lanes of a width make 128 bits, 128 divided by the width is n
pub lanes_of_width : (w : Width) (n : ℕ) → n * bits w ≡ 128 → 128 / bits w ≡ n
lanes_of_width w8 n e = omega arith
lanes_of_width w n e = omega arith

-- where f gives the first n lanes of v, the number of these lanes is the bits of v that they take
first_lanes_are : (w : Width) (v : ℕ) (f : ℕ → ℕ) (n : ℕ) → ((i : ℕ) → i < n → lane w v i ≡ f i)
    → first_lanes w n f ≡ v % 2 ^ (bits w * n)
unfolding first_lanes
first_lanes_are w v f zero each = rw (mul-zero (bits w)) (sym (mod-one v))
first_lanes_are w v f (suc n) each =
    let e : bits w * suc n ≡ bits w + bits w * n = omega arith in
    rw (first_lanes_are w v f n (λ i h. each i (omega arith)), ← each n (omega arith), e)
    (rw (mod-mod (v / 2 ^ (bits w * n)) (2 ^ bits w), mod-pow-add v (bits w) (bits w * n)) (add_comm _ _))

-- the lanes of a width make 128 bits
pub lane_count_fills : (w : Width) → lane_count w * bits w ≡ 128
lane_count_fills = elim [ w8 ↦ refl | w16 ↦ refl | w32 ↦ refl | w64 ↦ refl | w128 ↦ refl ]

-- a number below 2 ^ 128 is the vector of its lanes
pub lanes_make_vector : (w : Width) (n v : ℕ) (f : ℕ → ℕ) → n * bits w ≡ 128 → v < 2 ^ 128
    → ((i : ℕ) → i < n → lane w v i ≡ f i) → v ≡ from_lanes w f
lanes_make_vector w n v f filled below each =
    let whole : bits w * n ≡ 128 = omega arith in
    rw (lanes_of_width w n filled, first_lanes_are w v f n each, whole) (sym (mod-eq_of_lt below))

-- lanes as items, an integer each
module _ {A : Type 0} (item : Ghosts A) where
  -- what is read from a lane is in the range of its type
  pub item_fits : (v i : ℕ) (x : A) → x ≡ item.read (lane item.width v i) → item.Fits x
  item_fits v i x is = rw is (item.laws.read_fits (lane item.width v i) (lane_below item.width v i))

  -- a vector whose lanes read as items has the numbers of these items as its lanes
  pub items_make_vector : (n : ℕ) (items : ℕ → A) (r : ℕ) (f : ℕ → ℕ) → n * bits item.width ≡ 128
      → ((i : ℕ) → i < n → items i ≡ item.read (lane item.width r i)) → r < 2 ^ 128
      → ((i : ℕ) → i < n → item.Fits (items i) → item.image (items i) ≡ f i) → r ≡ from_lanes item.width f
  items_make_vector n items r f filled is below rows = lanes_make_vector item.width n r f filled below (λ i h.
      rw (← item.laws.image_of_read (lane item.width r i) (lane_below item.width r i), ← is i h)
      (rows i h (item_fits r i (items i) (is i h))))

  -- the first n items are what is read from the lanes of v
  abbrev pub AreLanesOf : ℕ → ℕ → (ℕ → A) → Type 0
  AreLanesOf n v items = (i : ℕ) → i < n → items i ≡ item.read (lane item.width v i)

  -- what is read from the lanes of r at each index is in this relation to what is read from those of a and b, so that a
  -- row which gives the numbers of such items gives the vector r
  pub record RelatedLanes (n : ℕ) (P : A → A → A → Type 0) (a b r : ℕ) : Type 0 where
    pub make_vector : (row : A → A → ℕ)
        → ((x y z : A) → item.Fits x → item.Fits y → item.Fits z → P x y z → item.image z ≡ row x y)
        → r ≡ from_lanes item.width (λ i. row (item.read (lane item.width a i)) (item.read (lane item.width b i)))
    pub each : (i : ℕ) → i < n
        → P (item.read (lane item.width a i)) (item.read (lane item.width b i)) (item.read (lane item.width r i))

  -- lanes are in the relation of the items that they are read as
  pub related_lanes : {n a b r : ℕ} {x y z : ℕ → A} (P : A → A → A → Type 0) → n * bits item.width ≡ 128 → r < 2 ^ 128
      → AreLanesOf n a x → AreLanesOf n b y → AreLanesOf n r z → ((i : ℕ) → i < n → P (x i) (y i) (z i))
      → RelatedLanes n P a b r
  related_lanes {n} {a} {b} {r} {x} {y} {z} P filled below is_x is_y is_z given = record {
    make_vector = λ row rows. items_make_vector n z r _ filled is_z below (λ i h fits_z.
        rows (x i) (y i) (z i) (item_fits a i (x i) (is_x i h)) (item_fits b i (y i) (is_y i h)) fits_z (given i h)
        ∙ ap₂ row (is_x i h) (is_y i h));
    each = λ i h. rw (sym (is_x i h), sym (is_y i h), sym (is_z i h)) (given i h);
  }

-- the lanes of a vector that is made of lanes
lanes_below : (w : Width) (f : ℕ → ℕ) (n : ℕ) → first_lanes w n f < 2 ^ (bits w * n)
unfolding first_lanes
lanes_below w f zero = pow_pos (bits w * 0)
lanes_below w f (suc n) =
    let p : ℕ = 2 ^ (bits w * n) in
    let x : ℕ = f n % 2 ^ bits w in
    let next : bits w * suc n ≡ bits w + bits w * n = omega arith in
    let rows : (x + 1) * p ≤ 2 ^ bits w * p =
    mul-le (x + 1) p (2 ^ bits w) p (omega (arith, mod-lt (f n) (pow_pos (bits w)))) (le_refl p) in
    rw next (omega (arith, lanes_below w f n, pow-add 2 (bits w) (bits w * n)))

-- lane i of the number whose first n lanes are f is f i at the lane's width, where i is below n
lane_of_first : (w : Width) (f : ℕ → ℕ) (n i : ℕ) → i < n → lane w (first_lanes w n f) i ≡ f i % 2 ^ bits w
unfolding first_lanes field
lane_of_first w f zero i inside = absurd (omega arith)
lane_of_first w f (suc n) i inside =
    let b : ℕ = bits w in
    let p : ℕ = 2 ^ (b * n) in
    let x : ℕ = f n % 2 ^ b in
    let v : ℕ = first_lanes w n f + x * p in
    let parts : v ≡ x * p + first_lanes w n f = omega arith in
    elim (cases_eq i n) as (λ _. lane w v i ≡ f i % 2 ^ b) [
      | inl last ↦ rw (last, parts, div-mul-add x p (first_lanes w n f) (lanes_below w f n)) (mod-mod (f n) (2 ^ b))
      | inr other ↦
          let room : b * i + b ≤ b * n = omega (arith, mul-le b (suc i) b n (le_refl b) (omega arith)) in
          rw (← field_mod (b * i) b (b * n) v room, parts, mod-mul-add x p (first_lanes w n f) (lanes_below w f n))
          (lane_of_first w f n i (omega arith))
    ]

module _ (w : Width) (i : ℕ) (inside : i < 128 / bits w) where
  -- lane i of the vector of the lanes f is f i at the lane's width
  pub lane_of_from : (f : ℕ → ℕ) → lane w (from_lanes w f) i ≡ f i % 2 ^ bits w
  lane_of_from f = lane_of_first w f (128 / bits w) i inside

  -- all ones and all zeros, of which a vector of lanes is made, are within the width
  choice_fits : (t : Bool) → (if t then 2 ^ bits w - 1 else 0) % 2 ^ bits w ≡ (if t then 2 ^ bits w - 1 else 0)
  choice_fits true = mod-eq_of_lt (omega (arith, pow_pos (bits w)))
  choice_fits false = mod-eq_of_lt (pow_pos (bits w))

  -- lane i of a comparison is all ones where the test of the operands' lanes i holds, else all zeros
  pub lane_of_comparison : {A : Type 0} (read : ℕ → A) (test : A → A → Bool) (a b : ℕ)
      → lane w (comparison_of_lanes w read test a b) i
      ≡ (if test (read (lane w a i)) (read (lane w b i)) then 2 ^ bits w - 1 else 0)
  unfolding comparison_of_lanes
  lane_of_comparison read test a b =
      lane_of_from (λ i. if test (read (lane w a i)) (read (lane w b i)) then 2 ^ bits w - 1 else 0)
      ∙ choice_fits (test (read (lane w a i)) (read (lane w b i)))

  -- lane i of the vector with n in each lane is n
  pub lane_of_splat : (n : ℕ) → n < 2 ^ bits w → lane w (splat_of w n) i ≡ n
  unfolding splat_of
  lane_of_splat n fits = lane_of_from (λ _. n) ∙ mod-eq_of_lt fits

  -- in a vector that is made of lanes, n or a lane, as a test decides, is within the width
  replaced_fits : (v n : ℕ) (t : Bool) → n < 2 ^ bits w
      → (if t then n else lane w v i) % 2 ^ bits w ≡ (if t then n else lane w v i)
  replaced_fits v n true fits = mod-eq_of_lt fits
  replaced_fits v n false fits = mod-eq_of_lt (lane_below w v i)

  -- lane i of v with n in lane k is n where i is k, else lane i of v
  pub lane_of_with_lane : (v k n : ℕ) → n < 2 ^ bits w
      → lane w (with_lane w v k n) i ≡ (if i == k then n else lane w v i)
  unfolding with_lane
  lane_of_with_lane v k n fits = lane_of_from (λ i. if i == k then n else lane w v i) ∙ replaced_fits v n (i == k) fits

pub ruleset made = (lane_of_from, lane_of_splat, lane_of_with_lane)
