-- Marks: words whose lanes are 0 or their highest bit alone. They mark the lanes in which two words are equal or
-- differ, and fill the marked lanes with ones; words are equal where no lane differs.
use Rattle.std.proofs.Common.{◌≡◌, ℕ, zero, suc, ◌+◌, ◌-◌, ◌*◌, ◌/◌, ◌%◌, ◌^◌, ◌<◌, ◌⊎◌, inl, inr, cond, eqb, Bool, true, false, not, refl, sym, ap, ap₂, ◌∙◌, arith, mod-eq_of_lt, mod-lt, lit<, bit_xor, pow-suc, mul_comm, one-mul, mul-add, mul-one, one-add, add_comm, zero-mul, mul-zero, div-one}
use Rattle.wasmi_lanewise.proofs.Common.{zero-mod, mod_self, div-eq_of_lt, pow_pos, shr-shr, mod-pow-add, shr_le, bit_at-zero, bit_at-pow_same, ne_eqb, cases_lt, mod-mod-pow, bit_at, field, IsLane, AreMarks, AreFilled, Width, bits, field_xor, field_of_zero, same_words, top_of_lane, EachLane, eq-eqb, tops_each, div-add-mod', eqb_tells, xor_self, xor_zero_l}
use Rattle.wasmi_lanewise.proofs.ShiftLemmas.{scaled_low, lane_scaled}
use Rattle.wasmi_lanewise.proofs.WordLemmas.{ones_lane}

-- the h bits of v from k are clear
abbrev Clear : ℕ → ℕ → ℕ → Type 0
Clear h v k = v / 2 ^ k % 2 ^ h ≡ 0

-- a lane that is 0 or its highest bit alone is clear below that bit
mark_clear : (h k v : ℕ) → (field k (suc h) v ≡ 0) ⊎ (field k (suc h) v ≡ 2 ^ h) → Clear h v k
unfolding field
mark_clear h k v mark =
    let low : v / 2 ^ k % 2 ^ suc h % 2 ^ h ≡ v / 2 ^ k % 2 ^ h =
    ap (λ n. v / 2 ^ k % 2 ^ n % 2 ^ h) (sym (one-add h)) ∙ mod-mod-pow (v / 2 ^ k) 1 h in
    elim mark [ inl e ↦ rw (← low, e, zero-mod (2 ^ h)) | inr e ↦ rw (← low, e, mod_self (2 ^ h)) ]

-- a lane of marks that were shifted down to its lowest bit
lane_shifted : (h k v : ℕ) → Clear h v (k + suc h) → field k (suc h) (v / 2 ^ h) ≡ bit_at v (k + h)
unfolding field
lane_shifted h k v clear =
    let more : suc h ≡ h + 1 = omega arith in
    let up : k + h + 1 ≡ k + suc h = omega arith in
    let high : v / 2 ^ (k + h) / 2 ^ 1 % 2 ^ h ≡ 0 = rw (shr-shr v (k + h) 1, up) clear in
    let split : v / 2 ^ (k + h) % 2 ^ (h + 1) ≡ (v / 2 ^ (k + h) / 2 ^ 1 % 2 ^ h) * 2 ^ 1 + v / 2 ^ (k + h) % 2 ^ 1 =
    mod-pow-add (v / 2 ^ (k + h)) h 1 in
    rw (shr-shr v h k, add_comm h k, more) (omega (arith, split, high))

-- the highest bit of a lane of marks, times c
bit_times : (h f c : ℕ) → (f ≡ 0) ⊎ (f ≡ 2 ^ h) → bit_at f h * c ≡ cond (eqb f 0) 0 c
bit_times h f c (inl e) = rw (e, bit_at-zero h) (zero-mul c)
bit_times h f c (inr e) =
    let some : eqb (2 ^ h) 0 ≡ false = ne_eqb (2 ^ h) 0 (λ z. absurd (omega (arith, pow_pos h))) in
    rw (e, bit_at-pow_same h, some) (one-mul c)

-- above a lane of marks stands the next lane, or nothing, so that the bits there are clear
next_clear : (h n v : ℕ) → v < 2 ^ 64 → n * suc h ≡ 64
    → ((i : ℕ) → i < n → (field (suc h * i) (suc h) v ≡ 0) ⊎ (field (suc h * i) (suc h) v ≡ 2 ^ h))
    → (i : ℕ) → i < n → Clear h v (suc h * i + suc h)
next_clear h n v fits whole marks i lt = elim (cases_lt (i + 1) n) [
  | inl more ↦
      let place : suc h * i + suc h ≡ suc h * (i + 1) = omega (arith, mul-add (suc h) i 1, mul-one (suc h)) in
      ap (λ k. v / 2 ^ k % 2 ^ h) place ∙ mark_clear h (suc h * (i + 1)) v (marks (i + 1) more)
  | inr last ↦
      let count : i + 1 ≡ n = omega arith in
      let place : suc h * i + suc h ≡ 64 =
      omega (arith, mul-add (suc h) i 1, mul-one (suc h), mul_comm (suc h) (i + 1), ap (λ m. m * suc h) count, whole) in
      ap (λ k. v / 2 ^ k % 2 ^ h) place ∙ ap (λ m. m % 2 ^ h) (div-eq_of_lt fits) ∙ zero-mod (2 ^ h)
]

-- marks that were filled: twice each less its lane's lowest bit, modulo 2 ^ 64
abbrev pub filled : ℕ → ℕ → ℕ
filled v top = ((v + v) % 2 ^ 64 + (2 ^ 64 - v / 2 ^ top)) % 2 ^ 64

-- the word of filled marks is below 2 ^ 64
pub filled_below : (v top : ℕ) → filled v top < 2 ^ 64
filled_below v top = mod-lt ((v + v) % 2 ^ 64 + (2 ^ 64 - v / 2 ^ top)) (lit< tt)

module _ (h n v : ℕ) (fits : v < 2 ^ 64) (whole : n * suc h ≡ 64)
    (marks : (i : ℕ) → i < n → (field (suc h * i) (suc h) v ≡ 0) ⊎ (field (suc h * i) (suc h) v ≡ 2 ^ h)) where
  -- a lane of all ones
  abbrev ones : ℕ
  ones = 2 ^ suc h - 1

  -- a lane of the marks that were shifted down, times all ones, is all ones where it was marked, else all zeros
  shifted_times : (i : ℕ) → i < n
      → field (suc h * i) (suc h) (v / 2 ^ h) * ones ≡ cond (eqb (field (suc h * i) (suc h) v) 0) 0 ones
  shifted_times i lt =
      rw (lane_shifted h (suc h * i) v (next_clear h n v fits whole marks i lt), ← top_of_lane (suc h * i) h v)
      (bit_times h (field (suc h * i) (suc h) v) ones (marks i lt))

  -- such a product stays in its lane
  times_fits : (i : ℕ) → i < n → field (suc h * i) (suc h) (v / 2 ^ h) * ones < 2 ^ suc h
  times_fits i lt = rw (shifted_times i lt) (chosen_fits (eqb (field (suc h * i) (suc h) v) 0))
    where
      chosen_fits : (t : Bool) → cond t 0 ones < 2 ^ suc h
      chosen_fits true = pow_pos (suc h)
      chosen_fits false = omega (arith, pow_pos (suc h))

  -- the filled marks are the marks that were shifted down, times all ones
  filled_is : 0 < n → filled v h ≡ v / 2 ^ h * ones
  filled_is some =
      let u : ℕ = v / 2 ^ h in
      let clear = rw (mul-zero (suc h), div-one v) at (mark_clear h (suc h * 0) v (marks 0 some)) in
      let sum : ones + 1 ≡ 2 ^ h + 2 ^ h = omega (arith, pow-suc 2 h, pow_pos h) in
      let twice : u * ones + u ≡ v + v =
      omega (arith, mul-add u ones 1, mul-one u, ap (λ k. u * k) sum, mul-add u (2 ^ h) (2 ^ h), div-add-mod' v (2 ^ h)) in
      let small : u < 2 ^ 64 = omega (arith, shr_le v h) in
      let below = rw (mul_comm (suc h) n, whole, mod-eq_of_lt small) at (scaled_low (suc h) ones u n times_fits) in
      omega arith

  -- a lane of the filled marks is all ones where it was marked, else all zeros
  filled_lane : (i : ℕ) → i < n
      → field (suc h * i) (suc h) (filled v h) ≡ cond (eqb (field (suc h * i) (suc h) v) 0) 0 (2 ^ suc h - 1)
  filled_lane i lt = ap (field (suc h * i) (suc h)) (filled_is (omega arith))
      ∙ lane_scaled (suc h) n ones (v / 2 ^ h) times_fits i lt ∙ shifted_times i lt

-- a lane of marks that were filled is all ones where it was marked, else all zeros
pub marks_filled : (b n v top : ℕ) → top ≡ b - 1 → v < 2 ^ 64 → n * b ≡ 64
    → ((i : ℕ) → i < n → (field (b * i) b v ≡ 0) ⊎ (field (b * i) b v ≡ 2 ^ (b - 1))) → (i : ℕ) → i < n
    → field (b * i) b (filled v top) ≡ cond (eqb (field (b * i) b v) 0) 0 (2 ^ b - 1)
marks_filled zero n v top is fits whole marks i lt = absurd (omega (arith, whole))
marks_filled (suc h) n v top is fits whole marks i lt =
    let back : suc h - 1 ≡ h = omega arith in
    rw (is, back) (filled_lane h n v fits whole (λ j below. rw back at (marks j below)) i lt)

-- ---- the lanes of which a test holds

-- in lanes of w bits, r has the highest bits of those of which t holds, by where they begin
pub record Marks (w : Width) (t : ℕ → Bool) (r : ℕ) : Type 0 where
  pub marked : EachLane w (λ k. field k (bits w) r ≡ cond (t k) (2 ^ (bits w - 1)) 0)

-- what marks lanes is a word of marks
pub marks_are : {w : Width} {t : ℕ → Bool} {r : ℕ} → Marks w t r → AreMarks w r
marks_are {w} {t} marks i inside = rw (marks.marked i inside) (either_mark (t (bits w * i)) (2 ^ (bits w - 1)))
  where
    either_mark : (t : Bool) (p : ℕ) → (cond t p 0 ≡ 0) ⊎ (cond t p 0 ≡ p)
    either_mark true p = inr refl
    either_mark false p = inl refl

-- where the marks are filled, the marked lanes are all ones, the others all zeros
pub marked_filled : {w : Width} (t : ℕ → Bool) {r : ℕ} (f : ℕ) → Marks w t r → AreFilled w r f
    → EachLane w (λ k. field k (bits w) f ≡ cond (t k) (2 ^ bits w - 1) 0)
marked_filled {w} t f marks fills i inside =
    rw (fills i inside, marks.marked i inside) (full (t (bits w * i)) _ (2 ^ bits w - 1) (pow_pos (bits w - 1)))
  where
    full : (t : Bool) (p q : ℕ) → 0 < p → cond (eqb (cond t p 0) 0) 0 q ≡ cond t q 0
    full true p q pos = ap (λ b. cond b 0 q) (ne_eqb p 0 (λ z. absurd (omega arith)))
    full false p q pos = refl

-- whether the lanes of a and b that begin at k are equal
abbrev pub are_equal : Width → ℕ → ℕ → ℕ → Bool
are_equal w a b k = eqb (field k (bits w) a) (field k (bits w) b)

-- whether the lanes of a and b that begin at k differ
abbrev pub are_different : Width → ℕ → ℕ → ℕ → Bool
are_different w a b k = not (are_equal w a b k)

module _ (w : Width) (tops a b r : ℕ) (lanes : EachLane w (λ k. IsLane tops k (bits w)))
    (differs : (start width : ℕ) → IsLane tops start width
    → field start width r ≡ cond (eqb (field start width a) (field start width b)) 0 (2 ^ (width - 1))) where
  -- what marks each lane of `tops` in which a and b differ marks those of w bits, where they are lanes of `tops`
  pub different_marked : Marks w (are_different w a b) r
  different_marked = record {
    marked = λ i inside.
        differs (bits w * i) (bits w) (lanes i inside) ∙ other_way (are_equal w a b (bits w * i)) (2 ^ (bits w - 1));
  }
    where
      other_way : (t : Bool) (p : ℕ) → cond t 0 p ≡ cond (not t) p 0
      other_way true p = refl
      other_way false p = refl

  -- with all highest bits flipped, it marks the lanes that are equal
  pub equal_marked : Marks w (are_equal w a b) (bit_xor r tops)
  equal_marked = record {
    marked = λ i inside.
        field_xor (bits w * i) (bits w) r tops
        ∙ ap₂ bit_xor (differs (bits w * i) (bits w) (lanes i inside)) ((lanes i inside).top)
        ∙ other_mark (are_equal w a b (bits w * i)) (2 ^ (bits w - 1));
  }
    where
      other_mark : (t : Bool) (p : ℕ) → bit_xor (cond t 0 p) p ≡ cond t p 0
      other_mark true p = xor_zero_l p
      other_mark false p = xor_self p

-- ---- words that are equal, where no lane is marked as different

-- the bits of a word are its lanes of one bit, each with itself as its mark
bit_lane : (i : ℕ) → i < 64 → IsLane (2 ^ 64 - 1) (1 * i) 1
bit_lane = tops_each 1 64 (2 ^ 64 - 1) (omega arith) (omega arith) (λ j inside. ones_lane (1 * j) 1 (omega arith))

module _ {a b r : ℕ} (fits_a : a < 2 ^ 64) (fits_b : b < 2 ^ 64)
    (differs : (start width : ℕ) → IsLane (2 ^ 64 - 1) start width
    → field start width r ≡ cond (eqb (field start width a) (field start width b)) 0 (2 ^ (width - 1))) where
  -- where no bit differs, a choice by whether the words are equal is its first
  pub equal_where_zero : (p q : ℕ) → r ≡ 0 → p ≡ cond (eqb a b) p q
  equal_where_zero p q none = rw (eq-eqb a b (same_words 1 64 a b fits_a fits_b
      (λ i inside. same_bit (field (1 * i) 1 a) (field (1 * i) 1 b)
      (sym (differs (1 * i) 1 (bit_lane i inside)) ∙ ap (field (1 * i) 1) none ∙ field_of_zero (1 * i) 1))))
    where
      same_bit : (x y : ℕ) → cond (eqb x y) 0 (2 ^ 0) ≡ 0 → x ≡ y
      same_bit x y is = grind (arith, eqb_tells)

  -- where some bit differs, it is its second
  pub different_where_some : (p q : ℕ) → r < 2 ^ 64 → (r ≡ 0 → ⊥) → q ≡ cond (eqb a b) p q
  different_where_some p q fits some = rw (ne_eqb a b (λ same. some (same_words 1 64 r 0 fits (pow_pos 64)
      (λ i inside.
      rw (differs (1 * i) 1 (bit_lane i inside), eq-eqb _ _ (ap (field (1 * i) 1) same))
      (sym (field_of_zero (1 * i) 1))))))

-- the choice between a number and 0, as by whether two words are equal, inverted within the number
pub turned : (n : ℕ) (t : Bool) → n - cond t n 0 ≡ cond (not t) n 0
turned n true = omega arith
turned n false = omega arith

-- the choice by whether two words are equal, inverted
pub turned_choice : {x : ℕ} (a b : ℕ) → x ≡ cond (eqb a b) (2 ^ 64 - 1) 0
    → 2 ^ 64 - 1 - x ≡ cond (not (eqb a b)) (2 ^ 64 - 1) 0
turned_choice a b is = ap (λ n. 2 ^ 64 - 1 - n) is ∙ turned (2 ^ 64 - 1) (eqb a b)
