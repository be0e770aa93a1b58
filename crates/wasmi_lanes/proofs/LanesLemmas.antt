-- Items that a loop over lanes sets, one after another.
use Rattle.std.proofs.Common.{ℕ, ◌+◌, ◌<◌, ◌≢◌, List, length, get_or, set, arith, below_more, length-set, get_or-set_other, get_or-set_same}

-- what holds of the items below i, and of y at i, holds of the items below i + 1 once item i is y
pub set_more : {A : Type 0} (P : ℕ → A → Type 0) (xs : List A) (i : ℕ) (y d : A) → i < length xs
    → ((k : ℕ) → k < i → P k (get_or xs k d)) → P i y → (k : ℕ) → k < i + 1 → P k (get_or (set xs i y) k d)
set_more P xs i y d inside before here = below_more (λ k. P k (get_or (set xs i y) k d)) i (λ k h.
    let other : k ≢ i = omega arith in
    rw get_or-set_other (before k h)) (rw get_or-set_same here)

-- the same of the items from 0 and of those from n, of which each turn sets one
pub set_both_more : {A : Type 0} (P Q : ℕ → A → Type 0) (xs : List A) (n i : ℕ) (y z d : A) → i < n → n + i < length xs
    → ((k : ℕ) → k < i → P k (get_or xs k d)) × ((k : ℕ) → k < i → Q k (get_or xs (n + k) d)) → P i y → Q i z
    → ((k : ℕ) → k < i + 1 → P k (get_or (set (set xs i y) (n + i) z) k d))
    × ((k : ℕ) → k < i + 1 → Q k (get_or (set (set xs i y) (n + i) z) (n + k) d))
set_both_more P Q xs n i y z d below inside before low high =
    let within : n + i < length (set xs i y) = rw length-set inside in (
      λ k h.
          let other : k ≢ n + i = omega arith in
          rw get_or-set_other (set_more P xs i y d (omega arith) before.0 low k h),
      below_more (λ k. Q k (get_or (set (set xs i y) (n + i) z) (n + k) d)) i (λ k h.
          let other : n + k ≢ n + i = omega arith in
          let lower : n + k ≢ i = omega arith in
          rw (get_or-set_other, get_or-set_other) (before.1 k h)) (rw get_or-set_same high),
    )
