-- Values of any type that lie at their indices, of which each is given once: the place of an index, the value at one,
-- and that what was removed leaves its index empty.
use Rattle.std.specs.Prelude.{◌≡◌, ◌≢◌, ◌<◌, ◌≤◌, ℕ, List, ◌∷◌, Option, Some, None, All, true, is_some, length, map, nat_eq, slice_index_or, if◌then◌else◌}
use Rattle.std.specs.List.{AllPairs, range_with_len}

-- the place of an index among others, or that it isn't one of them
abbrev pub IsPlace : List ℕ → ℕ → Option ℕ → Type 0
IsPlace indices index (Some place) = (place < length indices) × (slice_index_or indices place 0 ≡ index)
IsPlace indices index None = (k : ℕ) → k < length indices → slice_index_or indices k 0 ≢ index

-- every index is below those after it
abbrev pub Rises : List ℕ → Type 0
Rises indices = AllPairs (λ i j. i < j) indices

module _ {X : Type 0} where
  -- the value of an index, if it is one of these
  abbrev pub value_of : List ℕ → List X → ℕ → Option X
  value_of (i ∷ indices) (x ∷ values) index = if nat_eq i index then Some x else value_of indices values index
  value_of indices values index = None

  -- every index up to this one has something
  abbrev pub HasAllUpTo : List (Option X) → ℕ → Type 0
  HasAllUpTo values index = (k : ℕ) → k ≤ index → is_some (slice_index_or values k None) ≡ true

  -- the values at their indices, of which `next` were given
  abbrev pub by_index : ℕ → List ℕ → List X → List (Option X)
  by_index next indices values = map (value_of indices values) (range_with_len 0 next)

  -- every index has a value, and the indices rise below the next one
  pub record IsListed (next : ℕ) (indices : List ℕ) (values : List X) : Type 0 where
    pub same : length values ≡ length indices
    pub rises : Rises indices
    pub below : All (λ i. i < next) indices
