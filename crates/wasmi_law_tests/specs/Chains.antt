-- What a caller says of a chain, a list of types each of which may stand for the next one.
use Rattle.std.specs.Prelude.{◌≡◌, ◌<◌, ◌≤◌, ℕ, Some, List, slice_get}

-- Every one of the first n items of a list stands in a relation to itself and to each that follows among them.
abbrev pub RelatesForward : {X : Type 0} → (X → X → Type 0) → List X → ℕ → Type 0
RelatesForward {X} Relates xs n =
    (i j : ℕ) (a b : X) → i ≤ j → j < n → slice_get xs i ≡ Some a → slice_get xs j ≡ Some b → Relates a b
