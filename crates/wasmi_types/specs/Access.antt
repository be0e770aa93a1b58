-- Access to a part of a list: the bytes of a linear memory, or the elements of a table.
use Rattle.std.specs.Prelude.{ℕ, ◌+◌, List, ◌++◌, length, take, drop, Option, Some, None, nat_le, if◌then◌else◌}

-- the items a to a + n - 1, or none where the list ends before them
abbrev pub at : {A : Type 0} → List A → ℕ → ℕ → Option (List A)
at xs a n = if nat_le (a + n) (length xs) then Some (take n (drop a xs)) else None

-- xs with ys at a, or none where the list ends before them
abbrev pub overwrite : {A : Type 0} → List A → ℕ → List A → Option (List A)
overwrite xs a ys =
    if nat_le (a + length ys) (length xs) then Some (take a xs ++ ys ++ drop (a + length ys) xs) else None
