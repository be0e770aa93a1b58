-- Lists with memory for items that are still to be added.
use Rattle.std.specs.Prelude.{ℕ, List, slice_set}

-- a list: its items, up to how many of them are reserved, and for how many there is memory
pub record ReservedListValue (X : Type 0) : Type 0 where
  pub items : List X
  pub reserved : ℕ
  pub capacity : ℕ

-- the list with another item at an index, and with the same memory for items that are still to be added
abbrev pub with_item : {X : Type 0} → ReservedListValue X → ℕ → X → ReservedListValue X
with_item list k x = record list { items = slice_set list.items k x }
