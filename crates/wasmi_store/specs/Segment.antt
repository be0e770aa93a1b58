-- Element segments (core specification, element instances), how one is read of an iterator, and their errors' texts.
use Rattle.std.specs.Prelude.{◌≡◌, ◌^◌, ◌-◌, ◌<◌, ◌≤◌, ℕ, List, [], length, Option, Result, Ok, Err, codes}
use Rattle.std.specs.Iterator.{Yields}
use Rattle.wasmi_types.specs.declared.value.RefType.{RefType}
use Rattle.wasmi_types.specs.Reading.{ReadsAll, ReadsTooMany}
use Rattle.wasmi_store.specs.declared.{table.element.ElementSegmentRef.ElementSegmentRef, table.element.SegmentError.SegmentError}
use Rattle.wasmi_store.specs.declared.table.element.SegmentError.TheVariants.{TooManyItems, OutOfSystemMemory}

-- an element segment: the type of its items, and the items
pub record SegmentValue : Type 0 where
  pub ty : RefType
  pub items : List ℕ

-- the greatest number of items
abbrev pub most_items : ℕ
most_items = 2 ^ 32 - 1

-- what a segment keeps: not too many items, and without items no room for any, so no memory
pub record IsKept (items : List ℕ) (capacity : ℕ) : Type 0 where
  pub short : length items ≤ most_items
  pub free : length items ≡ 0 → capacity ≡ 0

-- the segment without its items
abbrev pub dropped : SegmentValue → SegmentValue
dropped segment = record segment { items = [] }

-- the segment that is shared
abbrev pub segment_of : ElementSegmentRef → SegmentValue
segment_of r = record { ty = r.ty; items = r.items.now }

module _ {I : Type 0} (steps : I → Option ℕ → I → Type 0) where
  -- memory was refused: calls from s to t gave some items, no more than a segment has
  pub record IsOutOfMemory (s t : I) : Type 0 where
    pub items : List ℕ
    pub run : Yields steps s items t
    pub some : 0 < length items
    pub short : length items ≤ most_items

  -- the answer after calls from s to t: the segment of all items that came, or why none was read
  abbrev pub IsReading : I → RefType → Result SegmentValue SegmentError → I → Type 0
  IsReading s ty (Ok segment) t = (segment.ty ≡ ty) × ReadsAll most_items steps s segment.items t
  IsReading s ty (Err TooManyItems) t = ReadsTooMany most_items steps s t
  IsReading s ty (Err OutOfSystemMemory) t = IsOutOfMemory s t

-- the answer after reading the iterator that x becomes
pub record IsReadingOf {X I : Type 0} (becomes : X → I → Type 0) (steps : I → Option ℕ → I → Type 0) (ty : RefType)
    (x : X) (answer : Result SegmentValue SegmentError) : Type 0 where
  pub before : I
  pub after : I
  pub made : becomes x before
  pub reads : IsReading steps before ty answer after

-- the text of an error of an element segment
abbrev pub segment_error_text : SegmentError → List ℕ
segment_error_text TooManyItems = codes "too many items in an element segment"
segment_error_text OutOfSystemMemory = codes "out of memory"
