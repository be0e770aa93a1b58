-- Writes over a range: one of a list of items as one of the memory or table that has them, one without a meter, and how
-- a write ends: refused or paid for from the meter, in one way.
use Rattle.std.proofs.Common.{arith, subst, ◌≡◌, ℕ, ◌≤◌, ◌⊎◌, inl, inr, Bool, true, false, Option, Some, None, Ok, Err, List, length, drop, refl, sym, ap, ◌∙◌, Vec, Global}
use Rattle.wasmi_store.proofs.Common.{MatchBool, refill, take_at, MemoryError, TableError, CustomFuelCosts, OutOfFuel, MeteredValue, covers, optional_due, Meter, meter_after, meter_after_nothing, metered, WithCharge, MeteredWrite, EndsBy, IsRefusedFor, Writes, WritesCharging, write_charge, write_due, items_write, WritesItems, BulkWrites, item_price, MemoryValue, bytes_write, elements_write, element_price, with_elements, TableValue, TableTypeValue, TableWrite, with_items_is}
use Rattle.std.specs.Prelude.{Result}
use Rattle.std.specs.Option.{option_map}
use Rattle.wasmi_store.proofs.GrowthLemmas.{on_both_tests, on_test_too, payable}
use Rattle.wasmi_meter.specs.declared.error.MemoryError.TheVariants as memory
use Rattle.std.specs.Vec.{with_items, vec_capacity}
use Rattle.wasmi_store.specs.Table.{IsSized}

module _ {A V E : Type 0} (put : List A → V) (outside : E) (price : Option (CustomFuelCosts → ℕ)) (unpaid : ℕ → E)
    (xs : List A) (m : Option Meter) (result : Result (Unit {0}) E) (xs' : List A) (m' : Option Meter) where
  -- a write over items is one over the value that has them
  pub writes_put : (written : Option (List A))
      → WritesItems unpaid written outside price (metered xs m) result (metered xs' m')
      → Writes (record {
        early = None;
        written = option_map put written;
        outside = outside;
        price = price;
        unpaid = unpaid;
      }) (metered (put xs) m) result (metered (put xs') m')
  writes_put None (is, same) = (is, ap (λ s. metered (put s.value) s.meter) same)
  writes_put (Some items) writes = on_test_too (covers m (optional_due m price)) _ _ _ _
      (λ h. (h.0, ap (λ s. metered (put s.value) s.meter) h.1))
      (λ h. (h.0, ap (λ s. metered (put s.value) s.meter) h.1)) writes

-- items that are written over by themselves, for nothing, stay
pub free_write : {A E : Type 0} (unpaid : ℕ → E) (outside : E) (xs : List A) (m : Meter) {written : Option (List A)}
    → written ≡ Some xs
    → WritesItems unpaid written outside None (metered xs (Some m)) (Ok tt) (metered xs (Some m))
free_write unpaid outside xs m is =
    rw (is, payable m 0 (omega arith)) (refl, ap (metered xs) (meter_after_nothing (Some m)))

-- a write takes place with its charge
pub charging : {V E : Type 0} (write : V → MeteredWrite V E) {s s' : MeteredValue V (Unit {0})}
    {result : Result (Unit {0}) E} → Writes (write s.value) s result s'
    → WithCharge (WritesCharging write) s result s'
charging write {s} {result = result} writes =
    (write_charge (write s.value) s result, record { writes = writes; charged = refl })

-- a write over elements is one over the table that has them, where the types are the same
pub writes_elements : (x : TableValue) (typed : Bool) (written : Option (List ℕ)) (outside : TableError)
    (paid : Option ℕ) (m : Option Meter) (result : Result (Unit {0}) TableError) (xs' : List ℕ) (m' : Option Meter)
    → typed ≡ true
    → WritesItems OutOfFuel written outside (option_map element_price paid) (metered x.elements m) result
    (metered xs' m')
    → Writes (elements_write x typed written outside paid) (metered x m) result (metered (with_elements x xs') m')
writes_elements x typed written outside paid m result xs' m' same writes = rw same
    (writes_put (with_elements x) outside (option_map element_price paid) OutOfFuel x.elements m result xs' m' written
    writes)

module _ (ty : TableTypeValue) (reserved : ℕ) where
  -- the table with these elements, which are written over
  abbrev pub table_with : List ℕ → TableValue
  table_with elements = record { ty = ty; elements = elements; reserved = reserved }

  -- a write over what the vector of a table lends is one over the table
  pub table_writes : (v : Vec ℕ Global) {write : TableValue → TableWrite} {lent : List ℕ} (ws : List ℕ)
      {m m' : Option Meter} {result : Result (Unit {0}) TableError} → lent ≡ v.items → length ws ≡ length lent
      → Writes (write (table_with lent)) (metered (table_with lent) m) result (metered (table_with ws) m')
      → WithCharge (WritesCharging write) (metered (table_with v.items) m) result
      (metered (table_with (with_items v ws).items) m')
  table_writes v {write} ws same long writes =
      rw (with_items_is v ws (long ∙ ap length same ∙ sym v.ok.0), ← same) (charging write writes)

-- a table whose elements are written over, by as many, stays sized, with as much reserved
pub table_kept : {ty : TableTypeValue} {reserved : ℕ} (v : Vec ℕ Global) {lent : List ℕ} (ws : List ℕ) → lent ≡ v.items
    → length ws ≡ length lent → IsSized ty (length v.items) × (reserved ≤ vec_capacity v)
    → IsSized ty (length (with_items v ws).items) × (reserved ≤ vec_capacity (with_items v ws))
table_kept v ws same long kept =
    let as_many = long ∙ ap length same in rw (with_items_is v ws (as_many ∙ sym v.ok.0), as_many) kept

-- a write over bytes that a memory lends, of as many bytes, leaves the written ones
pub refilled_by : (xs lent ws : List ℕ) → lent ≡ xs → length ws ≡ length lent → refill (length xs) xs ws ≡ ws
refilled_by xs lent ws is long = take_at ws (drop (length ws) xs) (length xs) (long ∙ ap length is)

-- a write over the bytes that a memory lends is one over the memory
pub memory_writes : (x : MemoryValue) (written : List ℕ → Option (List ℕ)) (paid : ℕ) {lent : List ℕ} (ws : List ℕ)
    {m m' : Option Meter} {result : Result (Unit {0}) MemoryError} → lent ≡ x.bytes → length ws ≡ length lent
    → BulkWrites (written lent) paid (metered lent m) result (metered ws m')
    → WithCharge (WritesCharging (λ x. bytes_write x None (written x.bytes) paid)) (metered x m) result
    (metered (record x { bytes = refill (length x.bytes) x.bytes ws }) m')
memory_writes x written paid ws {m} {m'} {result} same long writes = rw (refilled_by x.bytes _ ws same long)
    (charging (λ x. bytes_write x None (written x.bytes) paid) (writes_put (λ bytes. record x { bytes = bytes })
    memory.OutOfBoundsAccess (Some (item_price 1 paid)) memory.OutOfFuel x.bytes m result ws m' (written x.bytes)
    (subst (λ l. BulkWrites (written l) paid (metered l m) result (metered ws m')) same writes)))

-- a meter that is off, with which a write is one without a meter
abbrev off : CustomFuelCosts → Meter
off costs = record { left = None; costs = costs }

-- how a write at some price ends with a meter that is off, it ends without a meter
ends_unmetered : {V E : Type 0} (w : MeteredWrite V E) (x x' : V) (costs : CustomFuelCosts) (m' : Option Meter)
    (result : Result (Unit {0}) E) (early : Option E) (written : Option V) (price : Option (CustomFuelCosts → ℕ))
    → EndsBy (record w { price = price }) (metered x (Some (off costs))) result (metered x' m') early written
    → EndsBy (record w { price = price }) (metered x None) result (metered x' None) early written
ends_unmetered w x x' costs m' result None (Some value) (Some price) ends =
    (ends.0, ap (λ s. metered s.value None) ends.1)
ends_unmetered w x x' costs m' result early written price ends = (ends.0, ap (λ s. metered s.value None) ends.1)

-- a write with a meter that is off is one without a meter
pub writes_unmetered : {V E : Type 0} (write : V → MeteredWrite V E) (x x' : V) (costs : CustomFuelCosts)
    (m' : Option Meter) (result : Result (Unit {0}) E)
    → WithCharge (WritesCharging write) (metered x (Some (off costs))) result (metered x' m')
    → WithCharge (WritesCharging write) (metered x None) result (metered x' None)
writes_unmetered write x x' costs m' result (charge, writing) = charging write
    (ends_unmetered (write x) x x' costs m' result (write x).early (write x).written (write x).price writing.writes)

-- a write that is refused for a cause: nothing is written or taken
pub record RefusedWrite {V E : Type 0} (s : MeteredValue V (Unit {0})) (result : Result (Unit {0}) E) (charge : ℕ)
    (s' : MeteredValue V (Unit {0})) : Type 0 where
  pub cause : E
  pub is : result ≡ Err cause
  pub uncharged : charge ≡ 0
  pub same : s' ≡ s

-- a write that is within its ranges and paid for
pub record PaidWrite {V E : Type 0} (w : MeteredWrite V E) (s : MeteredValue V (Unit {0}))
    (result : Result (Unit {0}) E) (charge : ℕ) (s' : MeteredValue V (Unit {0})) : Type 0 where
  pub value : V
  pub written : w.written ≡ Some value
  pub is : result ≡ Ok tt
  pub enough : covers s.meter (write_due w s) ≡ true
  pub charged : charge ≡ write_due w s
  pub after : s' ≡ metered value (option_map (λ m. meter_after m charge) s.meter)

module _ {V E : Type 0} (w : MeteredWrite V E) (s : MeteredValue V (Unit {0})) (result : Result (Unit {0}) E)
    (charge : ℕ) (charged : charge ≡ write_charge w s result) (s' : MeteredValue V (Unit {0})) where
  -- a write for a cause
  ends_refused : (cause : E) → IsRefusedFor w s result s' cause → RefusedWrite s result charge s'
  ends_refused cause (is, same) =
      record { cause = cause; is = is; uncharged = charged ∙ ap (write_charge w s) is; same = same }

  -- a write in its ranges, by whether so much is left
  ends_paid : (value : V) → w.written ≡ Some value → (enough : Bool) → covers s.meter (write_due w s) ≡ enough
      → MatchBool enough
      ((result ≡ Ok tt) × (s' ≡ metered value (option_map (λ m. meter_after m (write_due w s)) s.meter)))
      (IsRefusedFor w s result s' (w.unpaid (write_due w s)))
      → RefusedWrite s result charge s' ⊎ PaidWrite w s result charge s'
  ends_paid value written true enough (is, after) =
      let due : charge ≡ write_due w s = charged ∙ ap (write_charge w s) is in
      inr (record {
        value = value;
        written = written;
        is = is;
        enough = enough;
        charged = due;
        after = rw due after;
      })
  ends_paid value written false enough refused = inl (ends_refused (w.unpaid (write_due w s)) refused)

  -- a write, by what is tested on the way
  ends_by : (early : Option E) (written : Option V) → w.written ≡ written → EndsBy w s result s' early written
      → RefusedWrite s result charge s' ⊎ PaidWrite w s result charge s'
  ends_by (Some cause) written is refused = inl (ends_refused cause refused)
  ends_by None None is refused = inl (ends_refused w.outside refused)
  ends_by None (Some value) is ends = ends_paid value is (covers s.meter (write_due w s)) refl ends

-- a write is refused, or it is paid for
pub write_ends : {V E : Type 0} (write : V → MeteredWrite V E) (s : MeteredValue V (Unit {0}))
    (result : Result (Unit {0}) E) (charge : ℕ) (s' : MeteredValue V (Unit {0}))
    → WritesCharging write s result charge s'
    → RefusedWrite s result charge s' ⊎ PaidWrite (write s.value) s result charge s'
write_ends write s result charge s' writing =
    let w = write s.value in ends_by w s result charge writing.charged s' w.early w.written refl writing.writes

-- a write ends with its charge taken from the meter
pub write_takes : {V E : Type 0} (write : V → MeteredWrite V E) (s : MeteredValue V (Unit {0}))
    (result : Result (Unit {0}) E) (charge : ℕ) (s' : MeteredValue V (Unit {0}))
    → WritesCharging write s result charge s' → s'.meter ≡ option_map (λ m. meter_after m charge) s.meter
write_takes write s result charge s' writing = elim (write_ends write s result charge s' writing) [
  | inl refused ↦ rw (refused.same, refused.uncharged) (meter_after_nothing s.meter)
  | inr paid ↦ ap (λ s. s.meter) paid.after
]

-- a write over items takes some amount from the meter
pub items_taken : {A E : Type 0} (unpaid : ℕ → E) (written : Option (List A)) (outside : E)
    (price : Option (CustomFuelCosts → ℕ)) (s s' : MeteredValue (List A) (Unit {0})) (result : Result (Unit {0}) E)
    → WritesItems unpaid written outside price s result s'
    → (charge : ℕ) × (s'.meter ≡ option_map (λ m. meter_after m charge) s.meter)
items_taken unpaid written outside price s s' result writes =
    let charge = write_charge (items_write unpaid written outside price) s result in (
      charge,
      write_takes (λ items. items_write unpaid written outside price) s result charge s'
          (record { writes = writes; charged = refl }),
    )

module _ {V E : Type 0} (w : MeteredWrite V E) (s : MeteredValue V (Unit {0})) (result result' : Result (Unit {0}) E)
    (s' s'' : MeteredValue V (Unit {0})) where
  -- two writes end in one way, by what is tested on the way
  ends_once : (early : Option E) (written : Option V) → EndsBy w s result s' early written
      → EndsBy w s result' s'' early written → (result ≡ result') × (s' ≡ s'')
  ends_once None (Some value) a b = on_both_tests (covers s.meter (write_due w s)) _ _ _ _ a b
      (λ h h'. (h.0 ∙ sym h'.0, h.1 ∙ sym h'.1)) (λ h h'. (h.0 ∙ sym h'.0, h.1 ∙ sym h'.1))
  ends_once early written a b = (a.0 ∙ sym b.0, a.1 ∙ sym b.1)

-- two writes over a value are one
pub writes_once : {V E : Type 0} (write : V → MeteredWrite V E) (s : MeteredValue V (Unit {0}))
    (result result' : Result (Unit {0}) E) (charge charge' : ℕ) (s' s'' : MeteredValue V (Unit {0}))
    → WritesCharging write s result charge s' → WritesCharging write s result' charge' s''
    → (result ≡ result') × (charge ≡ charge') × (s' ≡ s'')
writes_once write s result result' charge charge' s' s'' a b =
    let w = write s.value in
    let ends = ends_once w s result result' s' s'' w.early w.written a.writes b.writes in
    (ends.0, a.charged ∙ ap (write_charge w s) ends.0 ∙ sym b.charged, ends.1)
