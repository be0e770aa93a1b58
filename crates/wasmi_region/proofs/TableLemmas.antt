-- Tables whose elements are the first of a region: the growth of such a table.
use Rattle.std.proofs.Common.{Option, ◌≡◌, ℕ, ◌+◌, ◌-◌, ◌≤◌, ◌<◌, List, ◌++◌, true, Ok, length, take, drop, replicate, refl, sym, arith}
use Rattle.std.proofs.lemmas.List.{length-take-le}
use Rattle.wasmi_meter.specs.Attempt.{Request}
use Rattle.wasmi_region.proofs.Common.{Question, Answer, Rules, TableValue, size_of, element_price, with_added, TableTypeValue, is_indexable, is_within_maximum, table_in, growth_in, region_growth, permitted_by, GrowthAttempt, growing, PermitsGrowth}
use Rattle.wasmi_meter.specs.Meter.{Meter, due}
use Rattle.wasmi_meter.specs.declared.error.TableError.{TableError}
use Rattle.wasmi_meter.specs.declared.error.TableError.TheVariants.{GrowOutOfBounds, OutOfSystemMemory}
use Rattle.wasmi_meter.specs.declared.limiter.Kind.TheVariants.{Elements}
use Rattle.wasmi_store.specs.Growth.{IsAsked}
use Rattle.wasmi_store.proofs.TableLemmas.{growth_asked}
use Rattle.wasmi_region.proofs.MemoryLemmas.{filled_part}

-- a growth of a table on a region by 1 or more, with what it begins with
pub record RegionGrowth (S : Type 0) : Type 1 where
  pub limits : Rules S
  pub ty : TableTypeValue
  pub region : List ℕ
  pub size : ℕ
  pub within : size ≤ length region
  pub meter : Meter
  pub limiter : S
  pub delta : ℕ
  pub reference : ℕ
  pub some : delta ≡ 0 → ⊥

module _ {S : Type 0} (t : RegionGrowth S) where
  abbrev x : TableValue
  x = table_in t.ty t.region t.size

  -- the table has so many elements
  pub sized : t.size ≡ size_of x
  sized = sym (length-take-le t.size t.region t.within)

  abbrev request : Request TableValue TableError
  request = growth_in (length t.region) x t.delta t.reference

  abbrev pub attempt : GrowthAttempt TableValue TableError S
  attempt = growing t.limits (region_growth (length t.region) t.delta t.reference) x t.meter t.limiter t.some

  abbrev question : ℕ → Option ℕ → Question
  question desired maximum = record { kind = Elements; current = t.size; desired = desired; maximum = maximum }

  -- a growth up to what can be indexed asks for its sizes
  pub asked_in : {desired : ℕ} {maximum : Option ℕ}
      → (is_indexable t.ty (t.size + t.delta) ≡ true) × (desired ≡ t.size + t.delta) → maximum ≡ t.ty.maximum
      → IsAsked request (question desired maximum)
  asked_in found most = growth_asked x t.delta t.reference sized found most

  -- the growth is permitted where it was asked for the sizes, and the limiter said yes
  pub permits : {desired : ℕ} {maximum : Option ℕ} {answer : Answer} {p : S}
      → (is_indexable t.ty (t.size + t.delta) ≡ true) × (desired ≡ t.size + t.delta) → maximum ≡ t.ty.maximum
      → answer ≡ Ok true → t.limits.asked t.limiter (question desired maximum) answer p
      → PermitsGrowth attempt p (is_within_maximum t.ty desired) GrowOutOfBounds (due t.meter (element_price t.delta))
  permits found most says asks = record {
    permits = permitted_by t.limits request _ (asked_in found most) t.limiter _ (rw says at asks);
    late = rw (rw sized at found.1) refl;
    due = refl;
  }

  -- a region that is shorter than the new size refuses the growth
  pub is_short : {desired : ℕ} → desired ≡ t.size + t.delta → length t.region < desired
      → request.refuses OutOfSystemMemory
  is_short reaches short =
      let reaches = rw sized at reaches in ((refl, omega (arith, t.some)), omega (arith, short, reaches))

  -- with references from the old size to the new one, the region has the table that has grown
  pub grown : (desired : ℕ) → desired ≡ t.size + t.delta → (region' : List ℕ)
      → region' ≡ take t.size t.region ++ replicate (desired - t.size) t.reference ++ drop desired t.region
      → table_in t.ty region' desired ≡ with_added x t.delta t.reference
  grown desired reaches region' filled =
      let part = filled_part t.region region' t.size desired t.reference (omega arith) t.within filled in
      let added : desired - t.size ≡ t.delta = omega arith in
      rw (part.0, added) refl
