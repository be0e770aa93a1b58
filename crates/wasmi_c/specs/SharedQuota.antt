-- One quota over many memories and tables that lie with C.
use Rattle.std.specs.Prelude.{◌≡◌, ◌≤◌, ◌⊎◌, ℕ, List, [], ◌∷◌, ◌++◌, All, sum, slice_get, slice_set, nat_eq, if◌then◌else◌, Option, Some}
use Rattle.wasmi_meter.specs.Capped.{IsWithinCaps, quota_rules}
use Rattle.wasmi_meter.specs.declared.{limiter.Kind.Kind, quota.Quota.Quota}
use Rattle.wasmi_meter.specs.declared.limiter.Kind.TheVariants.{Bytes, Elements}
use Rattle.wasmi_store.specs.Growth.{Growth}
use Rattle.wasmi_c.specs.MemoryCalls.{MakesEmbedded, by_pages, ended_memory, of_memory}
use Rattle.wasmi_c.specs.Numbers.{Embedded, KeepsQuota, Placed, limiter_of, quota_of}
use Rattle.wasmi_c.specs.Placement.{EndsBy, GrowsBy, Placement}
use Rattle.wasmi_c.specs.declared.status.TheConstants.{DONE}
use Rattle.wasmi_c.specs.TableCalls.{MakesTableEmbedded, by_elements, ended_table, of_table}
use Rattle.wasmi_c.specs.declared.numbers.QuotaNumbers.{QuotaNumbers}

-- a quota, and the sizes of what was made under it: of memories in bytes, and of tables in elements
pub record UnderQuota : Type 0 where
  pub quota : QuotaNumbers
  pub bytes : List ℕ
  pub elements : List ℕ

-- a quota that is on holds the sums of the sizes, within its caps
pub record HoldsSums (u : UnderQuota) : Type 0 where
  pub on : u.quota.is_on ≡ 0 → ⊥
  pub bytes : u.quota.held_bytes ≡ sum u.bytes
  pub elements : u.quota.held_elements ≡ sum u.elements
  pub within : IsWithinCaps (quota_of u.quota)

-- sizes after a creation with this status: one more if it is done
abbrev pub sizes_made : List ℕ → ℕ → ℕ → List ℕ
sizes_made sizes status size = if nat_eq status DONE then sizes ++ size ∷ [] else sizes

-- the sizes of one kind
abbrev pub sizes_of : UnderQuota → Kind → List ℕ
sizes_of u Bytes = u.bytes
sizes_of u Elements = u.elements

-- under one quota, the kind that isn't this one
abbrev pub other : Kind → Kind
other Bytes = Elements
other Elements = Bytes

module _ {H T V E : Type 0} (p : Placement H T V E) (kind : Kind) where
  -- a memory or a table is made under a quota by a call
  pub record MakesUnder (Makes : Placed H → Option Quota → ℕ → Placed H → Option Quota → Type 0) (u u' : UnderQuota)
      : Type 0 where
    pub before : Placed H
    pub status : ℕ
    pub after : Placed H
    pub makes : Makes before (limiter_of u.quota) status after (limiter_of u'.quota)
    pub sizes : sizes_of u' kind ≡ sizes_made (sizes_of u kind) status (p.size after.numbers)
    pub others : sizes_of u' (other kind) ≡ sizes_of u (other kind)

  -- a memory or a table grows under a quota by a call
  pub record GrowsUnder (growth : List ℕ → V → Growth V E) (u u' : UnderQuota) : Type 0 where
    pub index : ℕ
    pub before : Embedded H Quota
    pub status : ℕ
    pub after : Embedded H Quota
    pub grows : GrowsBy p quota_rules growth before status after
    pub asked : before.limiter ≡ limiter_of u.quota
    pub left : after.limiter ≡ limiter_of u'.quota
    pub there : slice_get (sizes_of u kind) index ≡ Some (p.size before.numbers)
    pub sizes : sizes_of u' kind ≡ slice_set (sizes_of u kind) index (p.size after.numbers)
    pub others : sizes_of u' (other kind) ≡ sizes_of u (other kind)

  -- a memory or a table ends by a call, and its size is given up
  pub record EndsUnder (ended : H → H) (u u' : UnderQuota) : Type 0 where
    pub index : ℕ
    pub before : Placed H
    pub status : ℕ
    pub after : H
    pub ends : EndsBy p kind ended before (limiter_of u.quota) status after (limiter_of u'.quota)
    pub there : slice_get (sizes_of u kind) index ≡ Some (p.size before.numbers)
    pub sizes : sizes_of u' kind ≡ slice_set (sizes_of u kind) index (p.size after)
    pub others : sizes_of u' (other kind) ≡ sizes_of u (other kind)

-- a call under a quota, which keeps the quota's flag
abbrev pub CallsUnder : UnderQuota → UnderQuota → Type 0
CallsUnder u u' =
    KeepsQuota u.quota u'.quota
    × (MakesUnder of_memory Bytes MakesEmbedded u u'
    ⊎ ((pages : ℕ) × GrowsUnder of_memory Bytes (by_pages pages) u u')
    ⊎ ((reference : ℕ) × MakesUnder of_table Elements (MakesTableEmbedded reference) u u')
    ⊎ ((delta reference : ℕ) × GrowsUnder of_table Elements (by_elements delta reference) u u')
    ⊎ EndsUnder of_memory Bytes ended_memory u u'
    ⊎ EndsUnder of_table Elements ended_table u u')

-- calls in turn, with what is under the quota after each
abbrev pub CallsInTurn : UnderQuota → List UnderQuota → Type 0
CallsInTurn u [] = Unit {0}
CallsInTurn u (u' ∷ after) = CallsUnder u u' × CallsInTurn u' after

-- after each of the calls in turn a quota holds the sums of the sizes, within its caps, if it did at first
abbrev pub OneQuotaHoldsAll : Type 0
OneQuotaHoldsAll = (u : UnderQuota) (after : List UnderQuota) → HoldsSums u → CallsInTurn u after → All HoldsSums after

-- a quota that holds the sums of the sizes holds each of them, so it gives up what a memory or a table has that ends
abbrev pub OneQuotaHoldsEach : Type 0
OneQuotaHoldsEach = (u : UnderQuota) → HoldsSums u → (index size : ℕ)
    → (slice_get u.bytes index ≡ Some size → size ≤ u.quota.held_bytes)
    × (slice_get u.elements index ≡ Some size → size ≤ u.quota.held_elements)
