-- What one quota holds, as memories and tables are made, grow and end under it: what an attempt adds to it, and the
-- sums of the sizes.
use Rattle.std.proofs.Common.{◌≡◌, ◌∙◌, ℕ, ◌+◌, ◌-◌, ◌*◌, ◌≤◌, true, false, Option, Some, None, Result, Ok, Err, List, [], ◌∷◌, ◌++◌, length, take, replicate, sum, refl, ap, sym, inl, inr, arith, length-append}
use Rattle.wasmi_c.proofs.Common.{nat_eq, length-replicate, length-take-le, Quota, Asked, HoldsTheSame, Releases, amount_held, with_less, with_more, IsWithinCaps, holdings, capped_quota, quota_rules, Answer, kind_of, optional_rules, Meter, Lent, creation_of, new_memory, MemoryTypeValue, minimum_bytes, page_bytes, new_table, size_of, TableTypeValue, creation_in, Embedded, KeepsQuota, Placed, limiter_of, quota_of, table_type_of, by_pages, ended_memory, of_memory, by_elements, ended_table, of_table, DONE, byte_count}
use Rattle.std.specs.Prelude.{slice_get}
use Rattle.std.proofs.lemmas.List.Elements.{All-cons, All-nil}
use Rattle.std.proofs.lemmas.Bool.{cases_lt}
use Rattle.std.proofs.lemmas.Bool.Decides.{nat_tests}
use Rattle.wasmi_meter.specs.declared.{error.MemoryError.MemoryError, error.TableError.TableError, limiter.Kind.Kind, quota.Holdings.Holdings}
use Rattle.wasmi_meter.specs.declared.error.MemoryError.TheVariants as memory_error
use Rattle.wasmi_meter.specs.declared.error.TableError.TheVariants as table_error
use Rattle.wasmi_meter.specs.declared.limiter.Kind.TheVariants.{Bytes, Elements}
use Rattle.wasmi_meter.specs.Attempt.{Request, AttemptOutcome, Unasked, Denied, Met, Failed, MayEnd, Follows, answer_of, value_after}
use Rattle.wasmi_meter.specs.CappedProofs.{asked_reserves}
use Rattle.wasmi_meter.proofs.CappedLemmas.{denial_keeps, given_back, asked_is_within, noticed_is_within, quota_keeps, released_within}
use Rattle.wasmi_store.specs.Growth.{Growth, Grows, Makes, metered_value}
use Rattle.wasmi_region.specs.Memory as memory
use Rattle.wasmi_region.specs.Table as table
use Rattle.wasmi_c.specs.MemoryCalls.{MakesEmbedded}
use Rattle.wasmi_c.specs.Placement.{EndsBy, GrowsBy, LeavesAs, Placement, status_of}
use Rattle.wasmi_c.specs.SharedQuota.{UnderQuota, HoldsSums, MakesUnder, GrowsUnder, EndsUnder, CallsUnder, OneQuotaHoldsAll, OneQuotaHoldsEach, other, sizes_made, sizes_of}
use Rattle.wasmi_c.specs.Status.{memory_status, table_status}
use Rattle.wasmi_c.specs.TableCalls.{MakesTableEmbedded}
use Rattle.wasmi_c.specs.declared.{numbers.MemoryNumbers.MemoryNumbers, numbers.QuotaNumbers.QuotaNumbers, numbers.TableNumbers.TableNumbers}
use Rattle.wasmi_machine.proofs.TotalLemmas.{sum_set, sum_push}
use Rattle.wasmi_machine.proofs.EffectLemmas.{on_live}

-- from one quota to another, so much more of a kind is held and the same of the other, and the caps are kept
pub record Counts (kind : Kind) (size size' : ℕ) (quota quota' : Quota) : Type 0 where
  pub held : amount_held (holdings quota') kind + size ≡ amount_held (holdings quota) kind + size'
  pub others : amount_held (holdings quota') (other kind) ≡ amount_held (holdings quota) (other kind)
  pub within : IsWithinCaps quota → IsWithinCaps quota'

-- what an attempt adds to a quota: after n more of a kind, n more of it is held
held_more : (kind : Kind) (n : ℕ) (h h' : Holdings) → h' ≡ with_more h kind n
    → (amount_held h' kind ≡ amount_held h kind + n) × (amount_held h' (other kind) ≡ amount_held h (other kind))
held_more Bytes n h h' more = rw more (refl, refl)
held_more Elements n h h' more = rw more (refl, refl)

-- where as much is held of each kind, as much is held of one
held_same : (kind : Kind) (h h' : Holdings) → HoldsTheSame h h'
    → (amount_held h' kind ≡ amount_held h kind) × (amount_held h' (other kind) ≡ amount_held h (other kind))
held_same Bytes h h' same = (same.bytes, same.elements)
held_same Elements h h' same = (same.elements, same.bytes)

-- after a memory or a table of n ended, which were given up, so many less are held
held_less : (kind : Kind) (n : ℕ) (h h' : Holdings) → Releases h kind n true h'
    → (amount_held h' kind + n ≡ amount_held h kind) × (amount_held h' (other kind) ≡ amount_held h (other kind))
held_less kind n h h' released =
    elim (cases_lt (amount_held h kind) n) [
      | inl short ↦ let refused : true ≡ false = (released.short short).0 in absurd (cc)
      | inr fits ↦ rw (released.held fits).1 (by_kind kind fits)
    ]
  where
    by_kind : (k : Kind) → n ≤ amount_held h k → (amount_held (with_less h k n) k + n ≡ amount_held h k)
        × (amount_held (with_less h k n) (other k) ≡ amount_held h (other k))
    by_kind Bytes fits = (omega (arith, fits), refl)
    by_kind Elements fits = (omega (arith, fits), refl)

-- where nothing has changed, a quota holds the same
pub nothing_counts : (kind : Kind) (size : ℕ) (quota quota' : Quota) → quota' ≡ quota
    → Counts kind size size quota quota'
nothing_counts kind size quota quota' same = rw same (record { held = refl; others = refl; within = λ caps. caps })

-- what an attempt adds to a quota is of one kind: its notices are of the kind that is asked for
abbrev pub TellsOfKind : {V E : Type 0} → Request V E → Type 0
TellsOfKind {E = E} e = (cause : E) → kind_of (e.notice cause) ≡ e.question.kind

module _ {V E : Type 0} (e : Request V E) where
  -- the kind that an attempt asks for
  abbrev pub kind : Kind
  kind = e.question.kind

  -- how much an attempt asks of the quota
  abbrev pub asked_for : ℕ
  asked_for = e.question.desired - e.question.current

  -- how much an attempt adds to what is held
  abbrev added : AttemptOutcome E → ℕ
  added Met = asked_for
  added outcome = 0

  module _ (tells : TellsOfKind e) (quota quota' : Quota) where
    -- an answer to the question counts as what is held more after it
    answer_counts : (answer : Answer) → Asked capped_quota quota e.question answer quota' → (n : ℕ)
        → (amount_held (holdings quota') kind ≡ amount_held (holdings quota) kind + n)
        × (amount_held (holdings quota') (other kind) ≡ amount_held (holdings quota) (other kind))
        → Counts kind 0 n quota quota'
    answer_counts answer asked n held = record {
      held = omega (arith, held.0);
      others = held.1;
      within = λ caps. asked_is_within capped_quota quota_keeps quota quota' caps e.question answer asked;
    }

    -- an attempt counts as what it adds, however it ends
    attempt_counts : (m : Option Meter) (outcome : AttemptOutcome E) → MayEnd e m outcome
        → Follows e (optional_rules quota_rules) (Some quota) outcome (Some quota')
        → Counts kind 0 (added outcome) quota quota'
    attempt_counts m (Unasked cause) may follows = nothing_counts kind 0 quota quota' (cc)
    attempt_counts m (Denied answer) may asked =
        let reserves = asked_reserves capped_quota quota quota' e.question answer asked in
        let same = held_same kind (holdings quota) (holdings quota')
        (denial_keeps e.question answer (holdings quota) (holdings quota') may.1 reserves) in
        answer_counts answer asked 0 (omega (arith, same.0), same.1)
    attempt_counts m Met may asked =
        answer_counts (Ok true) asked asked_for (held_more kind asked_for (holdings quota) (holdings quota')
        (asked_reserves capped_quota quota quota' e.question (Ok true) asked))
    attempt_counts m (Failed cause notice_answer) may (None, asked, noticed) = elim asked [ ]
    attempt_counts m (Failed cause notice_answer) may (Some p, asked, noticed) =
        let more = asked_reserves capped_quota quota p e.question (Ok true) asked in
        let back = rw (tells cause) at noticed.gives_back in
        let same = held_same kind (holdings quota) (holdings quota')
        (given_back kind asked_for (holdings quota) (holdings p) (holdings quota') more back) in
        record {
          held = omega (arith, same.0);
          others = same.1;
          within = λ caps.
              let permitted = asked_is_within capped_quota quota_keeps quota p caps e.question (Ok true) asked in
              noticed_is_within capped_quota quota_keeps p quota' permitted (e.notice cause) notice_answer noticed;
        }

-- what is made counts as what was asked for, and a refusal as nothing
module _ {T E : Type 0} (e : Request (Unit {0}) E) (made : T) (size : Result T E → ℕ)
    (full : size (Ok made) ≡ asked_for e) (empty : (cause : E) → size (Err cause) ≡ 0) where
  -- an attempt adds the size of its answer to what is held
  size_made : (outcome : AttemptOutcome E) → added e outcome ≡ size (answer_of e made outcome)
  size_made Met = sym full
  size_made outcome = sym (empty _)

  -- a creation counts as the size of what it answers
  pub creation_counts : TellsOfKind e → (quota quota' : Quota) (result : Result T E)
      → Makes (optional_rules quota_rules) e made (Some quota) result (Some quota')
      → Counts (kind e) 0 (size result) quota quota'
  creation_counts tells quota quota' result (outcome, attempt, answered) =
      rw (answered, ← size_made outcome)
      (attempt_counts e tells quota quota' None outcome attempt.may_end attempt.follows)

-- the size of what has grown is that of the value and what was asked for, and notices are of the kind that is asked for
pub record IsCounted {V E : Type 0} (g : Growth V E) (size : V → ℕ) (x : V) : Type 0 where
  pub full : size g.request.grown ≡ size x + asked_for g.request
  pub tells : TellsOfKind g.request

module _ {V E : Type 0} (g : Growth V E) (size : V → ℕ) (x : V) (counted : IsCounted g size x) where
  -- an attempt adds the same to the size as to what is held
  size_grown : (outcome : AttemptOutcome E) → size (value_after g.request x outcome) ≡ size x + added g.request outcome
  size_grown Met = counted.full
  size_grown outcome = omega arith

  -- a growth counts as the difference of the sizes, however it ends
  pub growth_counts : (m m' : Option Meter) (quota quota' : Quota) (x' : V) (result : Result ℕ E) (charge : ℕ)
      → Grows (optional_rules quota_rules) g (metered_value x m (Some quota)) result charge
      (metered_value x' m' (Some quota'))
      → Counts (kind g.request) (size x) (size x') quota quota'
  growth_counts m m' quota quota' x' result charge (inl none) =
      let value : x' ≡ x = ap (λ s. s.value) none.same in
      let limiter : Some quota' ≡ Some quota = ap (λ s. s.limiter) none.same in
      rw value (nothing_counts (kind g.request) (size x) quota quota' (cc))
  growth_counts m m' quota quota' x' result charge (inr some) =
      let counts = attempt_counts g.request counted.tells quota quota' m some.outcome some.attempt.may_end
      some.attempt.follows in
      let sizes = ap size some.attempt.value ∙ size_grown some.outcome in
      record { held = omega (arith, sizes, counts.held); others = counts.others; within = counts.within }

-- ---- sums of sizes

-- for the sums of the sizes: the length of n items is the difference of n and 0
pub length_made : (n y : ℕ) → length (replicate n y) ≡ n - 0
length_made n y = omega (arith, length-replicate {A = ℕ} n y)

-- for the sums of the sizes: the length after n more items is the length before, and the difference of the two
pub length_grown : (xs : List ℕ) (n y : ℕ) → length (xs ++ replicate n y) ≡ length xs + (length xs + n - length xs)
length_grown xs n y = omega (arith, length-append xs (replicate n y), length-replicate {A = ℕ} n y)

-- no error of a memory has the status of a call that is done, and so a refused creation adds nothing to the sizes
pub refused_status : (e : MemoryError) → nat_eq (memory_status e) 0 ≡ false
refused_status (memory_error.OutOfFuel required) = refl
refused_status other = refl

-- no error of a table has the status of a call that is done, and so a refused creation adds nothing to the sizes
refused_table_status : (e : TableError) → nat_eq (table_status e) 0 ≡ false
refused_table_status (table_error.OutOfFuel required) = refl
refused_table_status other = refl

-- the size of what was made, if it was
abbrev made_size : {V E : Type 0} → (V → ℕ) → Result V E → ℕ
made_size size (Ok x) = size x
made_size size (Err error) = 0

-- a creation that is done adds to the sum what stands at the front of its region
sum_made : (sizes : List ℕ) {status : ℕ} (made size : ℕ) (region : List ℕ) → status ≡ DONE → made ≡ size
    → made ≤ length region → sum (sizes_made sizes status made) ≡ sum sizes + length (take size region)
sum_made sizes made size region is sized within =
    rw (is, ← sized, length-take-le made region within) (sum_push sizes made)

-- a creation of a memory adds the bytes that were made to the sum
memory_summed : (ty : MemoryTypeValue) (p p' : Placed MemoryNumbers) (result : Result ℕ MemoryError) (status : ℕ)
    (sizes : List ℕ) → status ≡ status_of of_memory result → LeavesAs of_memory ty p result p'
    → sum (sizes_made sizes status p'.numbers.size) ≡ sum sizes + made_size byte_count (memory.made_in ty p'.region result)
memory_summed ty p p' (Ok n) status sizes is left = sum_made sizes _ n _ is (ap of_memory.size left.0) left.1.within
memory_summed ty p p' (Err e) status sizes is left = rw (is, refused_status e) (omega arith)

-- a creation of a table adds the elements that were made to the sum
table_summed : (ty : TableTypeValue) (p p' : Placed TableNumbers) (result : Result ℕ TableError) (status : ℕ)
    (sizes : List ℕ) → status ≡ status_of of_table result → LeavesAs of_table ty p result p'
    → sum (sizes_made sizes status p'.numbers.size) ≡ sum sizes + made_size size_of (table.made_in ty p'.region result)
table_summed ty p p' (Ok n) status sizes is left = sum_made sizes _ n _ is (ap of_table.size left.0) left.1.within
table_summed ty p p' (Err e) status sizes is left = rw (is, refused_table_status e) (omega arith)

-- ---- calls

-- the quota under which memories and tables are made, where it is on, is the limiter of its numbers
pub limiter_on : (h : QuotaNumbers) → (h.is_on ≡ 0 → ⊥) → limiter_of h ≡ Some (quota_of h)
limiter_on h on = let some : nat_eq h.is_on 0 ≡ false = grind (arith, nat_tests, on) in rw some refl

module _ (u u' : UnderQuota) (holds : HoldsSums u) (keeps : KeepsQuota u.quota u'.quota) where
  -- the quota before
  abbrev q : Quota
  q = quota_of u.quota

  -- the quota afterwards
  abbrev q' : Quota
  q' = quota_of u'.quota

  -- the quota stays on
  on : u'.quota.is_on ≡ 0 → ⊥
  on off = holds.on (sym keeps.flag ∙ off)

  -- if no limiter has changed, the quota hasn't
  same_quota : limiter_of u'.quota ≡ limiter_of u.quota → q' ≡ q
  same_quota same =
      let some : Some q' ≡ Some q = sym (limiter_on u'.quota on) ∙ same ∙ limiter_on u.quota holds.on in
      cc

  -- as the sum of the sizes of a kind, so what is held of it
  summed : (k : Kind) (size size' : ℕ) → Counts k size size' q q'
      → sum (sizes_of u' k) + size ≡ sum (sizes_of u k) + size' → sizes_of u' (other k) ≡ sizes_of u (other k)
      → HoldsSums u'
  summed Bytes size size' counts sums same = record {
    on = on;
    bytes = omega (arith, counts.held, holds.bytes, sums);
    elements = counts.others ∙ holds.elements ∙ ap sum (sym same);
    within = counts.within holds.within;
  }
  summed Elements size size' counts sums same = record {
    on = on;
    bytes = counts.others ∙ holds.bytes ∙ ap sum (sym same);
    elements = omega (arith, counts.held, holds.elements, sums);
    within = counts.within holds.within;
  }

  -- as long as the limiter is the same and so are the sizes, the sums are held
  summed_same : (k : Kind) → limiter_of u'.quota ≡ limiter_of u.quota → sizes_of u' k ≡ sizes_of u k
      → sizes_of u' (other k) ≡ sizes_of u (other k) → HoldsSums u'
  summed_same k limiter sizes same =
      summed k 0 0 (nothing_counts k 0 q q' (same_quota limiter)) (ap (λ (xs : List ℕ). sum xs + 0) sizes) same

  -- the sums are held after a memory is made
  memory_made : MakesUnder of_memory Bytes MakesEmbedded u u' → HoldsSums u'
  memory_made c =
      elim c.makes [
        | inl refused ↦ summed_same Bytes refused.3 (rw (c.sizes, refused.1) refl) c.others
        | inr made ↦
            let counts = creation_counts (creation_of (Lent c.before.region) made.0)
            (new_memory (Lent c.before.region) made.0) (made_size byte_count) (length_made (minimum_bytes made.0) 0) (λ cause. refl)
            (λ cause. refl) q q' _ (rw (limiter_on u.quota holds.on, limiter_on u'.quota on) at made.3.makes) in
            let sized = ap sum c.sizes
            ∙ memory_summed made.0 c.before c.after made.3.result c.status u.bytes made.3.status_is made.3.left in
            summed Bytes 0 _ counts (omega (arith, sized)) c.others
      ]

  -- the sums are held after a table is made
  table_made : (reference : ℕ) → MakesUnder of_table Elements (MakesTableEmbedded reference) u u' → HoldsSums u'
  table_made reference c =
      on_live (table_type_of c.before.numbers) _ _ c.makes
      (λ refused. summed_same Elements refused.2 (rw (c.sizes, refused.0) refl) c.others)
      (λ ty found made.
      let counts = creation_counts (creation_in ty (length c.before.region)) (new_table ty reference)
      (made_size size_of) (length_made ty.minimum reference) (λ cause. refl) (λ cause. refl) q q' _
      (rw (limiter_on u.quota holds.on, limiter_on u'.quota on) at made.makes) in
      let sized = ap sum c.sizes
      ∙ table_summed ty c.before c.after made.result c.status u.elements made.status_is made.left in
      summed Elements 0 _ counts (omega (arith, sized)) c.others)

  -- a growth by a call counts as the difference of the sizes, or as nothing where it isn't made
  module _ {H T V E : Type 0} (p : Placement H T V E) (growth : List ℕ → V → Growth V E) (count : V → ℕ) (k : Kind)
      (sizes : (h : H) (region : List ℕ) (ty : T) → p.IsAt h region ty
      → count (p.value ty region (p.size h)) ≡ p.size h)
      (counted : (region : List ℕ) (x : V) → IsCounted (growth region x) count x)
      (of_kind : (region : List ℕ) (x : V) → kind (growth region x).request ≡ k) where
    grown_counts : (s : Embedded H Quota) (status : ℕ) (s' : Embedded H Quota)
        → GrowsBy p quota_rules growth s status s' → s.limiter ≡ limiter_of u.quota → s'.limiter ≡ limiter_of u'.quota
        → Counts k (p.size s.numbers) (p.size s'.numbers) q q'
    grown_counts s status s' (inl refused) asked left =
        let limiter : limiter_of u'.quota ≡ limiter_of u.quota = sym left ∙ ap (λ s. s.limiter) refused.2 ∙ asked in
        rw refused.2 (nothing_counts k (p.size s.numbers) q q' (same_quota limiter))
    grown_counts s status s' (inr grown) asked left =
        let x = p.value grown.0 s.region (p.size s.numbers) in
        let grows = rw (asked, left, limiter_on u.quota holds.on, limiter_on u'.quota on) at grown.2.grows in
        rw (
          of_kind s.region x,
          sizes s.numbers s.region grown.0 grown.1,
          sizes s'.numbers s'.region grown.0 grown.2.state,
        ) at (growth_counts (growth s.region x) count x (counted s.region x) _ _ q q' _ _ _ grows.1)

    -- the sums are held after a growth
    grown : GrowsUnder p k growth u u' → HoldsSums u'
    grown c = summed k _ _ (grown_counts c.before c.status c.after c.grows c.asked c.left)
        (rw c.sizes (sum_set (sizes_of u k) c.index _ _ c.there)) c.others

  -- the sums are held after a growth of a memory
  memory_grown : (pages : ℕ) → GrowsUnder of_memory Bytes (by_pages pages) u u' → HoldsSums u'
  memory_grown pages = grown of_memory (by_pages pages) byte_count Bytes
      (λ h region ty at. length-take-le h.size region at.within)
      (λ region x. record {
        full = length_grown x.bytes (pages * page_bytes x.ty.page) 0;
        tells = λ cause. refl;
      })
      (λ region x. refl)

  -- the sums are held after a growth of a table
  table_grown : (delta reference : ℕ) → GrowsUnder of_table Elements (by_elements delta reference) u u' → HoldsSums u'
  table_grown delta reference = grown of_table (by_elements delta reference) size_of Elements
      (λ h region ty at. length-take-le h.size region at.within)
      (λ region x. record { full = length_grown x.elements delta reference; tells = λ cause. refl })
      (λ region x. refl)

  -- an end by a call counts as the size that is given up, or as nothing where it isn't made
  module _ {H T V E : Type 0} (p : Placement H T V E) (k : Kind) (ended : H → H)
      (nothing : (h : H) → p.size (ended h) ≡ 0) where
    ended_counts : (a : Placed H) (status : ℕ) (h' : H)
        → EndsBy p k ended a (limiter_of u.quota) status h' (limiter_of u'.quota)
        → Counts k (p.size a.numbers) (p.size h') q q'
    ended_counts a status h' (inl refused) =
        rw refused.2.0 (nothing_counts k (p.size a.numbers) q q' (same_quota refused.2.1))
    ended_counts a status h' (inr (ty, at, inr less)) =
        rw less.2 (nothing_counts k (p.size a.numbers) q q' (same_quota less.3))
    ended_counts a status h' (inr (ty, at, inl done)) =
        let releases = rw (limiter_on u.quota holds.on, limiter_on u'.quota on) at done.0 in
        let less = held_less k (p.size a.numbers) (holdings q) (holdings q') releases.0 in
        record {
          held = omega (arith, less.0, ap p.size done.2 ∙ nothing a.numbers);
          others = less.1;
          within = released_within q q' k (p.size a.numbers) true releases.0 releases.1;
        }

    -- the sums are held after an end
    gone : EndsUnder p k ended u u' → HoldsSums u'
    gone c = summed k _ _ (ended_counts c.before c.status c.after c.ends)
        (rw c.sizes (sum_set (sizes_of u k) c.index _ _ c.there)) c.others

-- the sums are held after a call
after_call : (u u' : UnderQuota) → HoldsSums u → CallsUnder u u' → HoldsSums u'
after_call u u' holds (keeps, call) = elim call [
  | inl made ↦ memory_made u u' holds keeps made
  | inr (inl (pages, grown)) ↦ memory_grown u u' holds keeps pages grown
  | inr (inr (inl (reference, made))) ↦ table_made u u' holds keeps reference made
  | inr (inr (inr (inl (delta, reference, grown)))) ↦ table_grown u u' holds keeps delta reference grown
  | inr (inr (inr (inr (inl ended)))) ↦ gone u u' holds keeps of_memory Bytes ended_memory (λ h. refl) ended
  | inr (inr (inr (inr (inr ended)))) ↦ gone u u' holds keeps of_table Elements ended_table (λ h. refl) ended
]

-- the sums are held after all calls
pub one_quota_holds_all : OneQuotaHoldsAll
one_quota_holds_all u [] holds calls = All-nil HoldsSums
one_quota_holds_all u (u' ∷ after) holds calls =
    let held = after_call u u' holds calls.0 in
    All-cons HoldsSums u' after held (one_quota_holds_all u' after held calls.1)

-- a sum of sizes under one quota is at least each of them
part_of_sum : (sizes : List ℕ) (k size : ℕ) → slice_get sizes k ≡ Some size → size ≤ sum sizes
part_of_sum sizes k size there = omega (arith, sum_set sizes k size 0 there)

-- a quota that holds the sums holds the size of each
pub one_quota_holds_each : OneQuotaHoldsEach
one_quota_holds_each u holds index size = (
  λ there. let part = part_of_sum u.bytes index size there in omega (arith, part, holds.bytes),
  λ there. let part = part_of_sum u.elements index size there in omega (arith, part, holds.elements),
)
