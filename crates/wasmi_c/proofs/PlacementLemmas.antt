-- Creations and growths of what lies with C, and writes to it: what they take of its meter, and that they are under
-- another limiter too, the quota of some numbers or one that allows the host's answers; and growths that ask no
-- limiter.
use Rattle.std.proofs.Common.{◌≡◌, Bool, true, false, ℕ, ◌-◌, Option, Some, None, Result, refl, ap, inl, inr, Ok, List, take, drop, length, ◌++◌, ◌∙◌, ◌⊎◌, ◌+◌, ◌/◌, ◌≤◌, arith}
use Rattle.wasmi_c.proofs.Common.{take_at, drop_at, nat_eq, if◌then◌else◌, option_map, unwrap_or, Rules, Question, Answer, Failure, NoticeAnswer, optional_rules, AskedIf, NoticedIf, Meter, meter_after, meter_of, with_left, KeepsMeter, MeteredRegion, SameRest, limiter_of, quota_numbers_rules, KeepsQuota, page_bytes, by_pages, MemoryValue, Embedded, embedded, IsState, length-take-le, of_memory, WritesTableAs, of_table, TableTypeValue, TableValue, TableWrite, WritesTable, table_of, Quota, quota_rules, Placed, Lent, MemoryTypeValue, creation_of}
use Rattle.std.specs.Prelude.{OnErr}
use Rattle.std.proofs.lemmas.Grind.{common_steps}
use Rattle.wasmi_store.specs.Growth.{Growth, Grows, metered_value, metered}
use Rattle.wasmi_store.specs.Memory.{IsValid, MakesMemory, in_bounds, named_type}
use Rattle.wasmi_store.specs.Write.{BulkWrites, item_price}
use Rattle.wasmi_region.specs.Memory.{made_in, memory_in}
use Rattle.wasmi_meter.specs.declared.error.MemoryError.TheVariants.{OutOfBoundsAccess, OutOfFuel}
use Rattle.wasmi_store.proofs.GrowthLemmas.{grows_too}
use Rattle.wasmi_store.proofs.WriteLemmas.{items_taken, write_takes}
use Rattle.wasmi_c.specs.declared.{numbers.MeterNumbers.MeterNumbers, numbers.Range.Range, numbers.MemoryNumbers.MemoryNumbers, numbers.QuotaNumbers.QuotaNumbers, host.HostAnswers.HostAnswers}
use Rattle.wasmi_meter.specs.declared.{error.MemoryError.MemoryError, error.TableError.TableError}
use Rattle.wasmi_meter.proofs.AttemptLemmas.{meter_after_nothing}
use Rattle.wasmi_meter.specs.Attempt.{MeteredValue, Attempt, Request, AttemptOutcome, Unasked, Denied, Met, Failed, Follows, answer_of}
use Rattle.wasmi_c.specs.Placement.{status_of, grown_number, written_number, Placement, GrowsAs, GrowsBy, LeavesAs, WritesAs, Limited, limiter_after, Allows, SettlesGrowth, SettlesCreation}
use Rattle.wasmi_c.specs.MemoryCalls.{MakesEmbedded, WritesBytesEmbedded}
use Rattle.wasmi_c.specs.Numbers.{settings_of}
use Rattle.wasmi_c.specs.Host.{fresh, host_rules}

-- a growth of what lies with C takes its charge from the meter
growth_charged : {V E S : Type 0} (rules : Rules S) (g : Growth V E) (s s' : MeteredValue V S) (result : Result ℕ E)
    (charge : ℕ) → Grows rules g s result charge s' → s'.meter ≡ option_map (λ m. meter_after m charge) s.meter
growth_charged rules g s s' result charge (inl none) = rw (none.same, none.uncharged) (meter_after_nothing s.meter)
growth_charged rules g s s' result charge (inr some) = some.attempt.meter

-- what is kept of a meter's number, which is there or not
kept_number : (off : Bool) (n charge : ℕ)
    → (let number : Option ℕ = if off then None else Some n in
    let after : Option ℕ = option_map (λ left. left - charge) number in
    let again : Option ℕ = if off then None else Some (unwrap_or after n) in
    again ≡ after)
kept_number true n charge = refl
kept_number false n charge = refl

-- numbers that keep what is left of their meter stand for the meter that is left, and keep all else
kept : (h h' : MeterNumbers) (m' : Meter) (charge : ℕ) → h' ≡ with_left h m'.left
    → Some m' ≡ Some (meter_after (meter_of h) charge) → (meter_of h' ≡ m') × KeepsMeter h h'
kept h h' m' charge left taken =
    let after : m' ≡ meter_after (meter_of h) charge = cc in
    let same : meter_of (with_left h m'.left) ≡ m' =
    rw after
    (ap (λ (left : Option ℕ). (let m : Meter = record { left = left; costs = (meter_of h).costs } in m))
    (kept_number (nat_eq h.is_on 0) h.left charge)) in
    let off = λ (is_off : h.is_on ≡ 0). (let none : m'.left ≡ None = rw (after, is_off) refl in ap (with_left h) none) in
    rw left (same, record { others = refl; off = off })

-- a write over the front of a region that takes an amount from the meter is one of what lies with C
written_by : {H T V E : Type 0} (p : Placement H T V E)
    (Writes : List ℕ → Meter → Result (Unit {0}) E → List ℕ → Meter → Type 0) (size : ℕ) (s s' : MeteredRegion)
    (after : List ℕ) (m' : Meter) (result : Result (Unit {0}) E) (status : ℕ)
    → (charge : ℕ) × (Some m' ≡ Some (meter_after (meter_of s.meter) charge))
    → s'.meter ≡ with_left s.meter m'.left
    → Writes (take size s.region) (meter_of s.meter) result after m'
    → length after ≡ size → s'.region ≡ after ++ drop size s.region
    → (status ≡ status_of p result) × (s'.number ≡ written_number p result s.number)
    → WritesAs p Writes size s status s'
written_by p Writes size s s' after m' result status charged left writes long placed tells =
    let rest = drop size s.region in
    let keeps = kept s.meter s'.meter m' charged.0 left charged.1 in
    record {
      result = result;
      writes = rw (ap (take size) placed ∙ take_at after rest size long, keeps.0) writes;
      rest = ap (drop size) placed ∙ drop_at after rest size long;
      kept = keeps.1;
      status_is = tells.0;
      number_is = tells.1;
    }

-- a write of bytes over the front of a region is one of what lies with C
pub written_with : (written : Range → List ℕ → Option (List ℕ)) (range : Range) (h : MemoryNumbers)
    (ty : MemoryTypeValue) (s s' : MeteredRegion) (after : List ℕ) (m' : Meter) (result : Result (Unit {0}) MemoryError)
    (status : ℕ) → IsState h s.region ty → s'.meter ≡ with_left s.meter m'.left
    → BulkWrites (written range (take h.size s.region)) range.count
    (metered (take h.size s.region) (Some (meter_of s.meter))) result (metered after (Some m'))
    → length after ≡ length (take h.size s.region) → s'.region ≡ after ++ drop h.size s.region
    → (status ≡ status_of of_memory result) × (s'.number ≡ written_number of_memory result s.number)
    → WritesBytesEmbedded written range h s status s'
written_with written range h ty s s' after m' result status at left writes long placed tells =
    let charged = items_taken OutOfFuel (written range (take h.size s.region)) OutOfBoundsAccess
    (Some (item_price 1 range.count)) _ _ result writes in
    let same = long ∙ length-take-le h.size s.region at.within in
    inr (ty, at, written_by of_memory _ h.size s s' after m' result status charged left writes same placed tells)

-- a write of elements over the front of a region is one of what lies with C
pub table_written_with : (write : TableValue → TableWrite) (ty : TableTypeValue) (size : ℕ) (s s' : MeteredRegion)
    (after : List ℕ) (m' : Meter) (result : Result (Unit {0}) TableError) (status : ℕ)
    → s'.meter ≡ with_left s.meter m'.left
    → WritesTable write (metered (table_of ty (take size s.region)) (Some (meter_of s.meter))) result
    (metered (table_of ty after) (Some m'))
    → length after ≡ size → s'.region ≡ after ++ drop size s.region
    → (status ≡ status_of of_table result) × (s'.number ≡ written_number of_table result s.number)
    → WritesTableAs write ty size s status s'
table_written_with write ty size s s' after m' result status left writes =
    written_by of_table _ size s s' after m' result status
    (writes.0, write_takes write _ result writes.0 _ writes.1) left writes

-- the rules of a quota's numbers, where they are lent
abbrev lent_rules : Rules (Option QuotaNumbers)
lent_rules = optional_rules quota_numbers_rules

-- the quota of numbers that are lent
abbrev seen : Option QuotaNumbers → Option Quota
seen None = None
seen (Some h) = limiter_of h

-- what numbers that are lent answer to a question, their quota answers
asks : (l : Option QuotaNumbers) (question : Question) (answer : Answer) (l' : Option QuotaNumbers)
    → lent_rules.asked l question answer l' → (optional_rules quota_rules).asked (seen l) question answer (seen l')
asks (Some h) question answer (Some h') asked = asked.0
asks (Some h) question answer None asked = absurd asked
asks None question answer (Some h') asked = absurd asked
asks None question answer None asked = asked

-- what numbers that are lent answer to a notice, their quota answers
notices : (l : Option QuotaNumbers) (failure : Failure) (answer : NoticeAnswer) (l' : Option QuotaNumbers)
    → lent_rules.noticed l failure answer l'
    → (optional_rules quota_rules).noticed (seen l) failure answer (seen l')
notices (Some h) failure answer (Some h') noticed = noticed.0
notices (Some h) failure answer None noticed = absurd noticed
notices None failure answer (Some h') noticed = absurd noticed
notices None failure answer None noticed = noticed

-- the quota of numbers that are lent sees every end of an attempt that they see
follows : {V E : Type 0} (e : Request V E) (l l' : Option QuotaNumbers) (outcome : AttemptOutcome E)
    → Follows e lent_rules l outcome l' → Follows e (optional_rules quota_rules) (seen l) outcome (seen l')
follows e l l' (Unasked cause) same = ap seen same
follows e l l' (Denied answer) asked = asks l e.question answer l' asked
follows e l l' Met asked = asks l e.question (Ok true) l' asked
follows e l l' (Failed cause answer) (p, asked, noticed) =
    (seen p, asks l e.question (Ok true) p asked, notices p (e.notice cause) answer l' noticed)

-- an attempt under a limiter is one under another that sees the same end
attempt_by : {V E S R : Type 0} {rules : Rules S} {rules' : Rules R} {e : Request V E} {s s' : MeteredValue V S}
    {outcome : AttemptOutcome E} {charge : ℕ} (r r' : R) → Attempt rules e s outcome charge s'
    → Follows e rules' r outcome r'
    → Attempt rules' e (metered_value s.value s.meter r) outcome charge (metered_value s'.value s'.meter r')
attempt_by r r' a follows =
    record { may_end = a.may_end; follows = follows; charged = a.charged; meter = a.meter; value = a.value }

-- a growth under a limiter is one under another that stays where it stays, and sees the same end of each attempt
growth_by : {V E S R : Type 0} {rules : Rules S} {rules' : Rules R} (g : Growth V E) {s s' : MeteredValue V S}
    {result : Result ℕ E} {charge : ℕ} (r r' : R) → (s'.limiter ≡ s.limiter → r' ≡ r)
    → ((outcome : AttemptOutcome E) → Follows g.request rules s.limiter outcome s'.limiter
    → Follows g.request rules' r outcome r')
    → Grows rules g s result charge s'
    → Grows rules' g (metered_value s.value s.meter r) result charge (metered_value s'.value s'.meter r')
growth_by g r r' stays follows = grows_too g g.request
    (λ same. rw (same, stays (ap (λ s. s.limiter) same)) refl)
    (λ outcome answered a. (answered, attempt_by r r' a (follows outcome a.follows)))

-- a creation of a memory under the numbers of a quota, which may be off, is one by a call
pub makes_memory : (a a' : Placed MemoryNumbers) (ty : MemoryTypeValue) (q q' : QuotaNumbers) {status : ℕ}
    → (named_type (settings_of a.numbers) ≡ Some ty) × IsValid ty → (result : Result ℕ MemoryError)
    → MakesMemory (optional_rules quota_numbers_rules) (Lent a.region) ty (Some q) (made_in ty a'.region result) (Some q')
    → status ≡ status_of of_memory result → LeavesAs of_memory ty a result a'
    → MakesEmbedded a (limiter_of q) status a' (limiter_of q')
makes_memory a a' ty q q' named result makes is left = inr (
  ty,
  named.0,
  named.1,
  record {
    result = result;
    makes = (
      makes.0,
      attempt_by (limiter_of q) (limiter_of q') makes.1
          (follows (creation_of (Lent a.region) ty) (Some q) (Some q') makes.0 makes.1.follows),
      makes.2,
    );
    status_is = is;
    left = left;
  },
)

-- a creation of what lies with C that is done has made what was to be made
pub made_is : {T E : Type 0} (e : Request (Unit {0}) E) (made x : T) (outcome : AttemptOutcome E)
    → Ok x ≡ answer_of e made outcome → x ≡ made
made_is e made x Met is = cc
made_is e made x outcome is = cc

module _ {H T V E : Type 0} (p : Placement H T V E) (growth : List ℕ → V → Growth V E) (ty : T) where
  -- the value at the front of a region
  abbrev value_in : {S : Type 0} → Embedded H S → V
  value_in s = p.value ty s.region (p.size s.numbers)

  -- a growth under a limiter is one under another, if what it does to the value and the meter is
  pub under : {S R : Type 0} {rules : Rules S} {rules' : Rules R} {s s' : Embedded H S} {status : ℕ}
      (g : GrowsAs p rules growth ty s status s') (l l' : Option R)
      → Grows (optional_rules rules') (growth s.region (value_in s))
      (metered_value (value_in s) (Some (meter_of s.meter)) l) g.result g.grows.0
      (metered_value (value_in s') (Some (meter_of s'.meter)) l')
      → GrowsAs p rules' growth ty (embedded s.numbers s.region s.meter l s.number) status
      (embedded s'.numbers s'.region s'.meter l' s'.number)
  under g l l' grows = record {
    result = g.result;
    state = g.state;
    numbers = g.numbers;
    grows = (g.grows.0, grows);
    meter = g.meter;
    rest = g.rest;
    refused = g.refused;
    status_is = g.status_is;
    number_is = g.number_is;
  }

  -- a growth under the numbers of a quota, which may be off, is one under the quota
  pub by_quota : {h h' : H} {region region' : List ℕ} {m m' : MeterNumbers} {n n' status : ℕ} (q q' : QuotaNumbers)
      → p.IsAt h region ty → GrowsAs p quota_numbers_rules growth ty (embedded h region m (Some q) n) status
      (embedded h' region' m' (Some q') n')
      → GrowsBy p quota_rules growth (embedded h region m (limiter_of q) n) status
      (embedded h' region' m' (limiter_of q') n')
  by_quota {h = h} {region = region} q q' at g =
      let grown = growth region (p.value ty region (p.size h)) in
      let acts = under g (limiter_of q) (limiter_of q')
      (growth_by grown (limiter_of q) (limiter_of q') (ap seen) (follows grown.request (Some q) (Some q')) g.grows.1) in
      inr (ty, at, acts)

  -- a growth keeps the numbers of a quota
  pub keeps_quota : {h h' : H} {region region' : List ℕ} {m m' : MeterNumbers} {n n' status : ℕ} {q q' : QuotaNumbers}
      → GrowsAs p quota_numbers_rules growth ty (embedded h region m (Some q) n) status
      (embedded h' region' m' (Some q') n') → KeepsQuota q q'
  keeps_quota g = grind (arith, common_steps)

  -- a growth of the library on a region under a lent limiter, with what is left of its meter, is one of what lies with C
  pub grown_with : {S : Type 0} {rules : Rules S} {s s' : Embedded H S} {status : ℕ} {result : Result ℕ E} {m' : Meter}
      (l l' : Option S) → l ≡ s.limiter → l' ≡ s'.limiter → s'.meter ≡ with_left s.meter m'.left
      → (charge : ℕ) × Grows (optional_rules rules) (growth s.region (value_in s))
      (metered_value (value_in s) (Some (meter_of s.meter)) l) result charge (metered_value (value_in s') (Some m') l')
      → p.IsAt s'.numbers s'.region ty → s'.numbers ≡ p.resized s.numbers (p.size s'.numbers)
      → SameRest (p.size s'.numbers) s.region s'.region → OnErr result (s'.region ≡ s.region)
      → (status ≡ status_of p result) × (s'.number ≡ grown_number p result s.number)
      → GrowsAs p rules growth ty s status s'
  grown_with {s = s} {s' = s'} l l' before after left grows at numbers rest refused tells =
      let charged = growth_charged _ (growth s.region (value_in s)) _ _ _ grows.0 grows.1 in
      let keeps = kept s.meter s'.meter _ grows.0 left charged in
      record {
        result = _;
        state = at;
        numbers = numbers;
        grows = (grows.0, rw (← before, ← after, keeps.0) grows.1);
        meter = keeps.1;
        rest = rest;
        refused = refused;
        status_is = tells.0;
        number_is = tells.1;
      }

-- a growth of a memory by 0 pages, or by more than its type allows, asks no limiter
pub pages_unasked : {S : Type 0} {rules : Rules (Option S)} {ty ty' : MemoryTypeValue} {pages size : ℕ}
    (region : List ℕ) {x x' : MemoryValue} {m m' : Option Meter} {l l' : S} {result : Result ℕ MemoryError} {charge : ℕ}
    → Grows rules (by_pages pages region (memory_in ty region size)) (metered_value x m (Some l)) result charge
    (metered_value x' m' (Some l')) → Some ty' ≡ Some ty → size ≤ length region
    → (pages ≡ 0) ⊎ (in_bounds ty' (size / page_bytes ty'.page + pages) ≡ false) → l' ≡ l
pages_unasked region grows same within none = grind (arith, common_steps)

module _ {V E S : Type 0} (rules : Rules S) (e : Request V E) (a a' : HostAnswers) (l : Limited S)
    (allows : Allows rules e a' l) where
  -- an answer to the question is one by the rules, and the limiter is then what it was after the question
  by_answer : (answer : Answer)
      → AskedIf host_rules (Some (fresh a)) e.question answer (Some a')
      → rules.asked l.before e.question answer (limiter_after a' l)
  by_answer answer asks =
      let kept : a'.answer ≡ a.answer = rw asks.1 refl in
      let state : limiter_after a' l ≡ l.asked = rw asks.1 refl in
      rw (state, asks.0, ← kept) (allows.asks (rw asks.1 refl))

  -- a failure after the permission is one by the rules, and the limiter is then what it was after the notice
  by_failure : (cause : E) (notice_answer : NoticeAnswer) (permitted : Option HostAnswers)
      → AskedIf host_rules (Some (fresh a)) e.question (Ok true) permitted
      → NoticedIf host_rules permitted (e.notice cause) notice_answer (Some a')
      → (p : S) × rules.asked l.before e.question (Ok true) p
      × rules.noticed p (e.notice cause) notice_answer (limiter_after a' l)
  by_failure cause notice_answer None asks tells = absurd asks
  by_failure cause notice_answer (Some b) asks tells =
      let answered : a'.answer ≡ a.answer = rw (tells.1, asks.1) refl in
      let noticed : a'.notice_answer ≡ b.notice_answer = rw tells.1 refl in
      let state : limiter_after a' l ≡ l.told = rw tells.1 refl in (
        l.asked,
        rw asks.0 (rw answered at (allows.asks (rw (tells.1, asks.1) refl))),
        rw (state, tells.0, ← noticed) (allows.tells (rw tells.1 refl) cause),
      )

  -- every end of an attempt is one by the rules
  by_outcome : (outcome : AttemptOutcome E)
      → Follows e (optional_rules host_rules) (Some (fresh a)) outcome (Some a')
      → Follows e rules l.before outcome (limiter_after a' l)
  by_outcome (Unasked cause) same = let e : a' ≡ fresh a = cc in rw e refl
  by_outcome (Denied answer) asks = by_answer answer asks
  by_outcome Met asks = by_answer (Ok true) asks
  by_outcome (Failed cause notice_answer) fails = by_failure cause notice_answer fails.0 fails.1 fails.2

-- a growth by the host's answers is one by the rules that allow them
pub settled_growth : {V E S : Type 0} (rules : Rules S) (g : Growth V E) (x : V)
    → SettlesGrowth rules g x
settled_growth rules g x x' m m' a a' l result charge grows allows =
    growth_by g l.before (limiter_after a' l) (λ same. let e : a' ≡ fresh a = cc in rw e refl)
    (by_outcome rules g.request a a' l allows) grows

-- a creation by the host's answers is one by the rules that allow them
pub settled_creation : {T E S : Type 0} (rules : Rules S) (e : Request (Unit {0}) E) (made : T)
    → SettlesCreation rules e made
settled_creation rules e made a a' l result makes allows = (
  makes.0,
  attempt_by l.before (limiter_after a' l) makes.1 (by_outcome rules e a a' l allows makes.0 makes.1.follows),
  makes.2,
)
