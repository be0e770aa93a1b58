-- One machine with its tenant: the tenant's rules, amounts by kind, what the machine has, and what the tenant and all
-- hold, before and after a call or a run, and calls that are replied to in the same way under each tenant.
use Rattle.std.proofs.Common.{◌≡◌, Option, Some, List, refl, sym, ◌∙◌, ℕ, ◌≤◌, ◌<◌, ◌^◌, None, length, [], ◌∷◌, sum, ap, arith, ⊎_elim}
use Rattle.std.proofs.lemmas.Option.{same_Some}
use Rattle.wasmi_meter.specs.declared.{limiter.Kind.Kind, quota.Amounts.Amounts}
use Rattle.wasmi_meter.specs.Capped.{amount_of, amounts_of, nothing, held_together}
use Rattle.wasmi_meter.specs.Limiter.{optional_rules}
use Rattle.wasmi_meter.proofs.CappedLemmas.{KeepsCaps}
use Rattle.wasmi_machine.specs.MemoryEffects.{WritesMemoryAt}
use Rattle.wasmi_machine.specs.State.{World, world, with_memories, State, total, sizes, HoldsTotals, IsRefusal, with_reserved}
use Rattle.wasmi_machine.specs.Exchange.{Exchange, Permission, GrowsBy, RepliesTo, place_of}
use Rattle.wasmi_machine.specs.Steps.{IsRunOf, RepliesWith, SomeCopy}
use Rattle.wasmi_machine.proofs.StoreLemmas.{changes_too, unasked_too, write_replies}
use Rattle.wasmi_machine.specs.Determinism.{IsDeterministic, AcceptsNotices}
use Rattle.wasmi_machine.proofs.DeterminismLemmas.{capped_unique}
use Rattle.wasmi_machine.proofs.EffectLemmas.{changes_kept}
use Rattle.wasmi_machine.proofs.ExchangeLemmas.{growths_are_permitted}
use Rattle.wasmi_machine.proofs.HoldingLemmas.{IsLater, run_is_later, totals_are_held}
use Rattle.wasmi_budget.specs.declared.tenant.Tenant.{Tenant}
use Rattle.wasmi_budget.specs.Pool.{capped_tenant, tenant_rules, holdings, ReservesElements, IsUnasked, RepliesUnasked, tenant_of, held_before, IsPart, RunsAsPart}
use Rattle.wasmi_meter.specs.declared.limiter.Kind.TheVariants.{Bytes, Elements}
use Rattle.wasmi_meter.specs.CappedProofs.{asked_reserves, noticed_gives_back}
use Rattle.wasmi_machine.specs.declared.{calls.Call.Call, calls.Reply.Reply, slots.SlotCounts.SlotCounts}
use Rattle.wasmi_machine.specs.declared.calls.Call.TheVariants.{Binary, CopyMemory, FillMemory, InitMemory, SetFuel, Store, Write}

-- the caps, and what the others hold, are the same with other holdings
pub tenant_keeps : KeepsCaps capped_tenant
tenant_keeps = record { cap = λ tenant h kind. refl; others = λ tenant h kind. refl }

-- a tenant leaves no choice
pub tenant_unique : IsDeterministic tenant_rules
tenant_unique = capped_unique capped_tenant

-- a tenant accepts each notice
pub tenant_accepts : AcceptsNotices tenant_rules
tenant_accepts tenant failure notice_answer tenant' noticed = noticed.accepts

-- the amount of a kind among amounts by kind
pub amount_is : {amounts : Amounts} (amount : Kind → ℕ) → amounts ≡ amounts_of amount → (kind : Kind)
    → amount_of amounts kind ≡ amount kind
amount_is amount is Bytes = ap (λ (a : Amounts). a.bytes) is
amount_is amount is Elements = ap (λ (a : Amounts). a.elements) is

-- amounts by kind that are the same of each kind
pub amounts_same : (amount amount' : Kind → ℕ) → ((kind : Kind) → amount kind ≡ amount' kind)
    → amounts_of amount ≡ amounts_of amount'
amounts_same amount amount' same = λ i. amounts_of (λ kind. same kind i)

-- amounts by kind, as a machine has and a tenant holds them, that are these of each kind
amounts_are : (amounts : Amounts) (amount : Kind → ℕ) → ((kind : Kind) → amount_of amounts kind ≡ amount kind)
    → amounts ≡ amounts_of amount
amounts_are amounts amount same = λ i. record { bytes = same Bytes i; elements = same Elements i }

-- a tenant that holds what a machine has
pub amount_held_total : (tenant : Tenant) (s : State) → HoldsTotals (holdings tenant) s → (kind : Kind)
    → amount_of tenant.holdings.held kind ≡ total s kind
amount_held_total tenant s held Bytes = held.bytes
amount_held_total tenant s held Elements = held.elements

-- the amounts of a tenant that holds what a machine has are that machine's totals
pub held_total : (tenant : Tenant) (s : State) → HoldsTotals (holdings tenant) s
    → (holdings tenant).held ≡ amounts_of (total s)
held_total tenant s held = amounts_are tenant.holdings.held (total s) (amount_held_total tenant s held)

-- a machine with its limiter, lent
abbrev lent : World Tenant → World (Option Tenant)
lent w = world w.state (Some w.limiter)

-- after one call a tenant that held what its machine had holds what that has then
pub step_holds : (w w' : World Tenant) (call : Call) (reply : Reply) → HoldsTotals (holdings w.limiter) w.state
    → RepliesWith (optional_rules tenant_rules) call (lent w) reply (lent w') → HoldsTotals (holdings w'.limiter) w'.state
step_holds w w' call reply held (charge, written, step) =
    let after = totals_are_held tenant_rules holdings
    (record { reserves = asked_reserves capped_tenant; gives_back = noticed_gives_back capped_tenant }) w.state w.limiter
    held (record { call = call; reply = reply; charge = charge; written = written } ∷ []) (lent w') (lent w', step, refl) in
    rw (same_Some w'.limiter after.0 after.1) after.2

-- a machine has what it had where the reply is a refusal
pub refused_total : (w w' : World Tenant) (call : Call) (reply : Reply) → IsRefusal reply
    → RepliesWith (optional_rules tenant_rules) call (lent w) reply (lent w')
    → (kind : Kind) → total w'.state kind ≡ total w.state kind
refused_total w w' call reply refusal (charge, written, step) kind =
    let passed = growths_are_permitted (optional_rules tenant_rules) (lent w)
    (record { call = call; reply = reply; charge = charge; written = written }) (lent w') step in
    by passed.exchange passed.replies passed.grows
  where
    by : (exchange : Exchange) → RepliesTo exchange reply
        → GrowsBy (place_of call) exchange (sizes w.state) (sizes w'.state) → total w'.state kind ≡ total w.state kind
    by (Permission question) replies grows = absurd (replies refusal)
    by exchange replies grows = ap sum (grows kind)

-- a machine that has a part of what all hold
module _ {caps all held : Amounts} {s now : State} (view : s ≡ now) (is : held ≡ amounts_of (total s))
    (part : IsPart caps all now) where
  -- all hold as much
  pub part_held : (kind : Kind) → amount_of held kind ≤ amount_of all kind
  part_held kind = omega (arith, amount_is (total s) is kind, ap (λ t. total t kind) view, part.counted kind)

  module _ {tenant : Tenant} (tenant_is : tenant ≡ tenant_of caps all held) where
    -- its tenant holds what it has
    pub part_holds : HoldsTotals (holdings tenant) s
    part_holds = rw (tenant_is, is) (record { bytes = refl; elements = refl })

    -- all hold what the tenant and the others do
    part_together : (kind : Kind) → held_together capped_tenant tenant kind ≡ amount_of all kind
    part_together Bytes = rw tenant_is (omega (arith, part_held Bytes))
    part_together Elements = rw tenant_is (omega (arith, part_held Elements))

    module _ {calls : List Call} {replies : List Reply} {s' : State} {tenant' : Tenant}
        (ran : IsRunOf (optional_rules tenant_rules) calls (world s (Some tenant)) replies (world s' (Some tenant')))
      where
        -- the tenant stays within the caps
        part_stays : IsLater capped_tenant tenant tenant'
        part_stays = run_is_later capped_tenant tenant_keeps tenant (λ kind.
            let cap = ap (λ (t : Tenant). amount_of t.caps kind) tenant_is in
            omega (arith, part_together kind, cap, part.within kind)) s ran.0 (world s' (Some tenant')) ran.3

        -- what all hold then are numbers of 64 bits
        pub part_fits : (kind : Kind) → held_together capped_tenant tenant' kind < 2 ^ 64
        part_fits kind =
            let own = ap (λ (t : Tenant). amount_of t.caps kind) tenant_is in
            omega (arith, part_stays.within kind, part_stays.caps kind, own, part.fits kind)

        -- all held what it held and what the others hold
        part_before : (kind : Kind) → amount_of all kind ≡ held_before tenant' held kind
        part_before kind =
            let own = ap (λ (t : Tenant). amount_of t.holdings.held kind) tenant_is in
            omega (arith, part_together kind, part_stays.others kind, own)

        -- the amounts of all are those
        pub all_before : all ≡ amounts_of (held_before tenant' held)
        all_before = amounts_are all (held_before tenant' held) part_before

        module _ (holds : HoldsTotals (holdings tenant') s') where
          -- the machine has run as a part, where all hold then what the tenant and the others do
          pub runs_as_part : (all' : Amounts) → all' ≡ amounts_of (held_together capped_tenant tenant')
              → RunsAsPart caps all now calls replies s' all'
          runs_as_part all' together = rw (← view)
              (record { tenant' = tenant'; ran = rw (tenant_is, is) at ran; holds = holds; together = together })

          -- all hold what they held, where it has what it had
          pub all_same : ((kind : Kind) → total s' kind ≡ total s kind)
              → all ≡ amounts_of (held_together capped_tenant tenant')
          all_same same = amounts_are all (held_together capped_tenant tenant') (λ kind.
              let own = amount_held_total tenant' s' holds kind ∙ same kind ∙ sym (amount_is (total s) is kind) in
              omega (arith, part_before kind, own))

-- amounts that were those of a machine are those of one that has as much
pub counted_alike : {held : Amounts} (s s' : State) → ((kind : Kind) → total s' kind ≡ total s kind)
    → held ≡ amounts_of (total s) → held ≡ amounts_of (total s')
counted_alike s s' same is = is ∙ amounts_same (total s) (total s') (λ kind. sym (same kind))

-- what a machine has after a reply without its tenant is what it had
pub total_unasked : (s s' : State) (call : Call) (reply : Reply) → RepliesUnasked call s reply s' → (kind : Kind)
    → total s' kind ≡ total s kind
total_unasked s s' call reply unasked kind =
    let tenant : Tenant =
    record { caps = nothing; others = nothing; holdings = record { held = amounts_of (total s); last = None } } in
    let held = step_holds (world s tenant) (world s' tenant) call reply (record { bytes = refl; elements = refl })
    (unasked tenant) in
    sym (amount_held_total tenant s' held kind) ∙ amount_is (total s) refl kind

-- a write of bytes is the reply to the call `Write` with a copy of them, the same under each tenant
pub write_unasked : (memory offset : ℕ) (bytes : List ℕ) → length bytes < 2 ^ 63 → (s : State) (reply : Reply)
    (s' : State) → WritesMemoryAt memory offset bytes s.memories reply s'.memories
    → s' ≡ with_memories s s'.memories → SomeCopy bytes (λ copy. RepliesUnasked (Write memory offset copy) s reply s')
write_unasked memory offset bytes short s reply s' writes rest =
    let written = write_replies (optional_rules tenant_rules) memory offset bytes short s reply s' writes rest in
    (written.0, written.1, λ tenant. (0, 0, written.2 (Some tenant)))

-- a world under this tenant
abbrev under : Tenant → World (Option Tenant) → World (Option Tenant)
under tenant w = world w.state (Some tenant)

-- a call that asks no limiter is replied to in the same way under each tenant
pub replies_unasked : (call : Call) → IsUnasked call → (s : State) (reply : Reply) (s' : State)
    (limiter limiter' : Option Tenant)
    → RepliesWith (optional_rules tenant_rules) call (world s limiter) reply (world s' limiter')
    → RepliesUnasked call s reply s'
replies_unasked (Store op memory ptr offset value) unasked s reply s' limiter limiter' (charge, written, step) tenant =
    (charge, written, changes_too step step.machine step.effect (ap (under tenant) step.after))
replies_unasked (Binary op dst a b) unasked s reply s' limiter limiter' (charge, written, step) tenant =
    (charge, written, changes_too step step.machine step.effect (ap (under tenant) step.after))
replies_unasked (FillMemory memory dst value len) unasked s reply s' limiter limiter' (charge, written, step) tenant =
    (charge, written, unasked_too step step.part step.meter step.effect (ap (under tenant) step.after))
replies_unasked (CopyMemory into dst from src len) unasked s reply s' limiter limiter' (charge, written, step) tenant =
    (charge, written, unasked_too step step.part step.meter step.effect (ap (under tenant) step.after))
replies_unasked (InitMemory memory segment dst src len) unasked s reply s' limiter limiter' (charge, written, step) tenant =
    (charge, written, unasked_too step step.part step.meter step.effect (ap (under tenant) step.after))
replies_unasked (SetFuel fuel) unasked s reply s' limiter limiter' (charge, written, step) tenant =
    (charge, written, changes_too step step.machine step.effect (ap (under tenant) step.after))
replies_unasked call unasked s reply s' limiter limiter' step tenant = absurd unasked

-- a machine has what it had where slots are reserved
pub slots_alike : (more : SlotCounts) (s s' : State) → s' ≡ with_reserved s more → (kind : Kind)
    → total s' kind ≡ total s kind
slots_alike more s s' is Bytes = ap (λ (t : State). total t Bytes) is
slots_alike more s s' is Elements = ap (λ (t : State). total t Elements) is

-- a machine has what it had where elements of a table are reserved
pub elements_alike : (table elements : ℕ) (reply : Reply) (s s' : State)
    → ReservesElements s table elements reply s' → (kind : Kind) → total s' kind ≡ total s kind
elements_alike table elements reply s s' (tables, rest) Bytes = ap (λ (t : State). total t Bytes) rest
elements_alike table elements reply s s' (tables, rest) Elements =
    ap sum (changes_kept _ table s.tables reply s'.tables _
    (λ x x' changed. ⊎_elim (λ done. rw done.1 refl) (λ refused. rw refused.2 refl) changed) tables)
