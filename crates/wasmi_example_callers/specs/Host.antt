-- What a host says of a plug-in that ran under a quota, the bill of a run, and the rules of a limiter of one's own,
-- which permits memories up to a number of bytes.
use Rattle.std.specs.Prelude.{◌≡◌, ℕ, List, Some, Bool, false, nat_le, Ok, ◌+◌, map}
use Rattle.wasmi_meter.specs.declared.limiter.Kind.TheVariants.{Bytes, Elements}
use Rattle.wasmi_meter.specs.declared.{quota.Quota.Quota, limiter.Kind.Kind}
use Rattle.wasmi_meter.specs.Limiter.{optional_rules, Rules}
use Rattle.wasmi_meter.specs.Meter.{Meter, amount_left}
use Rattle.wasmi_meter.specs.Capped.{cap_of, quota_rules}
use Rattle.wasmi_core.specs.Types.{Call, Reply}
use Rattle.wasmi_core.specs.State.{State, new_state, world, World, Turn}
use Rattle.wasmi_core.specs.Steps.{IsRunOf, Run}
use Rattle.wasmi_example_callers.specs.declared.limiter.AtMost.{AtMost}
use Rattle.wasmi_core.specs.Account.{charges}

-- a new machine with this meter has run the calls under a quota with these caps
pub record RunsUnderQuota (bytes elements : ℕ) (meter : Meter) (calls : List Call) (replies : List Reply) (s : State)
    : Type 0 where
  pub quota : Quota
  pub bytes_cap : cap_of quota Bytes ≡ bytes
  pub elements_cap : cap_of quota Elements ≡ elements
  pub quota' : Quota
  pub ran : IsRunOf (optional_rules quota_rules) calls (world (new_state meter) (Some quota)) replies (world s (Some
      quota'))

-- whether the limiter permits so many of a kind
abbrev pub permits : AtMost → Kind → ℕ → Bool
permits limiter Bytes desired = nat_le desired limiter.bytes
permits limiter Elements desired = false

-- the rules of the limiter: it answers what it permits, accepts each notice, and stays the same
abbrev pub at_most_rules : Rules AtMost
at_most_rules = record {
  asked = λ l q answer l'. (answer ≡ Ok (permits l q.kind q.desired)) × (l' ≡ l);
  noticed = λ l failure notice_answer l'. (notice_answer ≡ Ok tt) × (l' ≡ l);
}

-- turns were charged this much, and what was left before them is what is left after them and that
pub record Accounts (turns : List Turn) (before charged after : ℕ) : Type 0 where
  pub charges_of : charges turns ≡ charged
  pub left : after + charged ≡ before

-- The bill of a run, each turn of which says what its call was charged: it is right where metering was on.
abbrev pub IsBill : {S : Type 0} → Rules S → List Call → World S → List Reply → ℕ → World S → Type 0
IsBill rules calls w replies charged w' =
    (turns : List Turn) × (map Turn.call turns ≡ calls) × (map Turn.reply turns ≡ replies) × Run rules w turns w'
    × ((left : ℕ) → w.state.meter.left ≡ Some left → Accounts turns left charged (amount_left w'.state.meter))
