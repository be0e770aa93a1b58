-- The machine that a script starts with, runs from it, and the parts that run one after the other on a pool.
use Rattle.std.proofs.Common.{◌≡◌, ◌∙◌, ℕ, List, Option, Vec, refl, ap, ◌+◌, ◌++◌, [], ◌∷◌, Some, append-nil, append_assoc, take}
use Rattle.wasmi_script.proofs.Common.{option_map, Call, Reply, State, World, world, region_bytes, start_of, tenant_start, AnswersParts, take_more, TenantRun}
use Rattle.wasmi_meter.specs.Limiter.{Rules}
use Rattle.wasmi_machine.specs.Steps.{IsRunOf}
use Rattle.wasmi_grammar.specs.declared.header.Header.{Header}
use Rattle.std.specs.List.{slice_get}
use Rattle.std.proofs.lemmas.Option.{slice_get_within, get_or_from_slice_get}
use Rattle.wasmi_budget.specs.Pool.{PoolValue, RunsTenant}

-- a machine with the meter, the slots and the region of these header lines is the one that a script starts with
pub starts : {A : Type 0} (header : Header) (machine : State) (seen region : Option (Vec ℕ A))
    → machine ≡ record (tenant_start header) { spare = option_map (λ bytes. bytes.items) seen }
    → seen ≡ region → option_map (λ bytes. bytes.items) region ≡ option_map region_bytes header.region
    → machine ≡ start_of header
starts header machine seen region made same filled =
    made ∙ (λ i. record (tenant_start header)
    { spare = (ap (option_map (λ bytes. bytes.items)) same ∙ filled) i })

-- a run from a machine and under a limiter is one from an equal machine and under an equal limiter
pub run_from : {L : Type 0} (rules : Rules L) (calls : List Call) (s start : State) (l limiter : L)
    (replies : List Reply) (w' : World L) → s ≡ start → l ≡ limiter
    → IsRunOf rules calls (world s l) replies w' → IsRunOf rules calls (world start limiter) replies w'
run_from rules calls s start l limiter replies w' same alike ran = rw (← same, ← alike) ran

-- one part more is run on a pool after others
one_part : (parts : List TenantRun) (replies : List Reply) (part : TenantRun) (answered : List Reply)
    (first pool last : PoolValue) → AnswersParts first parts replies pool
    → RunsTenant pool part.tenant part.calls answered last
    → AnswersParts first (parts ++ part ∷ []) (replies ++ answered) last
one_part [] replies part answered first pool last (none, same) more = (
  answered,
  [],
  last,
  rw (none, append-nil),
  rw same at more,
  (refl, refl),
)
one_part (p ∷ parts) replies part answered first pool last (front, later, middle, split, ran, rest) more = (
  front,
  later ++ answered,
  middle,
  rw (split, append_assoc),
  ran,
  one_part parts later part answered middle pool last rest more,
)

-- the part of an index is run on a pool after those before it
pub next_part : (parts : List TenantRun) (index : ℕ) (replies : List Reply) (part : TenantRun) (answered : List Reply)
    (first pool last : PoolValue) → slice_get parts index ≡ Some part
    → AnswersParts first (take index parts) replies pool → RunsTenant pool part.tenant part.calls answered last
    → AnswersParts first (take (index + 1) parts) (replies ++ answered) last
next_part parts index replies part answered first pool last found before ran =
    let within = slice_get_within parts index part found in
    rw (take_more parts index part within, get_or_from_slice_get parts index part part found)
    (one_part (take index parts) replies part answered first pool last before ran)
