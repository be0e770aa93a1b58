-- The calls of a script by parts, which `as` lines separate, and the places of the parts in the list of all calls.
use Rattle.std.specs.Prelude.{◌≡◌, ◌≤◌, ◌-◌, ℕ, List, [], ◌∷◌, ◌++◌, take, drop, length, flat_map}
use Rattle.wasmi_machine.specs.declared.calls.Call.{Call}
use Rattle.wasmi_grammar.specs.declared.script.Span.{Span}

-- the calls between two `as` lines, and whose they are
pub record TenantRun : Type 0 where
  pub tenant : ℕ
  pub calls : List Call

-- the parts before the last `as` line; after it, the tenant that it names and the calls so far
pub record PartsValue : Type 0 where
  pub earlier : List TenantRun
  pub tenant : ℕ
  pub calls : List Call

-- all parts, in order: without an `as` line there is one
abbrev pub parts_in : PartsValue → List TenantRun
parts_in parts = parts.earlier ++ record { tenant = parts.tenant; calls = parts.calls } ∷ []

-- the calls of parts, in order
abbrev pub calls_in : List TenantRun → List Call
calls_in parts = flat_map (λ part. part.calls) parts

-- the part whose calls stand at these places of a list
abbrev pub part_at : List Call → Span → TenantRun
part_at calls span = record { tenant = span.tenant; calls = take (span.end - span.start) (drop span.start calls) }

-- places of a list that follow one another, from one place on and up to another one
abbrev pub Follow : ℕ → List Span → ℕ → Type 0
Follow from [] to = from ≡ to
Follow from (span ∷ later) to = (span.start ≡ from) × (from ≤ span.end) × Follow span.end later to

-- the earlier parts have the calls up to a place of a list, one after another
pub record AreCut (spans : List Span) (start : ℕ) (calls : List Call) : Type 0 where
  pub follow : Follow 0 spans start
  pub within : start ≤ length calls
