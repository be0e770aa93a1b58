-- What the run of a script leaves in the bytes of a caller.
use Rattle.std.specs.Prelude.{◌≡◌, ◌≤◌, ◌<◌, ◌⊎◌, ◌++◌, ℕ, List, [], Some, length, drop}
use Rattle.wasmi_script.specs.declared.replaying.Status.{Status}
use Rattle.wasmi_script.specs.Outcomes.{IsOutcomeOf, status_number, Replays}
use Rattle.wasmi_c.specs.declared.status.TheConstants.{TEXT_TOO_SHORT}

-- The script is run, and what it prints stands at the front of the caller's bytes, with the status of the run; or they
-- are too few for it, and stay. No read fails.
pub record AnswersScript (script old new : List ℕ) (needed status : ℕ) : Type 0 where
  pub printed : List ℕ
  pub ended : Status
  pub replays : Replays (IsOutcomeOf script) (Some []) (Some printed) (Unit {0}) ended
  pub length_needed : needed ≡ length printed
  pub answered : ((length printed ≤ length old) × (new ≡ printed ++ drop (length printed) old)
      × (status ≡ status_number ended))
      ⊎ ((length old < length printed) × (new ≡ old) × (status ≡ TEXT_TOO_SHORT))
